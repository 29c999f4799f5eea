-- The judge and measuring are determined: any two answers that a promise permits are equal. And what a caller reads off a promise: a
-- picture that passes 1 to 5 is measured, and one without noise whose extremes pass is discarded by 8. Assumes nothing.
use mathlib.Core.Path.{◌≡◌, refl, sym, ap}
use mathlib.Core.Logic.{inl, inr}
use mathlib.Core.List.{List}
use Prim.Native.Nat.{ℕ, ◌-◌}
use lib.ListN.{length}
use Rattle.std.specs.Prelude.{Result, Ok, Err}
use Rattle.arithmetic.specs.Signed.{nat_of}
use Rattle.answers.proofs.Numbers.{one_refusal, some_number}
use Rattle.judge.specs.declared.Unmeasured.{Unmeasured}
use Rattle.answers.proofs.Refusals.{past, alike, together}
use Rattle.units.specs.declared.Eighths.{Eighths}
use Rattle.filter.specs.Filter.{pass_three}
use Rattle.filter.proofs.Outcomes.{Fits}
use Rattle.judge.specs.Extremes.{bright, dark}
use Rattle.judge.specs.Noise.{inner_pixels}
use Rattle.judge.specs.Judge.{Verdict, InRange, BrightInRange, DarkInRange, Rated, verdict, verdict_of, refused, JudgeIs}
use Rattle.judge.proofs.Ratios.{one_ratio}
use Rattle.judge.specs.Measure.{MeasurableSide, Judged, Measurement, measurement, Measured, MeasureIs}

-- a verdict is that of one answer only: so what a promise determines of a verdict, it determines of the answer
pub one_verdict : (a b : Result ℕ Unmeasured) → verdict_of a ≡ verdict_of b → a ≡ b
one_verdict (Ok q) (Ok q') e = ap Ok (ap (λ (v : Verdict). v.ratio) e)
one_verdict (Ok q) (Err u) e = absurd (some_number u.why (sym (ap (λ (v : Verdict). v.number) e)))
one_verdict (Err u) (Ok q) e = absurd (some_number u.why (ap (λ (v : Verdict). v.number) e))
one_verdict (Err u) (Err u') e =
    let why = one_refusal u.why u'.why (ap (λ (v : Verdict). v.number) e) in
    let ratio = ap (λ (v : Verdict). v.ratio) e in
    λ i. Err (record { why = why i; ratio = ratio i })

-- two verdicts past all tests have one ratio, and so one number
module _ (N : ℕ) (M m : Eighths) (D : ℕ) (v v' : Verdict) where
  one_rated : Rated N M m D v → Rated N M m D v' → v ≡ v'
  one_rated a b = λ i. verdict (number i) (ratio i)
    where
      ratio : v.ratio ≡ v'.ratio
      ratio = one_ratio N (M.0 - m.0) D v.ratio v'.ratio a.ratio b.ratio

      number : v.number ≡ v'.number
      number = together alike alike a.number (rw (← ratio) at b.number)

  -- any two verdicts that the judge's promise permits are equal
  pub one_judge : JudgeIs N M m D v → JudgeIs N M m D v' → v ≡ v'
  one_judge = together alike (together alike (together alike (together alike one_rated)))

-- "8 | D = 0", where the extremes pass
pub without_noise : (N : ℕ) (M m : Eighths) (v : Verdict) → InRange N M m 0 → BrightInRange M → DarkInRange m → JudgeIs N M m 0 v → v ≡ refused 8
without_noise N M m v taken bright_in dark_in j = elim (past dark_in (past bright_in (past taken j))) [
  | inl eight ↦ eight.1
  | inr some ↦ absurd (some.0 refl)
]

-- any two verdicts on one filtered picture are equal
pub one_judged : (levels filtered : List ℕ) (w h : ℕ) (v v' : Verdict) → Judged levels filtered w h v → Judged levels filtered w h v' → v ≡ v'
one_judged levels filtered w h v v' a b =
    one_judge (inner_pixels w h) (bright w h filtered) (dark w h filtered) b.spread v v' (rw spread at a.verdict_is) b.verdict_is
  where
    spread : a.spread ≡ b.spread
    spread = ap nat_of (alike a.spread_is b.spread_is)

-- any two outcomes that the promise of measuring permits are equal
module _ (levels : List ℕ) (w h : ℕ) (output work : List ℕ) (a b : Measurement) where
  one_measured : Measured levels w h output work a → Measured levels w h output work b → a ≡ b
  one_measured p q = λ i. measurement (v i) (o i) (k i)
    where
      v : a.verdict ≡ b.verdict
      v = one_judged levels (pass_three w h levels) w h a.verdict b.verdict p.judged q.judged

      o : a.output ≡ b.output
      o = alike p.filtered.is_pass_three q.filtered.is_pass_three

      k : a.work ≡ b.work
      k = alike p.filtered.is_pass_two q.filtered.is_pass_two

  pub one_measure : MeasureIs levels w h output work a → MeasureIs levels w h output work b → a ≡ b
  one_measure = together alike (together alike (together alike (together alike (together alike one_measured))))

-- past the sizes, with sides that can be measured
pub when_measured : (levels : List ℕ) (w h : ℕ) (output work : List ℕ) (r : Measurement) → Fits (length levels) w h (length output) (length work)
    → MeasurableSide w × MeasurableSide h → MeasureIs levels w h output work r → Measured levels w h output work r
when_measured levels w h output work r f sides is =
    past sides (past f.long_work (past f.long_output (past f.shape.all_levels (past f.shape.sides is))))
