-- A picture is discarded exactly where Annex A says so: the judge's ranges and its inequality are the annex's, in its own units.
-- Assumes nothing.
use mathlib.Core.Path.{◌≡◌, refl}
use mathlib.Core.List.{List}
use mathlib.Core.Logic.{◌⊎◌, inl, inr}
use Prim.Native.Nat.{ℕ, zero, suc, ◌+◌, ◌-◌, ◌*◌, ◌<◌, ◌≤◌}
use native.Mathlib.Nat.{mul-le-mul, mul-le-mul_left, mul-le-mul_right, le_of_mul-le-mul_right}
use native.Mathlib.Omega.{arith}
use lib.Dec.{lit≤}
use Rattle.answers.specs.Refusals.{Unless}
use Rattle.arithmetic.proofs.Order.{of_squares}
use Rattle.arithmetic.proofs.Greatest.{next_has_not}
use Rattle.units.specs.declared.Eighths.{Eighths}
use Rattle.filter.specs.Filter.{pass_three}
use Rattle.arithmetic.specs.declared.Fraction.{Fraction}
use Rattle.arithmetic.specs.Fractions.{fraction, NotMore}
use Rattle.judge.specs.Extremes.{bright, dark}
use Rattle.judge.specs.Noise.{inner_pixels}
use Rattle.judge.specs.Judge.{Verdict, InRange, BrightInRange, DarkInRange, Reaches, RatioIs, refused, JudgeIs}
use Rattle.judge.specs.Measure.{Judged, Measurement, Measured}
use Rattle.judge.specs.AnnexA.{plus, times, squared, span, deviation_squared, AverageInRange, RatioFrom, RatioTen, Unfit, Discarded, Exactly}
use Rattle.judge.proofs.Ratios.{reaches_falls}

-- "So q is the ratio in hundredths": the document's inequality is the annex's for q/100
pub reaches_is : (N : ℕ) (M m : Eighths) (D q : ℕ) → Exactly (Reaches N (M.0 - m.0) D q) (RatioFrom N M m D (fraction q 100))
reaches_is N M m D q = (λ h. omega (arith, h), λ h. omega (arith, h))

-- "rounded down": the ratio is q hundredths or more, and not q + 1; or it is below 0, and q is 0
pub rounded_down : (N : ℕ) (M m : Eighths) (D q : ℕ) → RatioIs N (M.0 - m.0) D q
    → (RatioFrom N M m D (fraction q 100) × (¬ RatioFrom N M m D (fraction (q + 1) 100))) ⊎ (((k : ℕ) → ¬ RatioFrom N M m D (fraction k 100)) × (q ≡ 0))
rounded_down N M m D q (inl g) = inl ((reaches_is N M m D q).0 g.holds, λ t. next_has_not g ((reaches_is N M m D (q + 1)).1 t))
rounded_down N M m D q (inr n) = inr (λ k t. n.0 k ((reaches_is N M m D k).1 t), n.1)

-- and at 1,000 it is the annex's for 10
ten_reaches : (N : ℕ) (M m : Eighths) (D : ℕ) → Exactly (Reaches N (M.0 - m.0) D 1000) (RatioTen N M m D)
ten_reaches N M m D = (λ h. omega (arith, h), λ h. omega (arith, h))

-- Annex A's deviation is a root, and for most pictures no fraction. The annex asks whether r + 1.38 deviations are at most
-- bright − dark, and `RatioFrom` asks it squared. The two say the same: `RatioFrom` gives the plain inequality for every fraction
-- s that is at most the deviation; and the plain inequality for one s that is at least the deviation gives `RatioFrom`. (Where the
-- deviation is a fraction, s is the deviation itself.)
module _ (N : ℕ) (M m : Eighths) (D : ℕ) (r s : Fraction) where
  abbrev Plain : Type 0
  Plain = NotMore (times (plus r (fraction 138 100)) s) (span M m)

  pub below_deviation : 1 ≤ N → NotMore (squared s) (deviation_squared N D) → RatioFrom N M m D r → Plain
  below_deviation some below ratio = go (plus r (fraction 138 100)).numerator (plus r (fraction 138 100)).denominator ratio
    where
      go : (a b : ℕ) → NotMore (times (squared (fraction a b)) (deviation_squared N D)) (squared (span M m)) → NotMore (times (fraction a b) s) (span M m)
      go a b ratio =
          of_squares (le_of_mul-le-mul_right
          (omega (arith, mul-le-mul_left (a * a * 16384) below, mul-le-mul_right (s.denominator * s.denominator) ratio))
          (let whole : 0 < 64 * (N * N) = omega (arith, mul-le-mul some some) in whole))

  pub above_deviation : 1 ≤ s.denominator → NotMore (deviation_squared N D) (squared s) → Plain → RatioFrom N M m D r
  above_deviation some above plain = go (plus r (fraction 138 100)).numerator (plus r (fraction 138 100)).denominator plain
    where
      go : (a b : ℕ) → NotMore (times (fraction a b) s) (span M m) → NotMore (times (squared (fraction a b)) (deviation_squared N D)) (squared (span M m))
      go a b plain =
          le_of_mul-le-mul_right
          (omega (arith, mul-le-mul_left (a * a * 16384) above, mul-le-mul_right (64 * (N * N)) (mul-le-mul plain plain)))
          (let whole : 0 < s.denominator * s.denominator = omega (arith, mul-le-mul some some) in whole)

-- the range tests in eighths are the range tests in levels
pub bright_is : (M : Eighths) → Exactly (BrightInRange M) (AverageInRange 170 245 M)
bright_is M = (λ p. (omega (arith, p), omega (arith, p)), λ p. (omega (arith, p), omega (arith, p)))

pub dark_is : (m : Eighths) → Exactly (DarkInRange m) (AverageInRange 10 80 m)
dark_is m = (λ p. (omega (arith, p), omega (arith, p)), λ p. (omega (arith, p), omega (arith, p)))

-- the ratio is 10 or more exactly where q is 1,000 or more
pub ten_is : (N : ℕ) (M m : Eighths) (D q : ℕ) → RatioIs N (M.0 - m.0) D q → Exactly (1000 ≤ q) (RatioTen N M m D)
ten_is N M m D q r = (λ p. (ten_reaches N M m D).0 (to r p), λ t. of r ((ten_reaches N M m D).1 t))
  where
    to : RatioIs N (M.0 - m.0) D q → 1000 ≤ q → Reaches N (M.0 - m.0) D 1000
    to (inl g) p = reaches_falls N (M.0 - m.0) D 1000 q p g.holds
    to (inr n) p = absurd (omega (arith, n.1))

    of : RatioIs N (M.0 - m.0) D q → Reaches N (M.0 - m.0) D 1000 → 1000 ≤ q
    of (inl g) h = g.most 1000 h
    of (inr n) h = absurd (n.0 1000 h)

-- noise that is not some is none
nil : (D : ℕ) → ¬ (¬ (D ≡ 0)) → D ≡ 0
nil zero h = refl
nil (suc D) h = absurd (h (λ e. omega (arith, e)))

-- of numbers that the judge takes
module _ (N : ℕ) (M m : Eighths) (D : ℕ) (v : Verdict) (taken : InRange N M m D) where
  -- a discarded picture in which something is amiss, or the number 0 where nothing is
  abbrev Agrees : Type 0
  Agrees = (Discarded v.number × Unfit N M m D) ⊎ ((v.number ≡ 0) × (¬ Unfit N M m D))

  refusal : (n : ℕ) → Discarded n → v ≡ refused n → Unfit N M m D → Agrees
  refusal n d e u = inl (rw e d, u)

  fit : BrightInRange M → DarkInRange m → ¬ (D ≡ 0) → RatioTen N M m D → ¬ Unfit N M m D
  fit b k d t (inl u) = u ((bright_is M).0 b)
  fit b k d t (inr (inl u)) = u ((dark_is m).0 k)
  fit b k d t (inr (inr (inl u))) = d u
  fit b k d t (inr (inr (inr u))) = u t

  past_all_tests : BrightInRange M → DarkInRange m → ¬ (D ≡ 0) → Exactly (1000 ≤ v.ratio) (RatioTen N M m D) → Unless (1000 ≤ v.ratio) (v.number ≡ 9) (v.number ≡ 0) → Agrees
  past_all_tests b k d ten (inl low) = inl (rw low.1 (lit≤ tt, lit≤ tt), inr (inr (inr (λ t. low.0 (ten.1 t)))))
  past_all_tests b k d ten (inr high) = inr (high.1, fit b k d (ten.0 high.0))

  agrees : JudgeIs N M m D v → Agrees
  agrees (inl fifteen) = absurd (fifteen.0 taken)
  agrees (inr (_, inl six)) = refusal 6 (lit≤ tt, lit≤ tt) six.1 (inl (λ w. six.0 ((bright_is M).1 w)))
  agrees (inr (_, inr (_, inl seven))) = refusal 7 (lit≤ tt, lit≤ tt) seven.1 (inr (inl (λ w. seven.0 ((dark_is m).1 w))))
  agrees (inr (_, inr (_, inr (_, inl eight)))) = refusal 8 (lit≤ tt, lit≤ tt) eight.1 (inr (inr (inl (nil D eight.0))))
  agrees (inr (_, inr (b, inr (k, inr (d, r))))) = past_all_tests b k d (ten_is N M m D v.ratio r.ratio) r.number

  -- discarded exactly where a stated range is left, the noise is nil or the ratio is below 10; and else the number is 0
  pub discarded_exactly : JudgeIs N M m D v → Exactly (Discarded v.number) (Unfit N M m D) × ((v.number ≡ 0) ⊎ Discarded v.number)
  discarded_exactly j = elim (agrees j) [
    | inl both ↦ ((λ _. both.1, λ _. both.0), inr both.0)
    | inr neither ↦ ((λ d. absurd (omega (arith, d, neither.0)), λ u. absurd (neither.1 u)), inl neither.0)
  ]

-- the same of a picture and what it was filtered to, whose numbers the judge always takes
module _ (levels filtered : List ℕ) (w h : ℕ) (v : Verdict) (j : Judged levels filtered w h v) where
  pub judged_discarded_exactly :
      Exactly (Discarded v.number) (Unfit (inner_pixels w h) (bright w h filtered) (dark w h filtered) j.spread) × ((v.number ≡ 0) ⊎ Discarded v.number)
  judged_discarded_exactly = discarded_exactly (inner_pixels w h) (bright w h filtered) (dark w h filtered) j.spread v j.in_range j.verdict_is

  -- its number is never 15
  pub never_fifteen : ¬ (v.number ≡ 15)
  never_fifteen e = elim judged_discarded_exactly.1 [ inl z ↦ omega (arith, z, e) | inr d ↦ omega (arith, d, e) ]

-- and of a picture that is measured
module _ (levels : List ℕ) (w h : ℕ) (output work : List ℕ) (r : Measurement) (d : Measured levels w h output work r) where
  abbrev number : ℕ
  number = r.verdict.number

  abbrev filtered : List ℕ
  filtered = pass_three w h levels

  pub measured_discarded_exactly : Exactly (Discarded number) (Unfit (inner_pixels w h) (bright w h filtered) (dark w h filtered) d.judged.spread) × ((number ≡ 0) ⊎ Discarded number)
  measured_discarded_exactly = judged_discarded_exactly levels filtered w h r.verdict d.judged

  pub measured_never_fifteen : ¬ (number ≡ 15)
  measured_never_fifteen = never_fifteen levels filtered w h r.verdict d.judged
