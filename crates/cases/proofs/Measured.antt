-- Pictures that are measured, computed by antt: a test that finds the one verdict which the promise of measuring permits; and the larger
-- picture of docs/for-students.md. Assumes nothing.
use mathlib.Core.Path.{◌≡◌, ap, subst}
use mathlib.Core.List.{List, [], ◌∷◌}
use mathlib.Core.Logic.Dec
use mathlib.Core.Option.{Option, none, some, map, get}
use Prim.Native.Nat.{ℕ, ◌*◌, ◌%◌, ◌≤◌}
use native.Mathlib.Decide.{dec_le, ℕ_discrete}
use native.Mathlib.Omega.{arith}
use lib.ListN.{length}
use Rattle.arithmetic.specs.Lists.{joined}
use Rattle.arithmetic.specs.Signed.{nat_of}
use Rattle.arithmetic.specs.Sums.{sum, sumℤ, sum_overℤ}
use Rattle.arithmetic.proofs.Computed.{when}
use Rattle.filter.specs.Filter.{pass_three}
use Rattle.filter.proofs.Outcomes.{Fits}
use Rattle.filter.proofs.Examples.{three_holds, row as filter_row}
use Rattle.judge.specs.Extremes.{maximum, minimum, tile, over_tiles, bright, dark}
use Rattle.judge.specs.Noise.{inner_pixels, sum_inner, spread_of}
use Rattle.judge.specs.Judge.{Verdict, verdict, JudgeIs}
use Rattle.judge.specs.Measure.{MeasurableSide, Judged, Measurement, MeasureIs}
use Rattle.judge.proofs.Outcomes.{when_measured}
use Rattle.judge.proofs.Examples.{holds as judge_holds, row as judge_row}

-- with buffers that are long enough, whatever the promise of measuring permits has this verdict
abbrev pub Measures : ℕ → ℕ → List ℕ → Verdict → Type 0
Measures w h levels v =
    (output work : List ℕ) → w * h ≤ length output → w * h ≤ length work → (r : Measurement)
    → MeasureIs levels w h output work r → r.verdict ≡ v

-- whatever the judge's promise permits of the picture's own numbers is this verdict
abbrev pub Judges : ℕ → ℕ → List ℕ → List ℕ → Verdict → Type 0
Judges w h levels filtered v =
    (u : Verdict) → JudgeIs (inner_pixels w h) (bright w h filtered) (dark w h filtered) (nat_of (spread_of w h levels filtered)) u → u ≡ v

-- a picture that 1, 2 and 5 do not refuse
abbrev pub Good : ℕ → ℕ → ℕ → Type 0
Good levels w h = ((MeasurableSide w × MeasurableSide h) × ((w ≤ 1024) × (h ≤ 1024))) × (levels ≡ w * h)

-- it has the judge's verdict on what it is filtered to
pub measures : (w h : ℕ) (levels filtered : List ℕ) (v : Verdict) → Good (length levels) w h → pass_three w h levels ≡ filtered
    → Judges w h levels filtered v → Measures w h levels v
measures w h levels filtered v good three only output work long_output long_work r is =
    only r.verdict
    (subst (λ (D : ℕ). JudgeIs (inner_pixels w h) (bright w h filtered) (dark w h filtered) D r.verdict) (ap nat_of judged.spread_is)
    judged.verdict_is)
  where
    fits : Fits (length levels) w h (length output) (length work)
    fits =
        let sides = good.0 in
        record {
          shape = record { sides = ((omega arith, omega arith), (omega arith, omega arith)); all_levels = good.1 };
          long_output = long_output;
          long_work = long_work;
        }

    judged : Judged levels filtered w h r.verdict
    judged = subst (λ (x : List ℕ). Judged levels x w h r.verdict) three (when_measured levels w h output work r fits good.0.0 is).judged

-- the tests: the sides and the levels, pass three, and the judge's table
good : (levels w h : ℕ) → Dec (Good levels w h)
good levels w h =
    Dec.and (Dec.and (Dec.and (measurable w) (measurable h)) (Dec.and (dec_le w 1024) (dec_le h 1024))) (ℕ_discrete levels (w * h))
  where
    measurable : (side : ℕ) → Dec (MeasurableSide side)
    measurable side = Dec.and (ℕ_discrete (side % 4) 0) (dec_le 8 side)

judges : (w h : ℕ) (levels filtered : List ℕ) (n q : ℕ) → Option (Judges w h levels filtered (verdict n q))
judges w h levels filtered n q =
    judge_holds
    (judge_row (inner_pixels w h) (over_tiles maximum w h filtered) (over_tiles minimum w h filtered) (nat_of (spread_of w h levels filtered))
    n q)

-- a picture and its eighths, then the number and q
unfoldable pub holds : (w h : ℕ) (levels filtered : List ℕ) (n q : ℕ) → Option (Measures w h levels (verdict n q))
unfolding dec_le ℕ_discrete Dec.and when good judges joined sum maximum minimum tile over_tiles
    sumℤ sum_overℤ sum_inner spread_of three_holds judge_holds
holds w h levels filtered n q = elim (when (good (length levels) w h)) [
  | some p ↦ elim (three_holds (filter_row w h levels filtered)) [
    | some three ↦ map (measures w h levels filtered (verdict n q) p three) (judges w h levels filtered n q)
    | none ↦ none
  ]
  | none ↦ none
]

-- ---- the larger picture of docs/for-students.md, and its eighths
abbrev pub larger : List ℕ
larger =
    251 ∷ 67 ∷ 69 ∷ 250 ∷ 251 ∷ 71 ∷ 69 ∷ 248 ∷
    248 ∷ 73 ∷ 68 ∷ 253 ∷ 253 ∷ 68 ∷ 70 ∷ 247 ∷
    247 ∷ 70 ∷ 69 ∷ 253 ∷ 249 ∷ 71 ∷ 72 ∷ 252 ∷
    249 ∷ 67 ∷ 70 ∷ 250 ∷ 247 ∷ 67 ∷ 70 ∷ 248 ∷
    250 ∷ 71 ∷ 72 ∷ 253 ∷ 250 ∷ 72 ∷ 71 ∷ 251 ∷
    250 ∷ 67 ∷ 67 ∷ 251 ∷ 252 ∷ 68 ∷ 69 ∷ 249 ∷
    249 ∷ 70 ∷ 69 ∷ 250 ∷ 247 ∷ 69 ∷ 70 ∷ 248 ∷
    251 ∷ 70 ∷ 69 ∷ 250 ∷ 248 ∷ 67 ∷ 69 ∷ 252 ∷ []

abbrev pub larger_eighths : List ℕ
larger_eighths =
    746 ∷ 568 ∷ 568 ∷ 1992 ∷ 1992 ∷ 568 ∷ 568 ∷ 743 ∷
    744 ∷ 568 ∷ 568 ∷ 1992 ∷ 1992 ∷ 576 ∷ 576 ∷ 747 ∷
    744 ∷ 568 ∷ 568 ∷ 1992 ∷ 1992 ∷ 576 ∷ 576 ∷ 747 ∷
    744 ∷ 568 ∷ 568 ∷ 1992 ∷ 1992 ∷ 576 ∷ 576 ∷ 751 ∷
    744 ∷ 568 ∷ 568 ∷ 1984 ∷ 1984 ∷ 576 ∷ 576 ∷ 748 ∷
    744 ∷ 568 ∷ 568 ∷ 1980 ∷ 1980 ∷ 576 ∷ 576 ∷ 748 ∷
    743 ∷ 568 ∷ 568 ∷ 1980 ∷ 1980 ∷ 568 ∷ 568 ∷ 741 ∷
    743 ∷ 568 ∷ 568 ∷ 1980 ∷ 1980 ∷ 568 ∷ 568 ∷ 741 ∷ []

-- it is measured: the ratio is 38.43
pub larger_measured : Measures 8 8 larger (verdict 0 3843)
unfolding holds
larger_measured = get (holds 8 8 larger larger_eighths 0 3843) tt
