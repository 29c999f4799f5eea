-- What the calls say of a picture of the program's, put together. Assumes nothing.
use mathlib.Core.Path.{◌≡◌, refl, ap, sym, subst, ◌∙◌}
use mathlib.Core.List.{List}
use mathlib.Core.Logic.{◌⊎◌, inl, inr}
use Prim.Native.Nat.{ℕ, ◌*◌, ◌≤◌}
use native.Mathlib.Omega.{arith}
use lib.Dec.{lit≤}
use lib.ListN.{length, take, drop}
use lib.Seq.{take-append_seam}
use Rattle.std.specs.Prelude.{Result, Ok, Err}
use Rattle.std.specs.Result.{IsOk}
use Rattle.answers.specs.Numbers.{told}
use Rattle.answers.specs.declared.Refusal.{Refusal}
use Rattle.answers.proofs.Numbers.{some_number}
use Rattle.answers.proofs.Refusals.{past}
use Rattle.picture.specs.Picture.{Side}
use Rattle.picture.proofs.Shapes.{WellShaped}
use Rattle.filter.specs.Filter.{pass_three}
use Rattle.judge.specs.declared.Unmeasured.{Unmeasured}
use Rattle.judge.specs.Judge.{Verdict, verdict_of}
use Rattle.judge.specs.Measure.{MeasurableSide, Judged, Measurement, measurement, Measured, MeasureIs}
use Rattle.judge.proofs.Outcomes.{when_measured}
use Rattle.threshold.specs.declared.Resting.{Resting}
use Rattle.threshold.specs.Histogram.{Countable, tally, Counted, CountIs}
use Rattle.threshold.specs.TwoMeans.{TwoMeansIs, threshold_of}
use Rattle.gongspindle.specs.Line.{SquarePicture, LineIs}

-- a side of 16 or 64 is in range and can be measured, and its square has room in 4,096 places
pub record GoodSide (side : ℕ) : Type 0 where
  pub in_range : Side side
  pub measurable : MeasurableSide side
  pub some : 1 ≤ side * side
  pub few : side * side ≤ 4096

pub good_side : {side : ℕ} → (side ≡ 16) ⊎ (side ≡ 64) → GoodSide side
good_side (inl e) = rw e (record { in_range = (lit≤ tt, lit≤ tt); measurable = (refl, lit≤ tt); some = lit≤ tt; few = lit≤ tt })
good_side (inr e) = rw e (record { in_range = (lit≤ tt, lit≤ tt); measurable = (refl, lit≤ tt); some = lit≤ tt; few = lit≤ tt })

module _ (levels : List ℕ) (side : ℕ) (square : SquarePicture side levels) where
  abbrev F : GoodSide side
  F = good_side square.0

  -- so measuring refuses nothing
  measured : (output work : List ℕ) (r : Measurement) → 4096 ≡ length output → 4096 ≡ length work → MeasureIs levels side side output work r
      → Measured levels side side output work r
  measured output work r a b is =
      let few = F.few in
      let shape : WellShaped (length levels) side side = record { sides = (F.in_range, F.in_range); all_levels = square.1 } in
      when_measured levels side side output work r (record { shape = shape; long_output = omega arith; long_work = omega arith })
      (F.measurable, F.measurable) is

  -- what was measured, and counted, whose number is 0
  pub record Seen (v : Verdict) (n : ℕ) (counts : List ℕ) : Type 0 where
    pub judged : Judged levels (pass_three side side levels) side side v
    pub counted : Counted (pass_three side side levels) (tally n counts)

  pub seen : (output work o k histogram counts : List ℕ) (v : Verdict) (n : ℕ) → 4096 ≡ length output → 4096 ≡ length work
      → length histogram ≡ 256 → MeasureIs levels side side output work (measurement v o k)
      → CountIs (take (length levels) o) histogram (tally n counts) → Seen v n counts
  seen output work o k histogram counts v n a b places measuring counting =
      record {
        judged = m.judged;
        counted = past countable (past places (subst (λ (x : List ℕ). CountIs x histogram (tally n counts)) values counting));
      }
    where
      m : Measured levels side side output work (measurement v o k)
      m = measured output work (measurement v o k) a b measuring

      -- the values that were counted are pass three
      values : take (length levels) o ≡ pass_three side side levels
      values =
          ap (λ (n : ℕ). take n o) (square.1 ∙ sym m.filtered.long)
          ∙ ap (take (length (pass_three side side levels))) m.filtered.is_pass_three
          ∙ take-append_seam (pass_three side side levels) (drop (side * side) output)

      countable : Countable (pass_three side side levels)
      countable =
          let long = m.filtered.long in
          let some = F.some in
          let few = F.few in
          record { some = omega arith; few = omega arith; small = m.filtered.most }

  -- and the threshold of the counts: that is the line
  pub line : {n : ℕ} {counts : List ℕ} (v : Result ℕ Unmeasured) {r : Result Resting Refusal} (t : Resting) → Seen (verdict_of v) n counts → r ≡ Ok t
      → TwoMeansIs counts (threshold_of r) → LineIs levels side (record { verdict = v; threshold = t })
  line {n} {counts} v t s is rests =
      record {
        judged = s.judged;
        histogram = counts;
        counted = record { number = refl; places = s.counted.places; counts = s.counted.counts; total_is = s.counted.total_is };
        rests = subst (λ (r : Result Resting Refusal). TwoMeansIs counts (threshold_of r)) is rests;
      }

-- a call whose number is 0 is done
pub is_done : {A : Type 0} (r : Result A Refusal) → told r ≡ 0 → IsOk r
is_done (Ok a) zero = refl
is_done (Err why) zero = absurd (some_number why zero)
