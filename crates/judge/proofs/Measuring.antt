-- What measuring gives back and leaves, from the filter's promise alone. Assumes nothing.
use mathlib.Core.Path.{◌≡◌, ap, ◌∙◌}
use mathlib.Core.List.{List}
use Prim.Native.Nat.{ℕ, ◌*◌}
use lib.ListN.{length, take, drop}
use lib.Seq.{take_at}
use Rattle.answers.specs.Refusals.{Unless}
use Rattle.answers.proofs.Refusals.{stops, goes_on, carried}
use Rattle.filter.specs.Filter.{pass_three, Sized, outcome, Filtered, FilterIs}
use Rattle.picture.proofs.Shapes.{passes_both}
use Rattle.filter.proofs.Outcomes.{Fits, when_fits}
use Rattle.judge.specs.Judge.{Verdict, refused}
use Rattle.judge.specs.Measure.{MeasurableSide, Judged, Measurement, measurement, Measured, MeasureIs}
use Rattle.judge.specs.Asked.{Tiled}

module _ (levels : List ℕ) (w h : ℕ) (output work : List ℕ) where
  -- a call refused for its sizes: the number, and nothing written
  pub refused_for_sizes : (n : ℕ) (v : Verdict) → ¬ (n ≡ 0) → v ≡ refused n
      → Sized (length levels) w h (length output) (length work) (λ k. n ≡ k) (n ≡ 0)
      → MeasureIs levels w h output work (measurement v output work)
  refused_for_sizes n v some is = carried back (carried back (carried back (carried back (λ z. absurd (some z)))))
    where
      back : {k : ℕ} → n ≡ k → measurement v output work ≡ measurement (refused k) output work
      back e = ap (λ (u : Verdict). measurement u output work) (is ∙ ap refused e)

  module _ (f : Fits (length levels) w h (length output) (length work)) where
    -- past the sizes
    fitting : (r : Measurement)
        → Unless (MeasurableSide w × MeasurableSide h) (r ≡ measurement (refused 5) output work) (Measured levels w h output work r)
        → MeasureIs levels w h output work r
    fitting r rest = passes_both f.shape (goes_on f.long_output (goes_on f.long_work rest))

    -- a side that cannot be measured
    pub refused_by_five : (v : Verdict) → ¬ (MeasurableSide w × MeasurableSide h) → v ≡ refused 5
        → MeasureIs levels w h output work (measurement v output work)
    refused_by_five v not is = fitting (measurement v output work) (stops not (ap (λ (u : Verdict). measurement u output work) is))

    -- a picture that is filtered: its output starts with pass three, which can be cut into tiles
    module _ (sides : MeasurableSide w × MeasurableSide h) (n : ℕ) (output' work' : List ℕ)
        (promise : FilterIs levels w h output work (outcome n output' work')) where
      filtered : Filtered levels w h output work (outcome n output' work')
      filtered = when_fits levels w h output work (outcome n output' work') f promise

      starts : take (w * h) output' ≡ pass_three w h levels
      starts = ap (take (w * h)) filtered.is_pass_three ∙ take_at (pass_three w h levels) (drop (w * h) output) (w * h) filtered.long

      -- it can be cut into tiles
      pub tiled : Tiled w h (take (w * h) output')
      tiled = rw starts (record { sides = f.shape.sides; measurable = sides; whole = filtered.long; small = filtered.most })

      -- and with the judge's verdict on it measuring is done
      pub done : (v : Verdict) → Judged levels (take (w * h) output') w h v → MeasureIs levels w h output work (measurement v output' work')
      done v j =
          fitting (measurement v output' work')
          (goes_on sides (record { filtered = rw filtered.number at filtered; judged = rw starts at j }))
