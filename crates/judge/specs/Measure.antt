-- Document 01, "Extremes and noise", and number 5 of its table, both with document 02, P3: measuring, on the filter's promise.
use Rattle.std.specs.Prelude.{◌≡◌, List, ℕ, ◌%◌, ◌≤◌, length, pos}
use Rattle.answers.specs.Refusals.{Unless}
use Rattle.filter.specs.Filter.{pass_three, Sized, Filtered, outcome}
use Rattle.judge.specs.Extremes.{bright, dark}
use Rattle.judge.specs.Noise.{inner_pixels, spread_of}
use Rattle.judge.specs.Judge.{InRange, Verdict, JudgeIs, refused}

-- "w and h must be multiples of 4"; "5 is also given when a side is below 8" (document 02, P3)
abbrev pub MeasurableSide : ℕ → Type 0
MeasurableSide side = (side % 4 ≡ 0) × (8 ≤ side)

-- the judge's verdict on a picture of levels and what it was filtered to: on the picture's own N, M, m and D, where N and D are those
-- of the inner picture, and "Extremes still use the whole picture" (document 02, P3). D is a natural number, and the four are always
-- what the judge takes, so that a measured picture is never refused by 15.
pub record Judged (levels filtered : List ℕ) (w h : ℕ) (v : Verdict) : Type 0 where
  pub spread : ℕ
  pub spread_is : pos spread ≡ spread_of w h levels filtered
  pub in_range : InRange (inner_pixels w h) (bright w h filtered) (dark w h filtered) spread
  pub verdict_is : JudgeIs (inner_pixels w h) (bright w h filtered) (dark w h filtered) spread v

-- what measuring answers and leaves: the verdict, and the elements of both buffers
pub record Measurement : Type 0 where
  pub verdict : Verdict
  pub output : List ℕ
  pub work : List ℕ

abbrev pub measurement : Verdict → List ℕ → List ℕ → Measurement
measurement v output work = record { verdict = v; output = output; work = work }

-- "buffers filtered": as the filter leaves them where it is done; and the verdict on pass three
pub record Measured (levels : List ℕ) (w h : ℕ) (output work : List ℕ) (r : Measurement) : Type 0 where
  pub filtered : Filtered levels w h output work (outcome 0 r.output r.work)
  pub judged : Judged levels (pass_three w h levels) w h r.verdict

-- "nothing written" where one of 1 to 4 comes back, or "5 | measuring, a side no multiple of 4", or one below 8
abbrev pub MeasureIs : List ℕ → ℕ → ℕ → List ℕ → List ℕ → Measurement → Type 0
MeasureIs levels w h output work r =
    Sized (length levels) w h (length output) (length work) (λ n. r ≡ measurement (refused n) output work)
    (Unless (MeasurableSide w × MeasurableSide h) (r ≡ measurement (refused 5) output work)
    (Measured levels w h output work r))
