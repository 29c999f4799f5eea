-- What a picture's line says (document 01, "The program": "For a picture it prints width, height, number, q, rounds,
-- numerator/denominator").
use Rattle.std.specs.Prelude.{◌≡◌, List, ◌⊎◌, ℕ, ◌*◌, length, Ok}
use Rattle.filter.specs.Filter.{pass_three}
use Rattle.judge.specs.Judge.{verdict_of}
use Rattle.judge.specs.Measure.{Judged}
use Rattle.threshold.specs.Histogram.{tally, Counted}
use Rattle.threshold.specs.TwoMeans.{TwoMeansIs, threshold_of}
use Rattle.gongspindle.specs.declared.levels.Line.{Line}

-- "a 16×16 picture", "a 64×64 picture"
abbrev pub SquarePicture : ℕ → List ℕ → Type 0
SquarePicture side levels = ((side ≡ 16) ⊎ (side ≡ 64)) × (length levels ≡ side * side)

-- number and q are the judge's verdict on the picture; rounds and the fraction are those of its filtered levels, counted
pub record LineIs (levels : List ℕ) (side : ℕ) (l : Line) : Type 0 where
  pub judged : Judged levels (pass_three side side levels) side side (verdict_of l.verdict)
  pub histogram : List ℕ
  pub counted : Counted (pass_three side side levels) (tally 0 histogram)
  pub rests : TwoMeansIs histogram (threshold_of (Ok l.threshold))
