-- What a worked example of the two means says besides its answer: the histogram, and the thresholds on the way. No promise cites this; the
-- tables of examples do (proofs/Examples.antt, and cases/specs/Rows.antt).
use Rattle.std.specs.Prelude.{◌≡◌, List, [], ◌∷◌, ℕ, replicate, set}
use Rattle.arithmetic.specs.declared.Fraction.{Fraction}
use Rattle.threshold.specs.TwoMeans.{round, Rests}

-- a histogram of 256 counts, from pairs of a level and how often it was counted
abbrev pub histogram : List (ℕ × ℕ) → List ℕ
histogram [] = replicate 256 0
histogram (c ∷ cs) = set (histogram cs) c.0 c.1

-- a walk: the thresholds after T, each a round from the one before, and U the answer at the last, which rests, as none before it does
abbrev pub Walk : List ℕ → Fraction → List Fraction → Fraction → Type 0
Walk h T [] U = Rests h T × (round h T ≡ U)
Walk h T (S ∷ l) U = (¬ Rests h T) × ((round h T ≡ S) × Walk h S l U)
