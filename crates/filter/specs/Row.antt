-- A row of a pass by itself: what `row` answers and leaves, of any four slices. The numbers 2, 3 and 15 are of document 01's table.
use Rattle.std.specs.Prelude.{◌≡◌, List, ◌++◌, ◌⊎◌, ℕ, ◌≤◌, length, drop}
use Rattle.answers.specs.Refusals.{Unless}
use Rattle.arithmetic.specs.Lists.{AtMost}
use Rattle.filter.specs.Median.{row_of}

-- how many values a row above or below one of n may have: none, where it is outside the picture, or as many
abbrev pub Beside : ℕ → ℕ → Type 0
Beside n values = (values ≡ 0) ⊎ (values ≡ n)

-- values that another pass may follow: their doubles are at most 2,040
abbrev pub Small : List ℕ → List ℕ → List ℕ → Type 0
Small above here below = AtMost 1_020 above × AtMost 1_020 here × AtMost 1_020 below

-- what the call answers and leaves: the number, and the output's elements
pub record RowOutcome : Type 0 where
  pub number : ℕ
  pub output : List ℕ

abbrev pub row_outcome : ℕ → List ℕ → RowOutcome
row_outcome n output = record { number = n; output = output }

-- 2 for a row beside that is neither outside nor as long as the one here, 3 for an output that is shorter than it, 15 for a value that
-- is too large, each with "nothing written"; else the row, and past it nothing changed
abbrev pub RowIs : List ℕ → List ℕ → List ℕ → List ℕ → RowOutcome → Type 0
RowIs above here below output r =
    Unless (Beside (length here) (length above) × Beside (length here) (length below)) (r ≡ row_outcome 2 output)
    (Unless (length here ≤ length output) (r ≡ row_outcome 3 output)
    (Unless (Small above here below) (r ≡ row_outcome 15 output)
    (r ≡ row_outcome 0 (row_of above here below ++ drop (length here) output))))
