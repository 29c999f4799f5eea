-- What the functions inside this crate ask of their arguments and give back. No promise cites this.
use Rattle.std.specs.Prelude.{◌≡◌, List, ℕ, ◌+◌, ◌-◌, ◌*◌, ◌/◌, ◌%◌, ◌≤◌, length, get_or, ℤ, pos, ◌*ℤ◌}
use Rattle.arithmetic.specs.Signed.{nat_of}
use Rattle.arithmetic.specs.Sums.{sumℤ}
use Rattle.units.specs.declared.Sixteenths.{Sixteenths}
use Rattle.sample.specs.declared.coordinate.Coordinate.{Coordinate}
use Rattle.sample.specs.Cubic.{weight}

-- pixel i has one before it and two after it, `side` being all there are: "1 ≤ i ≤ w−3", in natural numbers
pub record Surrounded (side i : ℕ) : Type 0 where
  pub before : 1 ≤ i
  pub after : i + 3 ≤ side

-- a coordinate taken apart, in natural numbers; of a negative one both are 0
pub record Located (x : Sixteenths) (c : Coordinate) : Type 0 where
  pub pixel : c.pixel ≡ nat_of x.0 / 16
  pub remainder : c.remainder ≡ nat_of x.0 % 16

-- the 4×4 levels around column i and row j are in the picture, whose rows have w levels
pub record Around (levels : List ℕ) (w i j : ℕ) : Type 0 where
  pub rows : ℕ
  pub column : Surrounded w i
  pub row : Surrounded rows j
  pub all_levels : length levels ≡ w * rows
  pub few : w * rows ≤ 1_048_576

-- level t of four, from `at` on, times the weight of its column; and the sum of all four
abbrev pub column_term : List ℕ → ℕ → ℕ → ℕ → ℤ
column_term levels at k t = weight k t *ℤ pos (get_or levels (at + t) 0)

unfoldable pub row_sum : List ℕ → ℕ → ℕ → ℤ
row_sum levels at k = sumℤ 4 (column_term levels at k)

-- row r of the four around column i and row j: where its four levels begin; and its sum, times its own weight
abbrev pub row_start : ℕ → ℕ → ℕ → ℕ → ℕ
row_start w i j r = (j - 1 + r) * w + (i - 1)

abbrev pub row_term : List ℕ → ℕ → ℕ → ℕ → ℕ → ℕ → ℕ → ℤ
row_term levels w i j across down r = weight down r *ℤ row_sum levels (row_start w i j r) across
