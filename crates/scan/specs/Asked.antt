-- What the functions inside this crate ask of their arguments. No promise cites this.
use Rattle.std.specs.Prelude.{◌≡◌, cond, List, ℕ, ◌+◌, ◌-◌, ◌*◌, ◌≤◌, ◌<◌, leb, ltb, length}
use Rattle.arithmetic.specs.Lists.{AtMost}
use Rattle.filter.specs.Row.{Beside}
use Rattle.picture.specs.Picture.{Side}
use Rattle.memory.specs.Memory.{row_at, Ranges}
use Rattle.scan.specs.Held.{given}
use Rattle.scan.specs.Ring.{held_in}

-- how long row k − late is: w where it is one of the picture's h
unfoldable pub long : ℕ → ℕ → ℕ → ℕ → ℕ
long w h k late = cond (leb late k) (cond (ltb (k - late) h) w 0) 0

-- two rows, and one that comes below them: of w numbers or none
pub record Below (w k late : ℕ) (two row : List ℕ) : Type 0 where
  pub width : w ≤ 1_024
  pub few : k ≤ 70_000
  pub soon : late ≤ 3
  pub room : length two ≡ w + w
  pub small : AtMost 1_020 two
  pub beside : Beside w (length row)
  pub small_row : AtMost 1_020 row

-- the six rows of a memory, once k rows have come
pub record Ready (w h k : ℕ) (rows : List ℕ) : Type 0 where
  pub width : Side w
  pub height : h ≤ 1_024
  pub few : k ≤ 70_000
  pub room : 6 * w ≤ length rows
  pub ranges : Ranges w rows

-- n rows of `each` levels that come after k, and room for what they complete
pub record Coming (w h k each n : ℕ) (rows levels output : List ℕ) : Type 0 where
  pub few : k + n ≤ 70_000
  pub rows_are : (i : ℕ) → i < n → long w h (k + i) 0 ≡ each
  pub levels_are : length levels ≡ n * each
  pub room : length (given (held_in w h k rows) (row_at each levels) n) ≤ length output
