-- A row on its way through the three passes, in the words of the parts that the code lends. Assumes nothing.
use mathlib.Core.Path.{◌≡◌, ap, ◌∙◌}
use mathlib.Core.List.{List, ◌++◌}
use Prim.Native.Nat.{ℕ, ◌+◌, ◌*◌, ◌≤◌}
use native.Mathlib.Omega.{arith}
use lib.ListN.{length, take, drop}
use lib.Seq.{take_at}
use Rattle.arithmetic.specs.Lists.{AtMost}
use Rattle.filter.specs.Row.{Beside}
use Rattle.memory.specs.Memory.{two_of}
use Rattle.scan.specs.Ring.{last_two, held_in, replaced, next}
use Rattle.scan.proofs.SixRows.{length_two_of}
use Rattle.scan.specs.Held.{Held, completed, pass_one_row, pass_two_row, pass_three_row}
use Rattle.scan.specs.Asked.{long, Below, Ready}
use Rattle.scan.proofs.Shown.{none_or_long}
use Rattle.scan.proofs.Twos.{length_replaced}
use Rattle.scan.proofs.Turns.{length_pass_one, length_pass_two, most_pass_one, most_pass_two}

-- what was written to the front of x
pub front_is : (n : ℕ) (x row rest : List ℕ) → x ≡ row ++ rest → length row ≡ n → take n x ≡ row
front_is n x row rest e long = ap (take n) e ∙ take_at row rest n long

-- a row of levels that comes to six rows
pub record Arriving (w h k : ℕ) (rows levels : List ℕ) : Type 0 where
  pub ready : Ready w h k rows
  pub long_as : length levels ≡ long w h k 0
  pub bytes : AtMost 255 levels

module _ {w h k : ℕ} {rows levels : List ℕ} (arriving : Arriving w h k rows levels) where
  abbrev before : Held
  before = held_in w h k rows

  pub length_pass_one_row : length (pass_one_row before levels) ≡ long w h k 1
  length_pass_one_row = length_pass_one w h k rows levels arriving.ready

  pub length_pass_two_row : length (pass_two_row before levels) ≡ long w h k 2
  length_pass_two_row = length_pass_two w h k rows levels arriving.ready

  -- ---- what each pass asks for
  module _ (pass late : ℕ) (few : pass ≤ 2) (soon : late ≤ 3) (row : List ℕ) where
    below : AtMost 1020 (two_of w rows pass) → Beside w (length row) → AtMost 1020 row → (two part : List ℕ) → two ≡ two_of w rows pass
        → part ≡ row → Below w k late two part
    below small beside small_row two part e f = rw (e, f) (record {
      width = arriving.ready.width.1;
      few = arriving.ready.few;
      soon = soon;
      room = length_two_of w pass rows arriving.ready.room few;
      small = small;
      beside = beside;
      small_row = small_row;
    })

  pub below_levels : (two part : List ℕ) → two ≡ two_of w rows 0 → part ≡ levels → Below w k 1 two part
  below_levels =
      below 0 1 (omega arith) (omega arith) levels
      (λ i. omega (arith, arriving.ready.ranges.levels i)) (rw arriving.long_as (none_or_long h k 0 w))
      (λ i. omega (arith, arriving.bytes i))

  pub below_pass_one : (two part : List ℕ) → two ≡ two_of w rows 1 → part ≡ pass_one_row before levels → Below w k 2 two part
  below_pass_one =
      below 1 2 (omega arith) (omega arith) (pass_one_row before levels)
      (λ i. omega (arith, arriving.ready.ranges.halves i))
      (rw length_pass_one_row (none_or_long h k 1 w))
      (λ i. omega (arith, most_pass_one w h k rows levels arriving.ready arriving.bytes i))

  pub below_pass_two : (two part : List ℕ) → two ≡ two_of w rows 2 → part ≡ pass_two_row before levels → Below w k 3 two part
  below_pass_two =
      below 2 3 (omega arith) (omega arith) (pass_two_row before levels)
      arriving.ready.ranges.quarters
      (rw length_pass_two_row (none_or_long h k 2 w))
      (most_pass_two w h k rows levels arriving.ready arriving.bytes)

  -- ---- what each pass gives
  module _ (two part x rest : List ℕ) where
    pub pass_one_is_row : two ≡ two_of w rows 0 → part ≡ levels → x ≡ completed (last_two w h k 1 two) part ++ rest
        → x ≡ pass_one_row before levels ++ rest
    unfolding pass_one_row held_in
    pass_one_is_row e f is = is ∙ rw (e, f)

    pub pass_two_is_row : two ≡ two_of w rows 1 → part ≡ pass_one_row before levels → x ≡ completed (last_two w h k 2 two) part ++ rest
        → x ≡ pass_two_row before levels ++ rest
    unfolding pass_two_row held_in
    pass_two_is_row e f is = is ∙ rw (e, f)

    pub pass_three_is_row : two ≡ two_of w rows 2 → part ≡ pass_two_row before levels → x ≡ completed (last_two w h k 3 two) part ++ rest
        → x ≡ pass_three_row before levels ++ rest
    unfolding pass_three_row held_in
    pass_three_is_row e f is = is ∙ rw (e, f)

  pub two_are : (pass : ℕ) (two part x row : List ℕ) → two ≡ two_of w rows pass → part ≡ row → x ≡ replaced w k two part
      → x ≡ replaced w k (two_of w rows pass) row
  two_are pass two part x row e f is = is ∙ rw (e, f)

  pub length_two_are : (pass late : ℕ) → pass ≤ 2 → (x row : List ℕ) → length row ≡ long w h k late
      → x ≡ replaced w k (two_of w rows pass) row → length x ≡ w + w
  length_two_are pass late few x row row_long is =
      ap length is ∙ length_replaced w h k late (two_of w rows pass) row (length_two_of w pass rows arriving.ready.room few) row_long

  pub rows_are : (x a b c : List ℕ) → x ≡ a ++ b ++ c ++ drop (6 * w) rows → a ≡ replaced w k (two_of w rows 0) levels
      → b ≡ replaced w k (two_of w rows 1) (pass_one_row before levels) → c ≡ replaced w k (two_of w rows 2) (pass_two_row before levels)
      → x ≡ next w h k rows levels
  unfolding next
  rows_are x a b c is a_is b_is c_is = is ∙ rw (a_is, b_is, c_is)
