-- A row more, and several: what a memory's rows hold then, and what was given out. Assumes nothing.
use mathlib.Core.Path.{◌≡◌, ap, ◌∙◌}
use mathlib.Core.List.{List, ◌++◌}
use Prim.Native.Nat.{ℕ, ◌+◌, ◌*◌, ◌≤◌}
use native.Mathlib.Omega.{arith}
use lib.ListN.{length, drop, length-append, length-drop}
use Rattle.arithmetic.specs.Lists.{AtMost}
use Rattle.memory.specs.Memory.{two_of, Ranges}
use Rattle.scan.specs.Ring.{last_two, held_in, replaced, next}
use Rattle.scan.proofs.SixRows.{length_two_of, two_first, two_second, two_third}
use Rattle.scan.specs.Held.{Held, followed, pass_one_row, pass_two_row, pass_three_row, step}
use Rattle.scan.specs.Asked.{long, Ready}
use Rattle.scan.proofs.Twos.{length_completed, most_completed, most_replaced, length_replaced, two_next}

-- ---- what a row completes: how long it is, and how large
module _ (w h k : ℕ) (rows row : List ℕ) (ready : Ready w h k rows) where
  abbrev before : Held
  before = held_in w h k rows

  two_long : (pass : ℕ) → pass ≤ 2 → length (two_of w rows pass) ≡ w + w
  two_long pass few = length_two_of w pass rows ready.room few

  pub length_pass_one : length (pass_one_row before row) ≡ long w h k 1
  unfolding pass_one_row held_in
  length_pass_one = length_completed w h k 1 (two_of w rows 0) row (two_long 0 (omega arith))

  pub length_pass_two : length (pass_two_row before row) ≡ long w h k 2
  unfolding pass_two_row held_in
  length_pass_two = length_completed w h k 2 (two_of w rows 1) (pass_one_row before row) (two_long 1 (omega arith))

  pub length_pass_three : length (pass_three_row before row) ≡ long w h k 3
  unfolding pass_three_row held_in
  length_pass_three = length_completed w h k 3 (two_of w rows 2) (pass_two_row before row) (two_long 2 (omega arith))

  module _ (levels : AtMost 255 row) where
    pub most_pass_one : AtMost 510 (pass_one_row before row)
    unfolding pass_one_row held_in
    most_pass_one = most_completed w h k 1 (two_of w rows 0) row 255 ready.ranges.levels levels

    pub most_pass_two : AtMost 1020 (pass_two_row before row)
    unfolding pass_two_row held_in
    most_pass_two = most_completed w h k 2 (two_of w rows 1) (pass_one_row before row) 510 ready.ranges.halves most_pass_one

    -- ---- the rows then
    module _ (row_long : length row ≡ long w h k 0) where
      abbrev a : List ℕ
      a = replaced w k (two_of w rows 0) row

      abbrev b : List ℕ
      b = replaced w k (two_of w rows 1) (pass_one_row before row)

      abbrev c : List ℕ
      c = replaced w k (two_of w rows 2) (pass_two_row before row)

      long_a : length a ≡ w + w
      long_a = length_replaced w h k 0 (two_of w rows 0) row (two_long 0 (omega arith)) row_long

      long_b : length b ≡ w + w
      long_b = length_replaced w h k 1 (two_of w rows 1) (pass_one_row before row) (two_long 1 (omega arith)) length_pass_one

      long_c : length c ≡ w + w
      long_c = length_replaced w h k 2 (two_of w rows 2) (pass_two_row before row) (two_long 2 (omega arith)) length_pass_two

      first_is : two_of w (next w h k rows row) 0 ≡ a
      unfolding next
      first_is = two_first w a b c (drop (6 * w) rows) long_a long_b long_c

      second_is : two_of w (next w h k rows row) 1 ≡ b
      unfolding next
      second_is = two_second w a b c (drop (6 * w) rows) long_a long_b long_c

      third_is : two_of w (next w h k rows row) 2 ≡ c
      unfolding next
      third_is = two_third w a b c (drop (6 * w) rows) long_a long_b long_c

      pub length_next : length (next w h k rows row) ≡ length rows
      unfolding next
      length_next =
          length-append (a ++ b ++ c) (drop (6 * w) rows)
          ∙ rw (length-append (a ++ b) c, length-append a b, length-drop (6 * w) rows, long_a, long_b, long_c) (omega (arith, ready.room))

      ranges_next : Ranges w (next w h k rows row)
      ranges_next = record {
        levels = rw first_is (most_replaced w h k 0 (two_of w rows 0) row 255 ready.ranges.levels levels);
        halves = rw second_is (most_replaced w h k 1 (two_of w rows 1) (pass_one_row before row) 510 ready.ranges.halves most_pass_one);
        quarters =
            rw third_is (most_replaced w h k 2 (two_of w rows 2) (pass_two_row before row) 1020 ready.ranges.quarters most_pass_two);
      }

      pub ready_next : k + 1 ≤ 70000 → Ready w h (k + 1) (next w h k rows row)
      ready_next few =
          record { width = ready.width; height = ready.height; few = few; room = rw length_next ready.room; ranges = ranges_next }

      -- what they hold is what was held and the row
      pub held_next : held_in w h (k + 1) (next w h k rows row) ≡ step before row
      unfolding held_in step
      held_next = λ i. record {
        levels = (ap (last_two w h (k + 1) 1) first_is ∙ followed-by 0 0 (omega arith) row row_long) i;
        halves = (ap (last_two w h (k + 1) 2) second_is ∙ followed-by 1 1 (omega arith) (pass_one_row before row) length_pass_one) i;
        quarters = (ap (last_two w h (k + 1) 3) third_is ∙ followed-by 2 2 (omega arith) (pass_two_row before row) length_pass_two) i;
      }
        where
          followed-by : (pass late : ℕ) → pass ≤ 2 → (r : List ℕ) → length r ≡ long w h k late
              → last_two w h (k + 1) (late + 1) (replaced w k (two_of w rows pass) r)
              ≡ followed (last_two w h k (late + 1) (two_of w rows pass)) r
          followed-by pass late few r r-long = two_next w h k late (two_of w rows pass) r (two_long pass few) r-long
