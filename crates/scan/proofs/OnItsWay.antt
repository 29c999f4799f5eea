-- A row on its way: what each pass is lent, and what it leaves, once the passes before it are made. Assumes nothing.
use mathlib.Core.Path.{◌≡◌, sym, ◌∙◌}
use mathlib.Core.List.{List, ◌++◌}
use Prim.Native.Nat.{ℕ, ◌+◌, ◌-◌}
use native.Mathlib.Omega.{arith}
use borrow.Rule.Slice.PartMut.{put_mid}
use lib.ListN.{length, take, drop}
use Rattle.memory.specs.Memory.{two_of}
use Rattle.scan.specs.Ring.{last_two, held_in, replaced, next}
use Rattle.scan.specs.Held.{completed, pass_one_row, pass_two_row, pass_three_row}
use Rattle.scan.specs.Asked.{long, Below}
use Rattle.memory.proofs.Memories.{first_two}
use Rattle.scan.proofs.SixRows.{second_two, third_two, all_three}
use Rattle.scan.proofs.Passing.{Arriving, front_is, length_pass_one_row, length_pass_two_row, below_levels, below_pass_one, below_pass_two}
use Rattle.scan.proofs.Passing.{pass_one_is_row, pass_two_is_row, pass_three_is_row, two_are, length_two_are, rows_are}

module _ {w h k : ℕ} {rows levels : List ℕ} (arriving : Arriving w h k rows levels) where
  abbrev lent_first : List ℕ
  lent_first = take (w + w) rows

  -- pass one is made: a are its two rows then, x the row of halves, behind which the buffer is as it was
  pub record One (part a x halves : List ℕ) : Type 0 where
    pub part_is : part ≡ levels
    pub left : a ≡ replaced w k lent_first part
    pub gave : x ≡ completed (last_two w h k 1 lent_first) part ++ drop (long w h k 1) halves

  module _ {part a x halves : List ℕ} (one : One part a x halves) where
    pub a_is : a ≡ replaced w k (two_of w rows 0) levels
    a_is = two_are arriving 0 _ _ a _ (first_two w rows) one.part_is one.left

    pub a_long : length a ≡ w + w
    a_long = length_two_are arriving 0 0 (omega arith) a levels arriving.long_as a_is

    pub halves_front : (n : ℕ) → n ≡ long w h k 1 → take n x ≡ pass_one_row (held_in w h k rows) levels
    halves_front n e =
        front_is n x _ _ (pass_one_is_row arriving _ _ x _ (first_two w rows) one.part_is one.gave) (length_pass_one_row arriving ∙ sym e)

    abbrev once : List ℕ
    once = a ++ drop (w + w) rows

    abbrev lent_second : List ℕ
    lent_second = take (w + w + (w + w) - (w + w)) (drop (w + w) once)

    -- pass two is made: b are its two rows then, y the row of quarters
    pub record Two (n : ℕ) (b y quarters : List ℕ) : Type 0 where
      pub n_is : n ≡ long w h k 1
      pub left : b ≡ replaced w k lent_second (take n x)
      pub gave : y ≡ completed (last_two w h k 2 lent_second) (take n x) ++ drop (long w h k 2) quarters

    pub two_made : {n : ℕ} {b y quarters : List ℕ} → n ≡ long w h k 1 → b ≡ replaced w k lent_second (take n x)
        → y ≡ completed (last_two w h k 2 lent_second) (take n x) ++ drop (long w h k 2) quarters → Two n b y quarters
    two_made n_is left gave = record { n_is = n_is; left = left; gave = gave }

    module _ {n : ℕ} {b y quarters : List ℕ} (two : Two n b y quarters) where
      pub b_is : b ≡ replaced w k (two_of w rows 1) (pass_one_row (held_in w h k rows) levels)
      b_is = two_are arriving 1 _ _ b _ (second_two w rows a a_long) (halves_front n two.n_is) two.left

      pub b_long : length b ≡ w + w
      b_long = length_two_are arriving 1 1 (omega arith) b _ (length_pass_one_row arriving) b_is

      pub quarters_front : (m : ℕ) → m ≡ long w h k 2 → take m y ≡ pass_two_row (held_in w h k rows) levels
      quarters_front m e =
          front_is m y _ _ (pass_two_is_row arriving _ _ y _ (second_two w rows a a_long) (halves_front n two.n_is) two.gave)
          (length_pass_two_row arriving ∙ sym e)

      abbrev twice : List ℕ
      twice = put_mid (w + w) (w + w + (w + w) - (w + w)) once b

      abbrev lent_third : List ℕ
      lent_third = take (w + w + (w + w) + (w + w) - (w + w + (w + w))) (drop (w + w + (w + w)) twice)

      -- what pass three asks for, and what it leaves
      pub third_asks : (m : ℕ) → m ≡ long w h k 2 → Below w k 3 lent_third (take m y)
      third_asks m e = below_pass_two arriving _ _ (third_two w rows a a_long b b_long) (quarters_front m e)

      pub third_leaves : (m : ℕ) (c : List ℕ) → m ≡ long w h k 2 → c ≡ replaced w k lent_third (take m y)
          → put_mid (w + w + (w + w)) (w + w + (w + w) + (w + w) - (w + w + (w + w))) twice c ≡ next w h k rows levels
      third_leaves m c e is =
          rows_are arriving _ a b c (all_three w rows a a_long b b_long c) a_is b_is
          (two_are arriving 2 _ _ c _ (third_two w rows a a_long b b_long) (quarters_front m e) is)

      pub third_gives : (m : ℕ) (z rest : List ℕ) → m ≡ long w h k 2 → z ≡ completed (last_two w h k 3 lent_third) (take m y) ++ rest
          → z ≡ pass_three_row (held_in w h k rows) levels ++ rest
      third_gives m z rest e is = pass_three_is_row arriving _ _ _ _ (third_two w rows a a_long b b_long) (quarters_front m e) is

    -- what pass two asks for
    pub second_asks : (n : ℕ) → n ≡ long w h k 1 → Below w k 2 lent_second (take n x)
    second_asks n e = below_pass_one arriving _ _ (second_two w rows a a_long) (halves_front n e)

  -- what pass one asks for
  pub first_asks : (part : List ℕ) → part ≡ levels → Below w k 1 lent_first part
  first_asks part e = below_levels arriving _ _ (first_two w rows) e
