-- How far a sample can go: the terms of a row and their sums, the terms of a sample and their sums. Assumes nothing.
use mathlib.Core.List.{List}
use Prim.Native.Nat.{ℕ, ◌+◌, ◌*◌, ◌<◌, ◌≤◌}
use native.Mathlib.Nat.{le_trans}
use native.Mathlib.Omega.{arith}
use lib.Dec.{T, leb, leb→le, lit<}
use lib.ListN.{get_or}
use lib.IntN.{ℤ, pos, ◌+ℤ◌, ◌*ℤ◌}
use mir.Syntax.{w64}
use mir.Val.{SFits}
use Rattle.arithmetic.specs.Lists.{AtMost}
use Rattle.arithmetic.specs.Sums.{sum, sumℤ}
use Rattle.arithmetic.proofs.Differences.{plus, minus}
use Rattle.arithmetic.proofs.Sums.{sum_part, sum_term}
use Rattle.arithmetic.proofs.Ranges.{Ranges, widened, of_natural, of_product, of_sums, in_width, next_in_width}
use Rattle.arithmetic.proofs.Computed.{every, each}
use Rattle.sample.specs.Cubic.{weight}
use Rattle.sample.specs.Asked.{column_term, row_sum, row_start, row_term}

-- what a weight makes of two bounds: of the one where it is positive, of the other where it is negative
abbrev share : ℕ → ℕ → ℕ → ℕ → ℕ
share one other k t = plus (weight k t) * one + minus (weight k t) * other

-- and the four of a remainder together
unfoldable reach : ℕ → ℕ → ℕ → ℕ
reach one other k = sum 4 (share one other k)

-- numbers from −low to high come, under the weights of any remainder, to no more than from −below to above: two tests of
-- each of the sixteen remainders, computed at once
record Weighted (low high below above : ℕ) : Type 0 where
  beneath : T (every (λ k. leb (reach low high k) below) 16)
  over : T (every (λ k. leb (reach high low k) above) 16)

-- one of them under its weight, and the first n
module _ {low high below above : ℕ} (weighted : Weighted low high below above) (k : ℕ) (small : k < 16) where
  most_below : sum 4 (share low high k) ≤ below
  unfolding reach
  most_below = leb→le _ _ (each (λ k. leb (reach low high k) below) 16 weighted.beneath k small)

  most_above : sum 4 (share high low k) ≤ above
  unfolding reach
  most_above = leb→le _ _ (each (λ k. leb (reach high low k) above) 16 weighted.over k small)

  one_weighted : (t : ℕ) (z : ℤ) → t < 4 → Ranges low high z → Ranges below above (weight k t *ℤ z)
  one_weighted t z in-it near =
      widened (le_trans (sum_term (share low high k) in-it) most_below) (le_trans (sum_term (share high low k) in-it) most_above) (of_product (weight k t) z near)

  some_weighted : (n : ℕ) (z : ℕ → ℤ) → n ≤ 4 → ((t : ℕ) → Ranges low high (z t)) → Ranges below above (sumℤ n (λ t. weight k t *ℤ z t))
  some_weighted n z few near =
      widened (le_trans (sum_part (share low high k) few) most_below) (le_trans (sum_part (share high low k) few) most_above)
      (of_sums n (share low high k) (share high low k) (λ t. weight k t *ℤ z t) (λ t l. of_product (weight k t) (z t) (near t)))

-- levels: the positive weights of a remainder are at most 9,216 together, and the negative ones 1,024, each 255 times
of_levels : Weighted 0 255 261120 2350080
unfolding reach sum weight
of_levels = record { beneath = tt; over = tt }

-- and rows of levels
of_rows : Weighted 261120 2350080 4812963840 21925724160
unfolding reach sum weight
of_rows = record { beneath = tt; over = tt }

abbrev RowRange : ℤ → Type 0
RowRange z = Ranges 261120 2350080 z

abbrev pub SampleRange : ℤ → Type 0
SampleRange z = Ranges 4812963840 21925724160 z

module _ (levels : List ℕ) (bytes : AtMost 255 levels) where
  level_range : (p : ℕ) → Ranges 0 255 (pos (get_or levels p 0))
  level_range p = widened (omega arith) (bytes p) (of_natural (get_or levels p 0))

  -- a row's terms, and its sums
  module _ (at k : ℕ) (small : k < 16) where
    column_term_range : (t : ℕ) → t < 4 → RowRange (column_term levels at k t)
    column_term_range t in-it = one_weighted of_levels k small t (pos (get_or levels (at + t) 0)) in-it (level_range (at + t))

    columns_range : (n : ℕ) → n ≤ 4 → RowRange (sumℤ n (column_term levels at k))
    columns_range n few = some_weighted of_levels k small n (λ t. pos (get_or levels (at + t) 0)) few (λ t. level_range (at + t))

    row_range : RowRange (row_sum levels at k)
    unfolding row_sum
    row_range = columns_range 4 (omega arith)

    -- they have room in 64 bits
    pub column_fits : (t : ℕ) → t < 4 → SFits w64 (column_term levels at k t)
    column_fits t in-it = in_width w64 (column_term levels at k t) (column_term_range t in-it) (lit< tt) (lit< tt)

    pub columns_fit : (t : ℕ) → t < 4 → SFits w64 (sumℤ t (column_term levels at k) +ℤ column_term levels at k t)
    columns_fit t in-it = next_in_width w64 (column_term levels at k) t (columns_range (t + 1) (omega arith)) (lit< tt) (lit< tt)

  -- a sample's terms, and its sums
  module _ (w i j across down : ℕ) (small-across : across < 16) (small-down : down < 16) where
    abbrev row : ℕ → ℤ
    row r = row_sum levels (row_start w i j r) across

    near : (r : ℕ) → RowRange (row r)
    near r = row_range (row_start w i j r) across small-across

    row_term_range : (r : ℕ) → r < 4 → SampleRange (row_term levels w i j across down r)
    row_term_range r in-it = one_weighted of_rows down small-down r (row r) in-it (near r)

    pub rows_range : (n : ℕ) → n ≤ 4 → SampleRange (sumℤ n (row_term levels w i j across down))
    rows_range n few = some_weighted of_rows down small-down n row few near

    pub row_fits : (r : ℕ) → r < 4 → SFits w64 (row_term levels w i j across down r)
    row_fits r in-it = in_width w64 (row_term levels w i j across down r) (row_term_range r in-it) (lit< tt) (lit< tt)

    pub rows_fit : (r : ℕ) → r < 4 → SFits w64 (sumℤ r (row_term levels w i j across down) +ℤ row_term levels w i j across down r)
    rows_fit r in-it = next_in_width w64 (row_term levels w i j across down) r (rows_range (r + 1) (omega arith)) (lit< tt) (lit< tt)
