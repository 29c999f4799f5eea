-- A sample row by row: the sum over 4×4 levels is four rows' sums under the weights of the rows; and where those rows lie. Assumes
-- nothing.
use mathlib.Core.Path.{◌≡◌, sym, ap, ◌∙◌}
use mathlib.Core.List.{List}
use Prim.Native.Nat.{ℕ, ◌+◌, ◌-◌, ◌*◌, ◌<◌, ◌≤◌}
use native.Mathlib.Nat.{le_antisymm}
use native.Mathlib.Omega.{arith}
use lib.ListN.{length, get_or}
use lib.IntN.{ℤ, pos, ◌*ℤ◌}
use Rattle.arithmetic.specs.Sums.{sumℤ}
use Rattle.arithmetic.proofs.Order.{row_end}
use Rattle.arithmetic.proofs.Differences.{mul_assocℤ}
use Rattle.arithmetic.proofs.SignedSums.{sumℤ_same, sumℤ_times}
use Rattle.sample.specs.Cubic.{weight, sample_of}
use Rattle.sample.specs.Asked.{Surrounded, Around, column_term, row_sum, row_start, row_term}

module _ (levels : List ℕ) (w i j across down : ℕ) where
  -- a term of the sum over 4×4 levels
  abbrev term : ℕ → ℕ → ℤ
  term r t = weight down r *ℤ weight across t *ℤ pos (get_or levels ((j - 1 + r) * w + (i - 1 + t)) 0)

  -- is the row's weight times a term of the row
  regrouped : (r t : ℕ) → term r t ≡ weight down r *ℤ column_term levels (row_start w i j r) across t
  regrouped r t =
      mul_assocℤ (weight down r) (weight across t) (pos (get_or levels ((j - 1 + r) * w + (i - 1 + t)) 0)) ∙
      ap (λ (p : ℕ). weight down r *ℤ (weight across t *ℤ pos (get_or levels p 0))) (omega arith)

  -- so that the weight of a row stands before its sum
  one_row : (r : ℕ) → sumℤ 4 (term r) ≡ row_term levels w i j across down r
  unfolding row_sum
  one_row r =
      let of_row = column_term levels (row_start w i j r) across in
      sumℤ_same 4 (term r) (λ t. weight down r *ℤ of_row t) (λ t l. regrouped r t) ∙ sumℤ_times (weight down r) 4 of_row

  pub by_rows : sample_of levels w i j across down ≡ sumℤ 4 (row_term levels w i j across down)
  unfolding sample_of
  by_rows = sumℤ_same 4 (λ r. sumℤ 4 (term r)) (row_term levels w i j across down) (λ r l. one_row r)

-- four terms are all of a row's, and of a sample's
pub row_done : (levels : List ℕ) (at k : ℕ) {n : ℕ} {z : ℤ} → n ≤ 4 → 4 ≤ n → z ≡ sumℤ n (column_term levels at k) → z ≡ row_sum levels at k
unfolding row_sum
row_done levels at k up down is = is ∙ ap (λ (m : ℕ). sumℤ m (column_term levels at k)) (le_antisymm up down)

pub sample_done : (levels : List ℕ) (w i j across down : ℕ) {n : ℕ} {z : ℤ} → n ≤ 4 → 4 ≤ n
    → z ≡ sumℤ n (row_term levels w i j across down) → z ≡ sample_of levels w i j across down
sample_done levels w i j across down up low is =
    is ∙ ap (λ (m : ℕ). sumℤ m (row_term levels w i j across down)) (le_antisymm up low) ∙ sym (by_rows levels w i j across down)

-- ---- where the rows lie
-- four levels of each are in the picture
module _ {w h i j : ℕ} (column : Surrounded w i) (row : Surrounded h j) (r : ℕ) (in-it : r < 4) where
  row_ends : (j - 1 + r) * w + w ≤ w * h
  row_ends = let here : j - 1 + r < h = omega (arith, row) in row_end w h (j - 1 + r) here

  pub four_in : row_start w i j r + 4 ≤ w * h
  four_in = omega (arith, row_ends, column)

-- the same of the levels lent, and that all of it is small
pub record RowIn (levels : List ℕ) (w i j r : ℕ) : Type 0 where
  pub ends : row_start w i j r + 4 ≤ length levels
  pub few : length levels ≤ 1048576
  pub narrow : w ≤ 1048576

pub row_in : {levels : List ℕ} {w i j : ℕ} → Around levels w i j → (r : ℕ) → r < 4 → RowIn levels w i j r
row_in a r in-it =
    record {
      ends = omega (arith, four_in a.column a.row r in-it, a.all_levels);
      few = omega (arith, a.all_levels, a.few);
      narrow = omega (arith, row_ends a.column a.row r in-it, a.few);
    }
