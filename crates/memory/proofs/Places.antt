-- Rows of w numbers in a list: how long they are, how large, and what they are once one of them is written over. Assumes nothing.
use mathlib.Core.Path.{◌≡◌, sym, ap, ◌∙◌}
use mathlib.Core.List.{List, ◌++◌}
use mathlib.Core.Logic.{◌≢◌}
use Prim.Native.Nat.{ℕ, suc, ◌+◌, ◌-◌, ◌*◌, ◌≤◌, ◌<◌}
use native.Mathlib.Nat.{mul-le-mul_right, suc-mul}
use native.Mathlib.Decide.{dec_lt}
use native.Mathlib.Omega.{arith}
use lib.ListN.{length, take, drop, length-append}
use lib.Seq.{slice, length-slice, take_at, drop_at, take-append-le, take-take, drop-drop, length-take-le}
use Rattle.arithmetic.specs.Lists.{AtMost, over}
use Rattle.arithmetic.proofs.Lists.{part_is, most_append, most_take, most_drop, most_slice}
use Rattle.memory.specs.Memory.{row_at}

-- ---- a row
pub length_row_at : (w i : ℕ) (l : List ℕ) → i * w + w ≤ length l → length (row_at w l i) ≡ w
unfolding row_at
length_row_at w i l inside = length-slice (i * w) (i * w + w) l inside ∙ omega arith

pub most_row_at : (b w i : ℕ) (l : List ℕ) → AtMost b l → AtMost b (row_at w l i)
unfolding row_at
most_row_at b w i l small = most_slice b (i * w) (i * w + w) l small

-- the part that the code lends
pub part_row : (w i at end : ℕ) (l : List ℕ) → at ≡ i * w → end ≡ at + w → take (end - at) (drop at l) ≡ row_at w l i
unfolding row_at
part_row w i at end l e f = part_is at end l (omega arith) ∙ rw (f, e)

-- the row that lies between others
pub row_at_between : (w i : ℕ) (before row behind : List ℕ) → length before ≡ i * w → length row ≡ w
    → row_at w (before ++ row ++ behind) i ≡ row
unfolding row_at
row_at_between w i before row behind e f =
    let both : length (before ++ row) ≡ i * w + w = length-append before row ∙ omega (arith, e, f) in
    ap (drop (i * w)) (take_at (before ++ row) behind (i * w + w) both) ∙ drop_at before row (i * w) e

-- ---- a list written over another
pub most_over : (b at : ℕ) (l r : List ℕ) → AtMost b l → AtMost b r → AtMost b (over l at r)
most_over b at l r small small_r =
    most_append b (take at l ++ r) (drop (at + length r) l)
    (most_append b (take at l) r (most_take b at l small) small_r)
    (most_drop b (at + length r) l small)

module _ (at : ℕ) (l r : List ℕ) (room : at + length r ≤ length l) where
  head_long : length (take at l ++ r) ≡ at + length r
  head_long = length-append (take at l) r ∙ ap (λ (n : ℕ). n + length r) (length-take-le at l (omega arith))

  -- before it
  take_before : (n : ℕ) → n ≤ at → take n (over l at r) ≡ take n l
  take_before n h =
      take-append-le n (take at l ++ r) (drop (at + length r) l) (rw head_long (omega arith))
      ∙ take-append-le n (take at l) r (rw (length-take-le at l (omega arith)) h)
      ∙ take-take n at l h

  -- behind it
  drop_behind : (n : ℕ) → at + length r ≤ n → drop n (over l at r) ≡ drop n l
  drop_behind n h =
      let more : at + length r + (n - (at + length r)) ≡ n = omega arith in
      ap (λ (k : ℕ). drop k (over l at r)) (sym more)
      ∙ sym (drop-drop (n - (at + length r)) (at + length r) (over l at r))
      ∙ ap (drop (n - (at + length r))) (drop_at (take at l ++ r) (drop (at + length r) l) (at + length r) head_long)
      ∙ drop-drop (n - (at + length r)) (at + length r) l
      ∙ ap (λ (k : ℕ). drop k l) more

  -- itself
  there : slice at (at + length r) (over l at r) ≡ r
  there =
      ap (drop at) (take_at (take at l ++ r) (drop (at + length r) l) (at + length r) head_long)
      ∙ drop_at (take at l) r at (length-take-le at l (omega arith))

-- ---- a row, or none, written over row i
module _ (w i : ℕ) (l r : List ℕ) (few : length r ≤ w) (room : i * w + w ≤ length l) where
  fits : i * w + length r ≤ length l
  fits = omega arith

  pub row_at_same : length r ≡ w → row_at w (over l (i * w) r) i ≡ r
  unfolding row_at
  row_at_same e = ap (λ (n : ℕ). slice (i * w) (i * w + n) (over l (i * w) r)) (sym e) ∙ there (i * w) l r fits

  pub row_at_other : (j : ℕ) → j ≢ i → row_at w (over l (i * w) r) j ≡ row_at w l j
  unfolding row_at
  row_at_other j other = elim (dec_lt j i) [
    | yes g ↦ ap (drop (j * w)) (take_before (i * w) l r fits (j * w + w) (omega (arith, mul-le-mul_right w g, suc-mul j w)))
    | no g ↦
        let more : suc i ≤ j = beyond g in
        let past : i * w + length r ≤ j * w = omega (arith, mul-le-mul_right w more, suc-mul i w) in
        sym (part_is (j * w) (j * w + w) (over l (i * w) r) (omega arith))
        ∙ ap (take (j * w + w - j * w)) (drop_behind (i * w) l r fits (j * w) past)
        ∙ part_is (j * w) (j * w + w) l (omega arith)
  ]
    where
      beyond : (j < i → ⊥) → suc i ≤ j
      beyond g = elim (dec_lt i j) [ yes h ↦ h | no h ↦ absurd (other (omega arith)) ]
