-- A picture of one row; and one that is one pixel wide: its pixels' blocks are those of the same levels side by side. A pass over either
-- is a row of its own. Assumes nothing.
use mathlib.Core.Path.{◌≡◌, refl, ap, ◌∙◌}
use mathlib.Core.List.{List, [], ◌∷◌, ◌++◌, append-nil}
use Prim.Native.Nat.{ℕ, zero, suc, ◌+◌, ◌-◌, ◌*◌, ◌≤◌, ◌<◌}
use native.Mathlib.Nat.{zero-mul, zero-add, mul-one}
use native.Mathlib.Omega.{arith}
use lib.ListN.{length, take, drop, length-take, length-drop, drop_of_length-le}
use lib.Seq.{slice, take_all, drop-nil, take-add, length-slice}
use Rattle.std.proofs.lemmas.List.{drop-drop}
use Rattle.arithmetic.specs.Lists.{joined}
use Rattle.arithmetic.proofs.Lists.{part_is}
use Rattle.filter.specs.Median.{near, block, twice_median, row_of, pass_row, pass}
use Rattle.filter.proofs.Blocks.{near_nothing}

-- the only row has none above and none below
pub single_is : (w h : ℕ) (x : List ℕ) → h ≡ 1 → length x ≡ w * h → row_of [] x [] ≡ pass w h x
unfolding pass_row pass joined
single_is w h x one e =
    let long : length x ≡ w = e ∙ rw one (mul-one w) in
    let none : slice w (w + w) x ≡ [] = drop_of_length-le (take (w + w) x) {i = w} (simp length-take (omega arith)) in
    rw (one, zero-mul w, drop-nil (0 - w), zero-add w, take_all w x (omega arith), none)

-- a part of a list, and the part behind it
slices : (a b c : ℕ) (l : List ℕ) → a ≤ b → b ≤ c → slice a b l ++ slice b c l ≡ slice a c l
slices a b c l p q =
    let all : c - a ≡ b - a + (c - b) = omega (arith, p, q) in
    let there : a + (b - a) ≡ b = omega (arith, p) in
    let behind : drop (b - a) (drop a l) ≡ drop b l = drop-drop (b - a) a l ∙ ap (λ (k : ℕ). drop k l) there in
    rw (← part_is a b l p, ← part_is b c l q, ← part_is a c l (omega (arith, p, q)), all, take-add (b - a) (c - b) (drop a l), behind) refl

-- of a row of one level, or of none, all lies next to column 0
all_near : (row : List ℕ) → length row ≤ 1 → near 0 row ≡ row
unfolding near
all_near row h = take_all 2 row (omega (arith, h))

near_part : (i : ℕ) (row : List ℕ) → near i row ≡ slice (i - 1) (i + 2) row
unfolding near
near_part i row = refl

-- pixel i of such a picture is row i of the pass, and has the block of column i of a row
module _ (x : List ℕ) (i : ℕ) (h : i < length x) where
  abbrev above : List ℕ
  above = slice (i - 1) i x

  abbrev here : List ℕ
  here = slice i (i + 1) x

  abbrev below : List ℕ
  below = slice (i + 1) (i + 1 + 1) x

  here_one : length here ≡ 1
  here_one = length-slice i (i + 1) x (omega (arith, h)) ∙ omega arith

  blocks_are : block [] x [] i ≡ block above here below 0
  unfolding block
  blocks_are =
      let few_above : length above ≤ 1 = simp (length-take, length-drop) (omega arith) in
      let few_below : length below ≤ 1 = simp (length-take, length-drop) (omega arith) in
      let next : i + 1 + 1 ≡ i + 2 = omega arith in
      rw (near_nothing i, append-nil (near i x), all_near above few_above, all_near here (omega (arith, here_one)), all_near below few_below)
      (rw (slices (i - 1) i (i + 1) x (omega arith) (omega arith)) (rw (slices (i - 1) (i + 1) (i + 1 + 1) x (omega arith) (omega arith), next)
      (near_part i x)))

  pixel_is : twice_median (block [] x [] i) ∷ [] ≡ pass_row 1 x i
  unfolding pass_row row_of joined
  pixel_is =
      let at : i * 1 ≡ i = omega arith in
      rw (at, here_one) (ap (λ (l : List ℕ). twice_median l ∷ []) blocks_are)

same_below : (n : ℕ) (f g : ℕ → List ℕ) → ((k : ℕ) → k < n → f k ≡ g k) → joined n f ≡ joined n g
unfolding joined
same_below zero f g p = refl
same_below (suc n) f g p = rw (same_below n f g (λ k h. p k (omega (arith, h))), p n (omega arith))

pub column_is : (h : ℕ) (x : List ℕ) → length x ≡ h → row_of [] x [] ≡ pass 1 h x
unfolding row_of pass
column_is h x long = rw long (same_below h _ _ (λ i p. pixel_is x i (omega (arith, long, p))))
