-- What the definitions of the extremes mean: the maximum is an element that none exceeds, the minimum one that exceeds none; and
-- the pixels of a tile are those of its place in the picture. Assumes nothing.
use mathlib.Core.Path.{◌≡◌, refl, sym, ap, ◌∙◌}
use mathlib.Core.List.{List, [], ◌∷◌, foldl}
use mathlib.Core.Logic.{◌⊎◌, inl, inr}
use Prim.Native.Nat.{ℕ, zero, suc, ◌+◌, ◌*◌, ◌/◌, ◌%◌, ◌<◌, ◌≤◌, zero-le, min, max}
use native.Mathlib.Nat.{mul-le-mul_right, div-lt_iff_lt-mul, div-add-mod', mod-lt}
use native.Mathlib.Decide.{dec_le}
use native.Mathlib.Omega.{arith}
use lib.ListN.{length, get_or, take, drop, length-take, length-drop}
use Rattle.arithmetic.proofs.Order.{row_end}
use Rattle.arithmetic.proofs.Lists.{length_joined, joined_at, part_at}
use Rattle.judge.specs.Extremes.{maximum, minimum, tile}

-- v is an element
abbrev pub In : ℕ → List ℕ → Type 0
In v l = (k : ℕ) × (k < length l) × (get_or l k 0 ≡ v)

-- ---- what is gathered from a and the elements of a list
-- with `max`: neither a nor an element is greater
most_first : (a : ℕ) (l : List ℕ) → a ≤ foldl max a l
most_first a [] = omega arith
most_first a (x ∷ l) = omega (arith, most_first (max a x) l)

most_over : (a : ℕ) (l : List ℕ) (k : ℕ) → get_or l k 0 ≤ foldl max a l
most_over a [] k = zero-le
most_over a (x ∷ l) zero = omega (arith, most_first (max a x) l)
most_over a (x ∷ l) (suc k) = most_over (max a x) l k

-- with `min`: neither is less
least_first : (a : ℕ) (l : List ℕ) → foldl min a l ≤ a
least_first a [] = omega arith
least_first a (x ∷ l) = omega (arith, least_first (min a x) l)

least_under : (a : ℕ) (l : List ℕ) (k : ℕ) → k < length l → foldl min a l ≤ get_or l k 0
least_under a [] k p = absurd (let z : ⊥ = omega arith in z)
least_under a (x ∷ l) zero p = omega (arith, least_first (min a x) l)
least_under a (x ∷ l) (suc k) p = least_under (min a x) l k (omega arith)

-- what is found where one of two has been left out is one of all
one_of_two : (a x c : ℕ) (l : List ℕ) (v : ℕ) → (c ≡ a) ⊎ (c ≡ x) → In v (c ∷ l) → In v (a ∷ x ∷ l)
one_of_two a x c l v e (suc k, p, f) = (suc (suc k), omega arith, f)
one_of_two a x c l v (inl e) (zero, p, f) = (0, omega arith, sym e ∙ f)
one_of_two a x c l v (inr e) (zero, p, f) = (1, omega arith, sym e ∙ f)

-- with anything that chooses one of two, it is one of them
module _ (f : ℕ → ℕ → ℕ) (chooses : (a x : ℕ) → (f a x ≡ a) ⊎ (f a x ≡ x)) where
  chosen_in : (a : ℕ) (l : List ℕ) → In (foldl f a l) (a ∷ l)
  chosen_in a [] = (0, omega arith, refl)
  chosen_in a (x ∷ l) = one_of_two a x (f a x) l (foldl f (f a x) l) (chooses a x) (chosen_in (f a x) l)

max_chooses : (a x : ℕ) → (max a x ≡ a) ⊎ (max a x ≡ x)
max_chooses a x = elim (dec_le a x) [ yes h ↦ inr (omega arith) | no h ↦ inl (omega arith) ]

min_chooses : (a x : ℕ) → (min a x ≡ a) ⊎ (min a x ≡ x)
min_chooses a x = elim (dec_le a x) [ yes h ↦ inl (omega arith) | no h ↦ inr (omega arith) ]

-- ---- the maximum and the minimum of a list
-- no element is greater than the maximum
pub maximum_over : (l : List ℕ) (k : ℕ) → get_or l k 0 ≤ maximum l
unfolding maximum
maximum_over [] k = zero-le
maximum_over (x ∷ l) zero = most_first x l
maximum_over (x ∷ l) (suc k) = most_over x l k

-- and it is one of them, where there are any
pub maximum_in : (l : List ℕ) → 1 ≤ length l → In (maximum l) l
unfolding maximum
maximum_in [] p = absurd (let z : ⊥ = omega arith in z)
maximum_in (x ∷ l) p = chosen_in max max_chooses x l

-- no element is less than the minimum
pub minimum_under : (l : List ℕ) (k : ℕ) → k < length l → minimum l ≤ get_or l k 0
unfolding minimum
minimum_under [] k p = absurd (let z : ⊥ = omega arith in z)
minimum_under (x ∷ l) zero p = least_first x l
minimum_under (x ∷ l) (suc k) p = least_under x l k (omega arith)

-- and it is one of them, where there are any
pub minimum_in : (l : List ℕ) → 1 ≤ length l → In (minimum l) l
unfolding minimum
minimum_in [] p = absurd (let z : ⊥ = omega arith in z)
minimum_in (x ∷ l) p = chosen_in min min_chooses x l

-- ---- the tile in row b and column a of the tiles
module _ (w h : ℕ) (x : List ℕ) (b a : ℕ) (whole : length x ≡ w * h) (row : b < 4) (column : a < 4) where
  abbrev start : ℕ → ℕ
  start j = (b * (h / 4) + j) * w + a * (w / 4)

  -- each of its rows has w/4 pixels: it ends within the picture's row
  length_tile_row : (j : ℕ) → j < h / 4 → length (take (w / 4) (drop (start j) x)) ≡ w / 4
  length_tile_row j p =
      let down : b * (h / 4) ≤ 3 * (h / 4) = mul-le-mul_right (h / 4) (omega arith) in
      let across : a * (w / 4) ≤ 3 * (w / 4) = mul-le-mul_right (w / 4) (omega arith) in
      let inside : start j + w / 4 ≤ length x = omega (arith, row_end w h (b * (h / 4) + j) (omega arith)) in
      simp (length-take, length-drop) (omega arith)

  -- "tiles of w/4 by h/4 pixels"
  pub length_tile : length (tile w h x b a) ≡ h / 4 * (w / 4)
  unfolding tile
  length_tile = length_joined (h / 4) (w / 4) _ length_tile_row

  -- the pixel in its row j and column i is the picture's in row b·(h/4) + j and column a·(w/4) + i
  pub tile_at : (j i : ℕ) → j < h / 4 → i < w / 4 → get_or (tile w h x b a) (j * (w / 4) + i) 0 ≡ get_or x ((b * (h / 4) + j) * w + (a * (w / 4) + i)) 0
  unfolding tile
  tile_at j i p q =
      joined_at (h / 4) (w / 4) _ length_tile_row j i p q
      ∙ part_at (start j) (w / 4) x i q
      ∙ ap (λ (k : ℕ). get_or x k 0) (omega arith)

-- every pixel of a picture whose sides are multiples of 4 lies in a tile, so that none is left out
module _ (w h : ℕ) (x : List ℕ) (whole : length x ≡ w * h) (fours : (w % 4 ≡ 0) × (h % 4 ≡ 0)) (row column : ℕ) (inside : (row < h) × (column < w)) where
  -- which quarter of n a place lies in
  quarter : (n k : ℕ) → n % 4 ≡ 0 → k < n → (0 < n / 4) × (k / (n / 4) < 4)
  quarter n k four less =
      let some : 0 < n / 4 = omega arith in
      (some, (div-lt_iff_lt-mul some).1 (omega arith))

  pub in_a_tile : get_or (tile w h x (row / (h / 4)) (column / (w / 4))) (row % (h / 4) * (w / 4) + column % (w / 4)) 0 ≡ get_or x (row * w + column) 0
  in_a_tile =
      let down = quarter h row fours.1 inside.0 in
      let across = quarter w column fours.0 inside.1 in
      let here : row / (h / 4) * (h / 4) + row % (h / 4) ≡ row = div-add-mod' row (h / 4) in
      let there : column / (w / 4) * (w / 4) + column % (w / 4) ≡ column = div-add-mod' column (w / 4) in
      tile_at w h x (row / (h / 4)) (column / (w / 4)) whole down.1 across.1 (row % (h / 4)) (column % (w / 4)) (mod-lt row down.0) (mod-lt column across.0)
      ∙ rw (here, there)
