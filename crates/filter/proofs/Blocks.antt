-- A block: the columns that the code gathers are those that lie next to a pixel, of each of the rows around it.
-- Assumes nothing.
use mathlib.Core.Path.{◌≡◌, refl, sym, ap, ◌∙◌}
use mathlib.Core.List.{List, [], ◌∷◌, ◌++◌, append-nil, append_assoc}
use Prim.Native.Nat.{ℕ, zero, suc, ◌+◌, ◌-◌, ◌*◌, ◌≤◌, ◌<◌, zero-le, min}
use native.Mathlib.Nat.{zero-min, min-zero, suc-min-suc, suc-mul, one-mul, mul-le-mul_right}
use native.Mathlib.Numerals.{add-one}
use native.Mathlib.Omega.{arith}
use lib.ListN.{length, get_or, take, drop, length-take, length-append}
use lib.Seq.{slice, get_or-take, take-suc, take-nil, drop-nil, length-slice, length-take-le, take_at}
use Rattle.std.specs.Prelude.{flat_map}
use Rattle.std.proofs.lemmas.Grind.{flat_map-append}
use Rattle.arithmetic.specs.Lists.{AtMost}
use Rattle.arithmetic.proofs.Lists.{length_joined, joined_at, joined_same, most_append, most_slice, no_elements}
use Rattle.filter.specs.Median.{near, twice_median, block, row_of}
use Rattle.filter.specs.Asked.{Rows, columns_of, made_of}
use Rattle.arithmetic.proofs.Writing.{Overwritten}
use Rattle.filter.proofs.Lists.{listed_part}

-- ---- what is gathered
-- with the columns of one row more
pub columns_more : (rows : List (List ℕ)) (f t j : ℕ) → j < length rows
    → columns_of (take (j + 1) rows) f t ≡ columns_of (take j rows) f t ++ slice f t (get_or rows j [])
columns_more rows f t j h =
    rw (add-one j, take-suc rows j [] h, flat_map-append (slice f t) (take j rows) (get_or rows j [] ∷ []), append-nil (slice f t (get_or rows j []))) refl

-- one row more is gathered
pub gathered_more : (rows : List (List ℕ)) (f c j : ℕ) (row t t' : List ℕ) → j < length rows → row ≡ get_or rows j []
    → take (j * c) t ≡ columns_of (take j rows) f (f + c)
    → take (j * c + c) t' ≡ take (j * c) t ++ slice f (f + c) row → take ((j + 1) * c) t' ≡ columns_of (take (j + 1) rows) f (f + c)
gathered_more rows f c j row t t' h is so_far now =
    let e : (j + 1) * c ≡ j * c + c = rw (add-one, suc-mul) (omega arith) in
    rw (e, now, so_far, is) (sym (columns_more rows f (f + c) j h))

-- and from N rows of one to three columns there are one to nine levels
pub nine_most : (n c : ℕ) → 1 ≤ n → n ≤ 3 → 1 ≤ c → c ≤ 3 → (1 ≤ n * c) × (n * c ≤ 9)
nine_most n c p q r s = (omega (arith, mul-le-mul_right c p, one-mul c), omega (arith, mul-le-mul_right c q))

-- of rows whose elements are at most b
pub most_columns : (b f t : ℕ) (rows : List (List ℕ)) → ((k : ℕ) → k < length rows → AtMost b (get_or rows k [])) → AtMost b (columns_of rows f t)
most_columns b f t [] p i = zero-le
most_columns b f t (row ∷ rows) p i =
    most_append b (slice f t row) (columns_of rows f t) (most_slice b f t row (p 0 (omega arith)))
    (most_columns b f t rows (λ k h. p (suc k) (omega arith)))
    i

-- ---- the columns next to a column
-- a part ends where the list does
pub take_min : (n : ℕ) (l : List ℕ) → take (min n (length l)) l ≡ take n l
take_min zero l = rw zero-min
take_min (suc n) [] = rw min-zero
take_min (suc n) (x ∷ l) = rw suc-min-suc (ap (λ (r : List ℕ). x ∷ r) (take_min n l))

-- the columns from f on are those next to column i
abbrev pub Next : ℕ → ℕ → ℕ → ℕ → Type 0
Next n i f c = (f ≡ i - 1) × (f + c ≡ min (i + 2) n)

near_is : (i f c : ℕ) (row : List ℕ) → Next (length row) i f c → near i row ≡ slice f (f + c) row
unfolding near
near_is i f c row p = rw (p.1, p.0) (ap (drop (i - 1)) (sym (take_min (i + 2) row)))

pub near_nothing : (i : ℕ) → near i [] ≡ []
unfolding near
near_nothing i = rw (take-nil (i + 2), drop-nil (i - 1))

-- a row of a pass is as long as the row that it is made from
pub length_row : (above here below : List ℕ) → length (row_of above here below) ≡ length here
unfolding row_of
length_row above here below = length_joined (length here) 1 (λ i. twice_median (block above here below i) ∷ []) (λ i h. refl) ∙ omega arith

-- and has at column i twice the median of that column's block
pub row_at : (above here below : List ℕ) (i : ℕ) → i < length here → get_or (row_of above here below) i 0 ≡ twice_median (block above here below i)
unfolding row_of
row_at above here below i p =
    let e : i * 1 + 0 ≡ i = omega arith in
    rw e at (joined_at (length here) 1 (λ k. twice_median (block above here below k) ∷ []) (λ k h. refl) i 0 p (omega arith))

-- ---- the row that some rows make
-- two functions that give the same of each of some lists
flat_map_same : (f g : List ℕ → List ℕ) (rows : List (List ℕ)) → ((k : ℕ) → k < length rows → f (get_or rows k []) ≡ g (get_or rows k []))
    → flat_map f rows ≡ flat_map g rows
flat_map_same f g [] p = refl
flat_map_same f g (row ∷ rows) p = rw (p 0 (omega arith), flat_map_same f g rows (λ k h. p (suc k) (omega arith))) refl

module _ (n : ℕ) (rows : List (List ℕ)) where
  pub length_made : length (made_of n rows) ≡ n
  length_made = length_joined n 1 (λ i. twice_median (flat_map (near i) rows) ∷ []) (λ i h. refl) ∙ omega arith

  made_at : (i : ℕ) → i < n → get_or (made_of n rows) i 0 ≡ twice_median (flat_map (near i) rows)
  made_at i p =
      let e : i * 1 + 0 ≡ i = omega arith in
      rw e at (joined_at n 1 (λ k. twice_median (flat_map (near k) rows) ∷ []) (λ k h. refl) i 0 p (omega arith))

-- what the code makes of the columns next to column i is what stands there
pub cell_is : (n m : ℕ) (rows : List (List ℕ)) → Rows n m rows → (i f c v : ℕ) → i < n → Next n i f c
    → v ≡ twice_median (columns_of (take m rows) f (f + c)) → v ≡ get_or (made_of n (take m rows)) i 0
cell_is n m rows around i f c v column next e =
    let long : (k : ℕ) → k < length (take m rows) → length (get_or (take m rows) k []) ≡ n =
    λ k h. rw (get_or-take m rows k [] (omega (arith, length-take {A = List ℕ}))) (around.1 k (omega (arith, length-take {A = List ℕ}))).0 in
    e
    ∙ rw (made_at n (take m rows) i column)
    (ap twice_median (sym (flat_map_same (near i) (slice f (f + c)) (take m rows)
    (λ k h. near_is i f c (get_or (take m rows) k []) (rw (long k h) next)))))

-- ---- the rows around a pixel, of which those that lie outside the picture are dropped
module _ (above here below : List ℕ) where
  blocks_make : (rows : List (List ℕ)) → ((i : ℕ) → flat_map (near i) rows ≡ block above here below i)
      → made_of (length here) rows ≡ row_of above here below
  unfolding row_of
  blocks_make rows same = joined_same (length here) _ _ (λ i. ap (λ (k : List ℕ). twice_median k ∷ []) (same i))

  pub three_make : made_of (length here) (above ∷ here ∷ below ∷ []) ≡ row_of above here below
  unfolding block
  three_make =
      blocks_make (above ∷ here ∷ below ∷ []) (λ i. rw (append-nil (near i below)) (sym (append_assoc (near i above) (near i here) (near i below))))

  pub first_makes : length above ≡ 0 → made_of (length here) (here ∷ below ∷ []) ≡ row_of above here below
  unfolding block
  first_makes a = blocks_make (here ∷ below ∷ []) (λ i. rw (no_elements above a, near_nothing i, append-nil (near i below)) refl)

  pub last_makes : length below ≡ 0 → made_of (length here) (above ∷ here ∷ []) ≡ row_of above here below
  unfolding block
  last_makes b =
      blocks_make (above ∷ here ∷ []) (λ i. rw (no_elements below b, near_nothing i, append-nil (near i here), append-nil (near i above ++ near i here)) refl)

  pub only_makes : length above ≡ 0 → length below ≡ 0 → made_of (length here) (here ∷ []) ≡ row_of above here below
  unfolding block
  only_makes a b = blocks_make (here ∷ []) (λ i. rw (no_elements above a, no_elements below b, near_nothing i) refl)

-- the first n of t, and behind them c columns of a row from column f on
abbrev pub Gathered : List ℕ → List ℕ → List ℕ → ℕ → ℕ → ℕ → Type 0
Gathered row t t' n f c = take (n + c) t' ≡ take n t ++ slice f (f + c) row

-- once the columns are stored, one after the other
pub gathered : (row t t' : List ℕ) (n f c : ℕ) → n ≤ length t → f + c ≤ length row → Overwritten t n (λ i. get_or row (f + i) 0) t' c
    → Gathered row t t' n f c
gathered row t t' n f c room inside stored =
    let columns = slice f (f + c) row in
    let long : length (take n t ++ columns) ≡ n + c =
    simp (length-append, length-slice f (f + c) row inside, length-take-le n t room) (omega arith) in
    rw (stored.is, listed_part f c row inside) (take_at (take n t ++ columns) _ (n + c) long)

-- the first n of t are the levels of l
pub record Holds (n : ℕ) (t l : List ℕ) : Type 0 where
  pub long : length l ≡ n
  pub levels : take n t ≡ l
  pub small : AtMost 1020 l

-- and so twice the median of these is that of l
pub held_median : (n r : ℕ) (t l : List ℕ) → Holds n t l → r ≡ twice_median (take n t) → r ≡ twice_median l
held_median n r t l p e = e ∙ rw p.levels
