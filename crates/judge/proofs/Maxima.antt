-- The maximum and the minimum of a list as the code gathers them, one element and one part after the other (both are `foldl`, of
-- `max` and of `min`); and how large they can be. Assumes nothing.
use mathlib.Core.Path.{◌≡◌, refl, sym, ap, ◌∙◌}
use mathlib.Core.List.{List, [], ◌∷◌, foldl}
use Prim.Native.Nat.{ℕ, suc, ◌≤◌, ◌<◌, min, max, ◌+◌}
use native.Mathlib.Omega.{arith}
use native.Mathlib.Numerals.{add-one}
use lib.ListN.{length, get_or, drop, drop_of_length-le}
use lib.Seq.{drop-cons}
use Rattle.arithmetic.specs.Lists.{AtMost}
use Rattle.judge.specs.Extremes.{maximum, minimum}

-- what is gathered from a list, from element i on
module _ (f : ℕ → ℕ → ℕ) (row : List ℕ) (i : ℕ) where
  -- one element more
  pub gathered_more : i < length row → (a r : ℕ) → r ≡ f a (get_or row i 0) → foldl f r (drop (i + 1) row) ≡ foldl f a (drop i row)
  gathered_more p a r e = rw (e, add-one, drop-cons row i 0 p)

  -- none is left
  pub gathered_all : length row ≤ i → (a : ℕ) → foldl f a (drop i row) ≡ a
  gathered_all p a = rw (drop_of_length-le row p)

-- what is gathered from a part by itself, put to what was gathered before it
module _ (f : ℕ → ℕ → ℕ) (one_by_one : (a b c : ℕ) → f (f a b) c ≡ f a (f b c)) where
  put_to : (a b : ℕ) (l : List ℕ) → foldl f (f a b) l ≡ f a (foldl f b l)
  put_to a b [] = refl
  put_to a b (x ∷ l) = rw (one_by_one a b x) (put_to a (f b x) l)

pub put_to_max : (a : ℕ) (l : List ℕ) → max a (foldl max 0 l) ≡ foldl max a l
put_to_max a l = let e : max a 0 ≡ a = omega arith in sym (put_to max (λ a b c. omega arith) a 0 l) ∙ ap (λ (n : ℕ). foldl max n l) e

pub put_to_min : (b a : ℕ) (l : List ℕ) → a ≤ b → min a (foldl min b l) ≡ foldl min a l
put_to_min b a l low = let e : min a b ≡ a = omega arith in sym (put_to min (λ a b c. omega arith) a b l) ∙ ap (λ (n : ℕ). foldl min n l) e

-- from 0 up it is the maximum that is gathered
pub maximum_is : (l : List ℕ) → foldl max 0 l ≡ maximum l
unfolding maximum
maximum_is [] = refl
maximum_is (x ∷ l) = let e : max 0 x ≡ x = omega arith in rw e

-- from a number that none exceeds it is the minimum, where there are any
pub minimum_is : (b : ℕ) (l : List ℕ) → 0 < length l → AtMost b l → foldl min b l ≡ minimum l
unfolding minimum
minimum_is b [] p q = absurd (let no : ⊥ = omega arith in no)
minimum_is b (x ∷ l) p q = let e : min b x ≡ x = omega (arith, q 0) in rw e

-- where every element is at most b, so are both
module _ (b : ℕ) (f : ℕ → ℕ → ℕ) (keeps : (a x : ℕ) → a ≤ b → x ≤ b → f a x ≤ b) where
  gathered_most : (a : ℕ) (l : List ℕ) → a ≤ b → AtMost b l → foldl f a l ≤ b
  gathered_most a [] p q = p
  gathered_most a (x ∷ l) p q = gathered_most (f a x) l (keeps a x p (q 0)) (λ k. q (suc k))

pub maximum_most : (b : ℕ) (l : List ℕ) → AtMost b l → maximum l ≤ b
unfolding maximum
maximum_most b [] q = omega arith
maximum_most b (x ∷ l) q = gathered_most b max (λ a y p r. omega arith) x l (q 0) (λ k. q (suc k))

pub minimum_most : (b : ℕ) (l : List ℕ) → AtMost b l → minimum l ≤ b
unfolding minimum
minimum_most b [] q = omega arith
minimum_most b (x ∷ l) q = gathered_most b min (λ a y p r. omega arith) x l (q 0) (λ k. q (suc k))
