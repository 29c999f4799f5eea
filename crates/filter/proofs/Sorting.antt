-- Document 01, "Sorted, the answer is the middle one": `sorted` gives the same levels in ascending order, and nothing else does.
-- Assumes nothing.
use mathlib.Core.Path.{◌≡◌, refl, sym, ap, ◌∙◌}
use mathlib.Core.Logic.{◌⊎◌, inl, inr, ∥∥₁_elim}
use mathlib.Core.List.Permᴰ
use mathlib.Core.List.{List, [], ◌∷◌, is_set, Perm, Permᴰ}
use Prim.Native.Nat.{ℕ, zero, suc, ◌+◌, ◌-◌, ◌*◌, ◌/◌, ◌≤◌, ◌<◌, min, max}
use native.Mathlib.Nat.{ℕ_set, min-eq_left, min-eq_right, max-eq_left, max-eq_right, min_comm, max_comm}
use native.Mathlib.Decide.{dec_le}
use native.Mathlib.Omega.{arith}
use lib.ListN.{length, get_or}
use Rattle.filter.specs.Median.{insert, insert_all, sorted, twice_median}

-- each level is at most the next
abbrev pub Ascending : List ℕ → Type 0
Ascending l = (k : ℕ) → suc k < length l → get_or l k 0 ≤ get_or l (suc k) 0

order : (a b : ℕ) → (a ≤ b) ⊎ (b ≤ a)
order a b = elim (dec_le a b) [ yes h ↦ inl h | no h ↦ inr (omega arith) ]

-- ---- insert: the smaller goes in front, and the order of two does not matter
insert_small : (v x : ℕ) (l : List ℕ) → v ≤ x → insert v (x ∷ l) ≡ v ∷ insert x l
unfolding insert
insert_small v x l h = rw (min-eq_left h, max-eq_right h)

insert_large : (v x : ℕ) (l : List ℕ) → x ≤ v → insert v (x ∷ l) ≡ x ∷ insert v l
unfolding insert
insert_large v x l h = rw (min-eq_right h, max-eq_left h)

insert_either : (a b : ℕ) (l : List ℕ) → insert a (b ∷ l) ≡ insert b (a ∷ l)
unfolding insert
insert_either a b l = rw (min_comm a b, max_comm a b)

-- a goes in before x, b after it
insert_around : (a b x : ℕ) (l : List ℕ) → a ≤ x → x ≤ b → insert x (insert b l) ≡ insert b (insert x l) → insert a (insert b (x ∷ l)) ≡ insert b (insert a (x ∷ l))
insert_around a b x l g h e = rw (insert_large b x l h, insert_small a x l g, insert_small a x (insert b l) g, insert_large b a (insert x l) (omega arith), e)

-- if two go into l in either order, then into x and l too
module _ (x : ℕ) (l : List ℕ) (e : (c d : ℕ) → insert c (insert d l) ≡ insert d (insert c l)) where
  commutes_more : (a b : ℕ) → (a ≤ x) ⊎ (x ≤ a) → (b ≤ x) ⊎ (x ≤ b) → insert a (insert b (x ∷ l)) ≡ insert b (insert a (x ∷ l))
  commutes_more a b (inl g) (inl h) = rw (insert_small b x l h, insert_small a x l g) (insert_either a b (insert x l))
  commutes_more a b (inl g) (inr h) = insert_around a b x l g h (e x b)
  commutes_more a b (inr g) (inl h) = sym (insert_around b a x l h g (e x a))
  commutes_more a b (inr g) (inr h) = rw (insert_large b x l h, insert_large a x l g, insert_large a x (insert b l) g, insert_large b x (insert a l) h, e a b)

insert_commutes : (a b : ℕ) (l : List ℕ) → insert a (insert b l) ≡ insert b (insert a l)
unfolding insert
insert_commutes a b [] = insert_either a b []
insert_commutes a b (x ∷ l) = commutes_more x l (λ c d. insert_commutes c d l) a b (order a x) (order b x)

-- sorting x and l is putting x into the sorted l
sorted_cons : (x : ℕ) (l : List ℕ) → sorted (x ∷ l) ≡ insert x (sorted l)
unfolding sorted insert_all
sorted_cons x l = go [] l
  where
    go : (d l : List ℕ) → insert_all (insert x d) l ≡ insert x (insert_all d l)
    go d [] = refl
    go d (y ∷ l) = rw (insert_commutes y x d) (go (insert y d) l)

-- ---- ascending
ascending_insert : (v : ℕ) (l : List ℕ) → Ascending l → Ascending (insert v l)
unfolding insert
ascending_insert v [] p k h = absurd (let z : ⊥ = omega arith in z)
ascending_insert v (x ∷ []) p zero h = omega arith
ascending_insert v (x ∷ []) p (suc k) h = absurd (let z : ⊥ = omega arith in z)
ascending_insert v (x ∷ y ∷ l) p zero h = omega (arith, p 0 (omega arith))
ascending_insert v (x ∷ y ∷ l) p (suc k) h = ascending_insert (max v x) (y ∷ l) (λ n g. p (suc n) (omega arith)) k (omega arith)

-- the sorted levels are in ascending order
pub ascending : (l : List ℕ) → Ascending (sorted l)
unfolding sorted insert_all
ascending [] = λ k h. absurd (let z : ⊥ = omega arith in z)
ascending (x ∷ l) = rw sorted_cons (ascending_insert x (sorted l) (ascending l))

-- ---- the same levels
perm_insert : (v : ℕ) (l : List ℕ) → Permᴰ (insert v l) (v ∷ l)
unfolding insert
perm_insert v [] = Permᴰ.refl (v ∷ [])
perm_insert v (x ∷ l) = Permᴰ.trans (Permᴰ.cons refl (perm_insert (max v x) l)) (go (order v x))
  where
    go : (v ≤ x) ⊎ (x ≤ v) → Permᴰ (min v x ∷ max v x ∷ l) (v ∷ x ∷ l)
    go (inl h) = Permᴰ.cons (min-eq_left h) (Permᴰ.cons (max-eq_right h) (Permᴰ.refl l))
    go (inr h) = Permᴰ.swap (min-eq_right h) (max-eq_left h)

perm_sorted : (l : List ℕ) → Permᴰ (sorted l) l
unfolding sorted insert_all
perm_sorted [] = Permᴰ.nil
perm_sorted (x ∷ l) = rw sorted_cons (Permᴰ.trans (perm_insert x (sorted l)) (Permᴰ.cons refl (perm_sorted l)))

-- the sorted levels are the levels, each as often
pub same_levels : (l : List ℕ) → Perm (sorted l) l
same_levels l = ∣ perm_sorted l ∣₁

-- ---- and nothing else
same_sorted : {l m : List ℕ} → Permᴰ l m → sorted l ≡ sorted m
same_sorted Permᴰ.nil = refl
same_sorted (Permᴰ.cons e p) = simp (sorted_cons, e, same_sorted p)
same_sorted (Permᴰ.swap e f) = simp (sorted_cons, e, f) (insert_commutes _ _ _)
same_sorted (Permᴰ.trans p q) = same_sorted p ∙ same_sorted q

-- the same levels in another order are sorted to the same list
pub order_does_not_matter : (l m : List ℕ) → Perm l m → sorted l ≡ sorted m
order_does_not_matter l m p = ∥∥₁_elim p (is_set ℕ_set (sorted l) (sorted m)) same_sorted

first : (x : ℕ) (l : List ℕ) → Ascending (x ∷ l) → insert x l ≡ x ∷ l
unfolding insert
first x [] p = refl
first x (y ∷ l) p = insert_small x y l (p 0 (omega arith)) ∙ ap (λ (r : List ℕ). x ∷ r) (first y l (λ k h. p (suc k) (omega arith)))

sorted_already : (m : List ℕ) → Ascending m → sorted m ≡ m
unfolding sorted insert_all
sorted_already [] p = refl
sorted_already (x ∷ l) p = sorted_cons x l ∙ rw (sorted_already l (λ k h. p (suc k) (omega arith))) (first x l p)

-- a list in ascending order that has the levels is the sorted one
pub only_one : (l m : List ℕ) → Ascending m → Perm m l → m ≡ sorted l
only_one l m p q = sym (sorted_already m p) ∙ order_does_not_matter m l q

-- ---- the median
-- "the middle one for an odd number", twice
pub odd : (l : List ℕ) (k : ℕ) → length l ≡ 2 * k + 1 → twice_median l ≡ 2 * get_or (sorted l) k 0
unfolding twice_median
odd l k e =
    let p : (length l - 1) / 2 ≡ k = omega arith in
    let q : length l / 2 ≡ k = omega arith in
    rw (p, q) (omega arith)

-- "the mean of the two middle ones for an even number", twice
pub even : (l : List ℕ) (k : ℕ) → length l ≡ 2 * k + 2 → twice_median l ≡ get_or (sorted l) k 0 + get_or (sorted l) (k + 1) 0
unfolding twice_median
even l k e =
    let p : (length l - 1) / 2 ≡ k = omega arith in
    let q : length l / 2 ≡ k + 1 = omega arith in
    rw (p, q)
