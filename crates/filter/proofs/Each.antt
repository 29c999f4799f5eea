-- Sums over the levels of a list: f of each level, added. Sorting leaves them as they are. Assumes nothing.
use mathlib.Core.Path.{◌≡◌, refl, sym, ap, ◌∙◌}
use mathlib.Core.Logic.{∥∥₁_elim}
use mathlib.Core.List.{List, ◌∷◌, Permᴰ}
use Prim.Native.Nat.{ℕ, ◌+◌, ◌≤◌, ◌<◌}
use native.Mathlib.Nat.{ℕ_set}
use native.Mathlib.Omega.{arith}
use lib.ListN.{length, get_or, take}
use lib.Seq.{get_or-take, length-take-le}
use Rattle.arithmetic.specs.Sums.{sum}
use Rattle.arithmetic.proofs.Sums.{sum_first, sum_more, sum_most, sum_same, sum_equal}
use Rattle.filter.specs.Median.{sorted}
use Rattle.filter.proofs.Sorting.{same_levels}

unfoldable pub each : (ℕ → ℕ) → List ℕ → ℕ
each f l = sum (length l) (λ i. f (get_or l i 0))

-- ---- the order of the levels does not matter
each_cons : (f : ℕ → ℕ) (x : ℕ) (l : List ℕ) → each f (x ∷ l) ≡ f x + each f l
unfolding each
each_cons f x l = sum_first (length l) (λ i. f (get_or (x ∷ l) i 0))

each_same : (f : ℕ → ℕ) {l m : List ℕ} → Permᴰ l m → each f l ≡ each f m
each_same f Permᴰ.nil = refl
each_same f (Permᴰ.cons e p) = simp (each_cons, e, each_same f p)
each_same f (Permᴰ.swap e g) = simp (each_cons, e, g) (omega arith)
each_same f (Permᴰ.trans p q) = each_same f p ∙ each_same f q

pub each_sorted : (f : ℕ → ℕ) (l : List ℕ) → each f (sorted l) ≡ each f l
each_sorted f l = ∥∥₁_elim (same_levels l) (ℕ_set (each f (sorted l)) (each f l)) (each_same f)

-- one for each level is how many there are
each_one : (l : List ℕ) → each (λ _. 1) l ≡ length l
unfolding each
each_one l = omega (arith, sum_equal 1 (length l) (λ _. 1) (λ i h. refl))

pub length_sorted : (l : List ℕ) → length (sorted l) ≡ length l
length_sorted l = sym (each_one (sorted l)) ∙ each_sorted (λ _. 1) l ∙ each_one l

-- ---- of the first k levels
module _ (f : ℕ → ℕ) (t : List ℕ) where
  each_first : (k : ℕ) → k ≤ length t → each f (take k t) ≡ sum k (λ i. f (get_or t i 0))
  unfolding each
  each_first k h = rw (length-take-le k t h) (sum_same k _ _ (λ i g. ap f (get_or-take k t i 0 g)))

  -- one level more
  pub each_more : (k : ℕ) → k < length t → each f (take (k + 1) t) ≡ each f (take k t) + f (get_or t k 0)
  each_more k h = omega (arith, each_first k (omega arith), each_first (k + 1) (omega arith), sum_more k (λ i. f (get_or t i 0)))

  -- no more than there are levels, where f is at most 1
  pub each_few : ((x : ℕ) → f x ≤ 1) → (k : ℕ) → k ≤ length t → each f (take k t) ≤ k
  each_few small k h = omega (arith, each_first k h, sum_most 1 k (λ i. f (get_or t i 0)) (λ i. small (get_or t i 0)))
