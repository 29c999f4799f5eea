-- Document 02, P2: the middle of nine is "a level with at most four below and at most four above". Of any list of n levels and any rank r:
--   rank_is      what has at most r levels below it and at most n − 1 − r above it is the sorted list's level at rank r
--   rank_has     that level has no more of either
--   some_level   and it is one of the levels
-- and so `middle_of_nine`, the sentence itself. Assumes nothing.
use mathlib.Core.Path.{◌≡◌, sym, ap, ◌∙◌}
use mathlib.Core.List.{List}
use Prim.Native.Nat.{ℕ, zero, suc, ◌+◌, ◌-◌, ◌*◌, ◌≤◌, ◌<◌}
use native.Mathlib.Decide.{dec_le}
use native.Mathlib.Omega.{arith}
use borrow.Author.Tests.{lt-ltb, le-ltb}
use lib.ListN.{length, get_or}
use Rattle.arithmetic.proofs.Sums.{sum_most, sum_equal, sum_add, sum_cut}
use Rattle.filter.specs.Median.{sorted, twice_median}
use Rattle.filter.specs.Counting.{one_below, count_below, count_above, OfRank}
use Rattle.filter.proofs.Sorting.{Ascending, ascending, odd}
use Rattle.filter.proofs.Each.{each, each_sorted, length_sorted}

-- ---- one level below another
pub one_where_below : (a b : ℕ) → a < b → one_below a b ≡ 1
unfolding one_below
one_where_below a b h = rw (lt-ltb a b h)

pub none_where_below : (a b : ℕ) → b ≤ a → one_below a b ≡ 0
unfolding one_below
none_where_below a b h = rw (le-ltb a b h)

pub one_most : (a b : ℕ) → one_below a b ≤ 1
one_most a b = elim (dec_le b a) [ yes h ↦ omega (arith, none_where_below a b h) | no h ↦ omega (arith, one_where_below a b (omega arith)) ]

-- of two that differ, one lies below the other
one_side : (a b : ℕ) → (a ≡ b → ⊥) → one_below a b + one_below b a ≡ 1
one_side a b d = elim (dec_le b a) [
  | yes h ↦ let less : b < a = omega arith in omega (arith, none_where_below a b h, one_where_below b a less)
  | no h ↦ let less : a < b = omega arith in omega (arith, one_where_below a b less, none_where_below b a (omega arith))
]

-- ---- sorted, the levels are as many below v and above it
sorted_below : (v : ℕ) (l : List ℕ) → count_below v (sorted l) ≡ count_below v l
unfolding count_below each
sorted_below v l = each_sorted (λ x. one_below x v) l

sorted_above : (v : ℕ) (l : List ℕ) → count_above v (sorted l) ≡ count_above v l
unfolding count_above each
sorted_above v l = each_sorted (λ x. one_below v x) l

-- ---- in an ascending list
rising : (s : List ℕ) → Ascending s → (i j : ℕ) → i ≤ j → j < length s → get_or s i 0 ≤ get_or s j 0
rising s up i zero h inside = let e : i ≡ 0 = omega arith in rw e (omega arith)
rising s up i (suc j) h inside = elim (dec_le i j) [
  | yes g ↦ omega (arith, rising s up i j g (omega arith), up j inside)
  | no g ↦ let e : i ≡ suc j = omega arith in rw e (omega arith)
]

-- beside the level of rank r
module _ (s : List ℕ) (up : Ascending s) (r : ℕ) (inside : r < length s) where
  -- none up to it is above it
  up_to : (i : ℕ) → i < r + 1 → get_or s i 0 ≤ get_or s r 0
  up_to i h = rising s up i r (omega arith) inside

  -- and none from it on is below it
  from_on : (i : ℕ) → i < length s - r → get_or s r 0 ≤ get_or s (r + i) 0
  from_on i h = rising s up r (r + i) (omega arith) (omega arith)

  -- where it lies below v, so do all up to it: r + 1 levels
  many_below : (v : ℕ) → get_or s r 0 < v → r < count_below v s
  unfolding count_below
  many_below v h =
      let below : ℕ → ℕ = λ i. one_below (get_or s i 0) v in
      let all = sum_equal 1 (r + 1) below (λ i g. one_where_below (get_or s i 0) v (omega (arith, up_to i g))) in
      omega (arith, all, sum_cut below (r + 1) (length s) (omega arith))

  -- where it lies above v, so do all from it on: n − r levels
  many_above : (v : ℕ) → v < get_or s r 0 → length s - 1 - r < count_above v s
  unfolding count_above
  many_above v h =
      let above : ℕ → ℕ = λ i. one_below v (get_or s i 0) in
      let all = sum_equal 1 (length s - r) (λ i. above (r + i)) (λ i g. one_where_below v (get_or s (r + i) 0) (omega (arith, from_on i g))) in
      omega (arith, all, sum_cut above r (length s) (omega arith))

  -- below it lie at most the r before it
  few_under : count_below (get_or s r 0) s ≤ r
  unfolding count_below
  few_under =
      let w = get_or s r 0 in
      let below : ℕ → ℕ = λ i. one_below (get_or s i 0) w in
      let none = sum_equal 0 (length s - r) (λ i. below (r + i)) (λ i g. none_where_below (get_or s (r + i) 0) w (from_on i g)) in
      omega (arith, none, sum_most 1 r below (λ i. one_most (get_or s i 0) w), sum_cut below r (length s) (omega arith))

  -- above it at most the n − 1 − r after it
  few_over : count_above (get_or s r 0) s ≤ length s - 1 - r
  unfolding count_above
  few_over =
      let w = get_or s r 0 in
      let above : ℕ → ℕ = λ i. one_below w (get_or s i 0) in
      let none = sum_equal 0 (r + 1) above (λ i g. none_where_below w (get_or s i 0) (up_to i g)) in
      let few = sum_most 1 (length s - (r + 1)) (λ i. above (r + 1 + i)) (λ i. one_most w (get_or s (r + 1 + i) 0)) in
      omega (arith, none, few, sum_cut above (r + 1) (length s) (omega arith))

-- ---- the law
module _ (l : List ℕ) (r : ℕ) (inside : r < length l) where
  abbrev ranked : ℕ
  ranked = get_or (sorted l) r 0

  -- sorted, there are as many levels
  in_sorted : r < length (sorted l)
  in_sorted = omega (arith, length_sorted l)

  -- What has at most r levels below it and at most n − 1 − r above it is the sorted list's level at rank r. Several equal levels may
  -- have that: it does not matter which of them is found.
  pub rank_is : (v : ℕ) → OfRank l r v → v ≡ ranked
  rank_is v few = elim (dec_le v ranked) [
    | yes h ↦ elim (dec_le ranked v) [ yes g ↦ omega arith | no g ↦ absurd (too-many-above (omega arith)) ]
    | no h ↦ absurd (too-many-below (omega arith))
  ]
    where
      too-many-below : ranked < v → ⊥
      too-many-below h = omega (arith, few.few_below, sorted_below v l, many_below (sorted l) (ascending l) r in_sorted v h)

      too-many-above : v < ranked → ⊥
      too-many-above h =
          omega (arith, few.few_above, sorted_above v l, length_sorted l, many_above (sorted l) (ascending l) r in_sorted v h)

  -- that level has no more below it, and no more above it
  pub rank_has : OfRank l r ranked
  rank_has =
      record {
        few_below = omega (arith, sorted_below ranked l, few_under (sorted l) (ascending l) r in_sorted);
        few_above = omega (arith, sorted_above ranked l, length_sorted l, few_over (sorted l) (ascending l) r in_sorted);
      }

  -- and it is one of the levels: were each another, each would lie below it or above it, and that many do not
  pub some_level : ((i : ℕ) → i < length l → get_or l i 0 ≡ ranked → ⊥) → ⊥
  unfolding count_below count_above
  some_level other =
      let below : ℕ → ℕ = λ i. one_below (get_or l i 0) ranked in
      let above : ℕ → ℕ = λ i. one_below ranked (get_or l i 0) in
      let all = sum_equal 1 (length l) (λ i. below i + above i) (λ i h. one_side (get_or l i 0) ranked (other i h)) in
      omega (arith, rank_has.few_below, rank_has.few_above, all, sum_add (length l) below above)

-- ---- the sentence: nine levels, and v with at most four below it and at most four above it
pub middle_of_nine : (l : List ℕ) (v : ℕ) → length l ≡ 9 → count_below v l ≤ 4 → count_above v l ≤ 4 → twice_median l ≡ 2 * v
middle_of_nine l v nine below above =
    let few : OfRank l 4 v = record { few_below = below; few_above = omega arith } in
    odd l 4 nine ∙ ap (λ (x : ℕ). 2 * x) (sym (rank_is l 4 (omega arith) v few))
