-- What median.rt does: both counts of a level, made one level after the other, and the search for the level of a rank. Assumes nothing.
use mathlib.Core.Path.{◌≡◌, refl, sym, ◌∙◌}
use mathlib.Core.Logic.{◌⊎◌, inl, inr, ⊎_elim}
use mathlib.Core.List.{List}
use Prim.Native.Nat.{ℕ, ◌+◌, ◌-◌, ◌/◌, ◌≤◌, ◌<◌}
use native.Mathlib.Decide.{ℕ_discrete}
use native.Mathlib.Omega.{arith}
use borrow.Author.Count.{below_more}
use lib.ListN.{length, get_or, take}
use Rattle.answers.specs.Refusals.{Unless}
use Rattle.arithmetic.proofs.Sums.{sum_none}
use Rattle.filter.specs.Median.{sorted, twice_median}
use Rattle.filter.specs.Counting.{one_below, count_below, count_above, OfRank, SidesAre}
use Rattle.filter.proofs.Each.{each, each_more, each_few}
use Rattle.filter.proofs.Ranks.{none_where_below, one_most, rank_is, rank_has, some_level}

-- ---- both counts of v, among the first k of t
module _ (t : List ℕ) (v : ℕ) where
  -- of none
  pub sides_none : SidesAre v (take 0 t) 0 0
  unfolding count_below count_above
  sides_none = record { below_is = sym (sum_none _); above_is = sym (sum_none _) }

  -- of one level more
  pub sides_more : (k below above : ℕ) → k < length t → SidesAre v (take k t) below above
      → SidesAre v (take (k + 1) t) (below + one_below (get_or t k 0) v) (above + one_below v (get_or t k 0))
  unfolding count_below count_above each
  sides_more k below above inside so_far =
      record {
        below_is = omega (arith, so_far.below_is, each_more (λ x. one_below x v) t k inside);
        above_is = omega (arith, so_far.above_is, each_more (λ x. one_below v x) t k inside);
      }

  -- which may be v itself: it lies neither below nor above itself
  pub sides_itself : (k below above : ℕ) → k < length t → v ≡ get_or t k 0 → SidesAre v (take k t) below above
      → SidesAre v (take (k + 1) t) below above
  sides_itself k below above inside is so_far =
      let more = sides_more k below above inside so_far in
      record {
        below_is = omega (arith, more.below_is, none_where_below (get_or t k 0) v (omega arith));
        above_is = omega (arith, more.above_is, none_where_below v (get_or t k 0) (omega arith));
      }

  -- neither is more than the number of levels that were looked at
  pub sides_few : (k below above : ℕ) → k ≤ length t → SidesAre v (take k t) below above → (below ≤ k) × (above ≤ k)
  unfolding count_below count_above each
  sides_few k below above inside so_far = (
    omega (arith, so_far.below_is, each_few (λ x. one_below x v) t (λ x. one_most x v) k inside),
    omega (arith, so_far.above_is, each_few (λ x. one_below v x) t (λ x. one_most v x) k inside),
  )

-- ---- the search, among the levels l, for the one of rank r
-- v is that level, or no level before place k is
pub record Sought (l : List ℕ) (r k v : ℕ) : Type 0 where
  pub state : (v ≡ get_or (sorted l) r 0) ⊎ ((i : ℕ) → i < k → get_or l i 0 ≡ get_or (sorted l) r 0 → ⊥)

module _ (l : List ℕ) (r : ℕ) (inside : r < length l) where
  abbrev Other : ℕ → Type 0
  Other i = get_or l i 0 ≡ get_or (sorted l) r 0 → ⊥

  -- it begins with the first level
  pub sought_first : (v : ℕ) → v ≡ get_or l 0 0 → Sought l r 1 v
  sought_first v is = elim (ℕ_discrete v (get_or (sorted l) r 0)) [
    | yes e ↦ record { state = inl e }
    | no other ↦ record { state = inr (λ i h. let e : i ≡ 0 = omega arith in rw e (λ here. other (is ∙ here))) }
  ]

  -- v, one more level, is taken exactly where at most `low` lie below it and at most `high` above it
  module _
      (k v below above low high : ℕ)
      (is : v ≡ get_or l k 0)
      (counts : SidesAre v l below above)
      (low-is : low ≡ r)
      (high_is : high ≡ length l - 1 - r)
    where
      when-taken : (below ≤ low) × (above ≤ high) → v ≡ get_or (sorted l) r 0
      when-taken few =
          rank_is l r inside v
          (record { few_below = omega (arith, few.0, counts.below_is); few_above = omega (arith, few.1, counts.above_is) })

      then-taken : v ≡ get_or (sorted l) r 0 → (below ≤ low) × (above ≤ high)
      then-taken e =
          let has : OfRank l r v = rw e (rank_has l r inside) in
          (omega (arith, counts.below_is, has.few_below), omega (arith, counts.above_is, has.few_above))

      pub sought-more : (before now : ℕ) → Unless ((below ≤ low) × (above ≤ high)) (now ≡ before) (now ≡ v) → Sought l r k before
          → Sought l r (k + 1) now
      sought-more before now (inr taken) so_far = record { state = inl (taken.1 ∙ when-taken taken.0) }
      sought-more before now (inl left) so_far =
          record {
            state = ⊎_elim
                (λ e. inl (left.1 ∙ e))
                (λ none. inr (below_more Other k none (λ e. left.0 (then-taken (is ∙ e)))))
                so_far.state;
          }

  -- all are looked at, and one of them is it
  pub sought_last : (k v : ℕ) → length l ≤ k → Sought l r k v → v ≡ get_or (sorted l) r 0
  sought_last k v all so_far = ⊎_elim (λ e. e) (λ none. absurd (some_level l r inside (λ i h. none i (omega arith)))) so_far.state

-- ---- the search, among the levels l, for both middle levels
pub record Middles (l : List ℕ) (k lower upper : ℕ) : Type 0 where
  pub lower_sought : Sought l ((length l - 1) / 2) k lower
  pub upper_sought : Sought l (length l / 2) k upper

module _ (l : List ℕ) (some : 1 ≤ length l) where
  low_inside : (length l - 1) / 2 < length l
  low_inside = omega arith

  high_inside : length l / 2 < length l
  high_inside = omega arith

  pub middles_first : Middles l 1 (get_or l 0 0) (get_or l 0 0)
  middles_first =
      record {
        lower_sought = sought_first l ((length l - 1) / 2) low_inside (get_or l 0 0) refl;
        upper_sought = sought_first l (length l / 2) high_inside (get_or l 0 0) refl;
      }

  -- of n levels n − 1 − (n − 1)/2 is n/2, so that the two ranks are also how many may lie above
  pub middles_more : (k below above low high lower upper lower' upper' : ℕ) → SidesAre (get_or l k 0) l below above
      → low ≡ (length l - 1) / 2 → high ≡ length l / 2
      → Unless ((below ≤ low) × (above ≤ high)) (lower' ≡ lower) (lower' ≡ get_or l k 0)
      → Unless ((below ≤ high) × (above ≤ low)) (upper' ≡ upper) (upper' ≡ get_or l k 0)
      → Middles l k lower upper → Middles l (k + 1) lower' upper'
  middles_more k below above low high lower upper lower' upper' counts low-is high_is takes-lower takes-upper so_far =
      let v = get_or l k 0 in
      let above_lower : high ≡ length l - 1 - (length l - 1) / 2 = omega arith in
      let above-upper : low ≡ length l - 1 - length l / 2 = omega arith in
      let for-lower = sought-more l ((length l - 1) / 2) low_inside k v below above low high refl counts low-is above_lower in
      let for-upper = sought-more l (length l / 2) high_inside k v below above high low refl counts high_is above-upper in
      record {
        lower_sought = for-lower lower lower' takes-lower so_far.lower_sought;
        upper_sought = for-upper upper upper' takes-upper so_far.upper_sought;
      }

  pub middles_last : (k lower upper : ℕ) → length l ≤ k → Middles l k lower upper → lower + upper ≡ twice_median l
  unfolding twice_median
  middles_last k lower upper all so_far =
      let lower-is = sought_last l ((length l - 1) / 2) low_inside k lower all so_far.lower_sought in
      let upper_is = sought_last l (length l / 2) high_inside k upper all so_far.upper_sought in
      rw (lower-is, upper_is)
