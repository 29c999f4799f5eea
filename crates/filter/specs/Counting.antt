-- Document 02, P2: the middle of nine is "a level with at most four below and at most four above". No promise cites this: that such a
-- level is the middle one of the sorted levels is proofs/Ranks.antt.
use Rattle.std.specs.Prelude.{◌≡◌, cond, List, ℕ, ◌-◌, ◌≤◌, ltb, length, get_or}
use Rattle.arithmetic.specs.Sums.{sum}

-- 1 where a lies below b, else 0
unfoldable pub one_below : ℕ → ℕ → ℕ
one_below a b = cond (ltb a b) 1 0

-- how many of the levels lie below v; one that is equal to v does not
unfoldable pub count_below : ℕ → List ℕ → ℕ
count_below v l = sum (length l) (λ i. one_below (get_or l i 0) v)

-- and how many above it
unfoldable pub count_above : ℕ → List ℕ → ℕ
count_above v l = sum (length l) (λ i. one_below v (get_or l i 0))

-- "at most four below and at most four above", of nine levels and rank 4: of n levels, v has at most r below it and at most n − 1 − r
-- above it. Ranks are counted from 0.
pub record OfRank (l : List ℕ) (r v : ℕ) : Type 0 where
  pub few_below : count_below v l ≤ r
  pub few_above : count_above v l ≤ length l - 1 - r

-- both counts of v among the levels
pub record SidesAre (v : ℕ) (l : List ℕ) (below above : ℕ) : Type 0 where
  pub below_is : below ≡ count_below v l
  pub above_is : above ≡ count_above v l
