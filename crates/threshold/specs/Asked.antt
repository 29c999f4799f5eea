-- What the functions inside the crate ask of what they are given, and what their loops have gathered. No promise cites this.
use Rattle.std.specs.Prelude.{◌≡◌, cond, List, ℕ, ◌+◌, ◌/◌, ◌<◌, ◌≤◌, eqb, length, get_or}
use Rattle.arithmetic.specs.Sums.{sum}
use Rattle.threshold.specs.Histogram.{count_of, total}
use Rattle.threshold.specs.TwoMeans.{level_sum}

-- what the first n values add at level v
unfoldable pub added_up_to : List ℕ → ℕ → ℕ → ℕ
added_up_to values n v = sum n (λ i. cond (eqb (get_or values i 0 / 8) v) 1 0)

-- their counts
pub record Added (values : List ℕ) (n : ℕ) (counts : List ℕ) : Type 0 where
  pub places : length counts ≡ 256
  pub counts_are : (v : ℕ) → v < 256 → count_of counts v ≡ added_up_to values n v

-- the two tables, up to level n: at place v how many values were counted below level v, and the sum of their levels
pub record Filled (h : List ℕ) (n : ℕ) (below sums : List ℕ) : Type 0 where
  pub below_long : length below ≡ length h + 1
  pub sums_long : length sums ≡ length h + 1
  pub below_are : (v : ℕ) → v ≤ n → get_or below v 0 ≡ sum v (count_of h)
  pub sums_are : (v : ℕ) → v ≤ n → get_or sums v 0 ≡ sum v (level_sum h)

-- both tables are right at all places
abbrev pub Tables : List ℕ → List ℕ → List ℕ → Type 0
Tables h = Filled h (length h)

-- a histogram with which a round stays within 64 bits (2,048 levels, because document 02, P11, asks for 2,041)
pub record Small (h : List ℕ) : Type 0 where
  pub levels : length h ≤ 2_048
  pub values : total h ≤ 1_048_576
