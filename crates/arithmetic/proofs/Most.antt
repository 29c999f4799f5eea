-- The greatest of a list's numbers, found one after the other, and what it tells: whether each is at most b. Assumes nothing.
use mathlib.Core.Path.{◌≡◌}
use mathlib.Core.Bool.{true, false}
use mathlib.Core.List.{List}
use mathlib.Core.Logic.{⊎_elim}
use Prim.Native.Nat.{ℕ, ◌+◌, ◌<◌, ◌≤◌, max, zero-le}
use native.Mathlib.Nat.{le-max_left, le-max_right, max-le, le_trans, not-le_of_lt}
use native.Mathlib.Decide.{dec_lt}
use native.Mathlib.Omega.{arith}
use borrow.Author.Tests.{le-leb, lt-leb}
use lib.Dec.{leb}
use lib.ListN.{length, get_or, get_or-eq_default}
use Rattle.arithmetic.specs.Greatest.{Least}
use Rattle.arithmetic.specs.Lists.{AtMost}
use Rattle.answers.specs.Refusals.{Unless}
use Rattle.arithmetic.proofs.Order.{le_or_lt}
use Rattle.answers.proofs.Refusals.{stops, goes_on}

-- `most` is the greatest of the first i values
pub record Most (values : List ℕ) (most i : ℕ) : Type 0 where
  pub up_to : (k : ℕ) → k < i → get_or values k 0 ≤ most
  pub no_more : (b : ℕ) → AtMost b values → most ≤ b

-- of none it is 0
pub most_none : (values : List ℕ) → Most values 0 0
most_none values = record { up_to = λ k h. absurd (let z : ⊥ = omega arith in z); no_more = λ b p. zero-le }

-- one value more, x
pub most_more : (values : List ℕ) (most i x : ℕ) → x ≡ get_or values i 0 → Most values most i → Most values (max most x) (i + 1)
most_more values most i x is so_far = record { up_to = up_to; no_more = λ b p. max-le (so_far.no_more b p) (omega (arith, p i)) }
  where
    up_to : (k : ℕ) → k < i + 1 → get_or values k 0 ≤ max most x
    up_to k h = elim (dec_lt k i) [
      | yes g ↦ le_trans (so_far.up_to k g) (le-max_left most x)
      | no g ↦ let e : k ≡ i = omega arith in rw (e, ← is) (le-max_right most x)
    ]

-- all values
pub most_all : (values : List ℕ) (most i : ℕ) → length values ≤ i → Most values most i → Least (λ b. AtMost b values) most
most_all values most i all so_far = record { holds = holds; least = so_far.no_more }
  where
    holds : AtMost most values
    holds k = elim (dec_lt k i) [
      | yes g ↦ so_far.up_to k g
      | no g ↦ rw (get_or-eq_default values 0 {n = k} (omega arith)) zero-le
    ]

-- each is at most b exactly where the greatest is
pub most_tells : (values : List ℕ) (most b : ℕ) → Least (λ b. AtMost b values) most
    → Unless (AtMost b values) (leb most b ≡ false) (leb most b ≡ true)
most_tells values most b l = ⊎_elim
    (λ (h : most ≤ b). goes_on (λ k. le_trans (l.holds k) h) (le-leb most b h))
    (λ (h : b < most). stops (λ small. not-le_of_lt h (l.least b small)) (lt-leb most b h))
    (le_or_lt most b)
