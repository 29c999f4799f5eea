-- Laws of the greatest of a kind: there is one at most, and halving an interval finds it; and of the least: there is one at most,
-- and there is one where some number has the property and each can be tested. Assumes nothing.
use mathlib.Core.Path.{◌≡◌, sym, subst}
use mathlib.Core.Logic.{⊎_elim}
use Prim.Native.Nat.{ℕ, zero, suc, ◌+◌, ◌<◌, ◌≤◌, zero-le}
use native.Mathlib.Nat.{le_antisymm, lt_of_not-le, eq-or-lt_of_le}
use native.Mathlib.Omega.{arith}
use Rattle.arithmetic.specs.Greatest.{Greatest, Least, Between}

-- any two greatest numbers are equal
pub one_greatest : {P : ℕ → Type 0} {a b : ℕ} → Greatest P a → Greatest P b → a ≡ b
one_greatest g h = le_antisymm (h.most _ g.holds) (g.most _ h.holds)

-- any two least numbers are equal
pub one_least : {P : ℕ → Type 0} {a b : ℕ} → Least P a → Least P b → a ≡ b
one_least g h = le_antisymm (g.least _ h.holds) (h.least _ g.holds)

-- the next number after the greatest does not have the property
pub next_has_not : {P : ℕ → Type 0} {q : ℕ} → Greatest P q → ¬ P (q + 1)
next_has_not {P} {q} g h = let b : q + 1 ≤ q = g.most (q + 1) h in omega arith

-- the same property in other words has the same greatest number
pub reworded : {P Q : ℕ → Type 0} {q : ℕ} → ((k : ℕ) → P k → Q k) → ((k : ℕ) → Q k → P k) → Greatest P q → Greatest Q q
reworded to of g = record { holds = to _ g.holds; most = λ (k : ℕ) h. g.most k (of k h) }

-- what a number has, each smaller one has too
abbrev pub Falling : (ℕ → Type 0) → Type 0
Falling P = (j k : ℕ) → j ≤ k → P k → P j

-- where that is so, a number that has the property while the next one does not is the greatest
pub by_neighbours : {P : ℕ → Type 0} {k : ℕ} → Falling P → P k → ¬ P (k + 1) → Greatest P k
by_neighbours {P} {k} falling at past =
    record {
      holds = at;
      most = λ (j : ℕ) (h : P j). let b : j < k + 1 = lt_of_not-le (λ (le : k + 1 ≤ j). past (falling _ _ le h)) in omega arith;
    }

-- The law of halving. An interval has numbers in it; its middle becomes its lower end where it has the property, and its
-- upper end where it does not; and an interval of width 1 is the answer.
module _ {P : ℕ → Type 0} {lo hi : ℕ} (in-it : Between P lo hi) where
  pub not_empty : lo < hi
  not_empty = in-it.high lo in-it.low

  pub upper_half : {mid : ℕ} → P mid → Between P mid hi
  upper_half at = record { low = at; high = in-it.high }

  pub lower_half : {mid : ℕ} → Falling P → ¬ P mid → Between P lo mid
  lower_half falling past =
      record { low = in-it.low; high = λ (k : ℕ) (h : P k). lt_of_not-le (λ le. past (falling _ _ le h)) }

  pub narrowed : hi ≤ lo + 1 → Greatest P lo
  narrowed width =
      record { holds = in-it.low; most = λ (k : ℕ) (h : P k). let b : k < hi = in-it.high k h in omega arith }

-- where 0 does not have the property, the least number that has it is one more than the least whose next number has it
pub next_least : {P : ℕ → Type 0} {q : ℕ} → ¬ P 0 → Least (λ k. P (suc k)) q → Least P (suc q)
next_least {P} {q} not_first l = record { holds = l.holds; least = from }
  where
    from : (k : ℕ) → P k → suc q ≤ k
    from zero h = absurd (not_first h)
    from (suc k) h = let b : q ≤ k = l.least k h in omega arith

-- where all that have the property are from k on, and k does not have it, they are from the next number on
pub not_yet : {P : ℕ → Type 0} {k : ℕ} → ((j : ℕ) → P j → k ≤ j) → ¬ P k → (j : ℕ) → P j → suc k ≤ j
not_yet {P} {k} from here j h = ⊎_elim (λ (e : k ≡ j). absurd (here (subst P (sym e) h))) (λ later. later) (eq-or-lt_of_le (from j h))

-- where some number has the property, and each can be tested, there is a least one
pub least_found : {P : ℕ → Type 0} → ((k : ℕ) → Dec (P k)) → (n : ℕ) → P n → (k : ℕ) × Least P k
least_found test zero at = (0, record { holds = at; least = λ k h. zero-le })
least_found {P} test (suc n) at = elim (test 0) [
  | yes h ↦ (0, record { holds = h; least = λ k g. zero-le })
  | no f ↦ let r = least_found {P = λ k. P (suc k)} (λ k. test (suc k)) n at in (suc r.0, next_least f r.1)
]
