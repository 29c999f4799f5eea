-- Laws of sums over the levels that a test picks. Assumes nothing.
use mathlib.Core.Path.{◌≡◌, refl, sym}
use mathlib.Core.Bool.{Bool, true, false, cond, not, ◌&&◌, false≢true}
use mathlib.Core.Logic.{⊎_elim}
use Prim.Native.Nat.{ℕ, zero, suc, ◌+◌, ◌*◌, ◌<◌, ◌≤◌}
use native.Mathlib.Nat.{eq-or-lt_of_le}
use native.Mathlib.Omega.{arith}
use borrow.Author.Tests.{not-true}
use Rattle.arithmetic.specs.Sums.{sum, sum_over}

-- every level that p picks, q picks too
abbrev pub Sub : (ℕ → Bool) → (ℕ → Bool) → Type 0
Sub p q = (v : ℕ) → p v ≡ true → q v ≡ true

-- the levels that q picks beyond those that p picks
abbrev pub beyond : (ℕ → Bool) → (ℕ → Bool) → ℕ → Bool
beyond p q v = q v && not (p v)

-- such a level is one that q picks and p does not
pub beyond_is : (p q : ℕ → Bool) (v : ℕ) → beyond p q v ≡ true → (q v ≡ true) × (p v ≡ false)
beyond_is p q v = go (q v) (p v)
  where
    go : (b d : Bool) → (b && not d) ≡ true → (b ≡ true) × (d ≡ false)
    go true d e = (refl, not-true d e)
    go false d e = absurd (false≢true e)

-- what q picks is what p picks and what lies beyond
pub over_in_two : (p q : ℕ → Bool) → Sub p q → (n : ℕ) (f : ℕ → ℕ) → sum_over n q f ≡ sum_over n p f + sum_over n (beyond p q) f
unfolding sum sum_over
over_in_two p q s zero f = refl
over_in_two p q s (suc n) f = omega (arith, over_in_two p q s n f, one (q n) (p n) (s n))
  where
    one : (b d : Bool) → (d ≡ true → b ≡ true) → cond b (f n) 0 ≡ cond d (f n) 0 + cond (b && not d) (f n) 0
    one true true i = omega arith
    one true false i = omega arith
    one false true i = absurd (false≢true (i refl))
    one false false i = omega arith

-- what p picks and what it does not pick are all
pub over_rest : (n : ℕ) (p : ℕ → Bool) (f : ℕ → ℕ) → sum_over n p f + sum_over n (λ v. not (p v)) f ≡ sum n f
unfolding sum_over
over_rest n p f = sym (over_in_two p (λ v. true) (λ v e. refl) n f)

-- so what is picked is at most all
pub over_part : (n : ℕ) (p : ℕ → Bool) (f : ℕ → ℕ) → sum_over n p f ≤ sum n f
over_part n p f = omega (arith, over_rest n p f)

-- and at least what any picked level has
pub over_has : (n : ℕ) (p : ℕ → Bool) (f : ℕ → ℕ) (v : ℕ) → v < n → p v ≡ true → f v ≤ sum_over n p f
unfolding sum sum_over
over_has zero p f v l t = absurd (omega arith)
over_has (suc n) p f v l t = ⊎_elim last (λ (e : v < n). omega (arith, over_has n p f v e t)) (eq-or-lt_of_le {n = v} {m = n} (omega arith))
  where
    last : v ≡ n → f v ≤ sum n (λ v. cond (p v) (f v) 0) + cond (p n) (f n) 0
    last e = rw (← e, t) (omega arith)

-- where f is at most g at each picked level, so are the sums
pub over_le : (n : ℕ) (p : ℕ → Bool) (f g : ℕ → ℕ) → ((v : ℕ) → p v ≡ true → f v ≤ g v) → sum_over n p f ≤ sum_over n p g
unfolding sum sum_over
over_le zero p f g le = omega arith
over_le (suc n) p f g le = omega (arith, over_le n p f g le, one (p n) (le n))
  where
    one : (b : Bool) → (b ≡ true → f n ≤ g n) → cond b (f n) 0 ≤ cond b (g n) 0
    one true l = l refl
    one false l = omega arith

-- where f comes to 0, so does what is 0 wherever f is
pub over_zero : (n : ℕ) (p : ℕ → Bool) (f g : ℕ → ℕ) → ((v : ℕ) → f v ≡ 0 → g v ≡ 0) → sum_over n p f ≡ 0 → sum_over n p g ≡ 0
unfolding sum sum_over
over_zero zero p f g z e = refl
over_zero (suc n) p f g z e = omega (arith, over_zero n p f g z (omega arith), one (p n) (omega arith))
  where
    one : (b : Bool) → cond b (f n) 0 ≡ 0 → cond b (g n) 0 ≡ 0
    one true e = z n e
    one false e = refl

-- k times each
pub over_times : (n : ℕ) (p : ℕ → Bool) (f : ℕ → ℕ) (k : ℕ) → sum_over n p (λ v. f v * k) ≡ sum_over n p f * k
unfolding sum sum_over
over_times zero p f k = omega arith
over_times (suc n) p f k = omega (arith, over_times n p f k, one (p n))
  where
    one : (b : Bool) → cond b (f n * k) 0 ≡ cond b (f n) 0 * k
    one true = refl
    one false = omega arith

-- two sums at once
pub over_add : (n : ℕ) (p : ℕ → Bool) (f g : ℕ → ℕ) → sum_over n p (λ v. f v + g v) ≡ sum_over n p f + sum_over n p g
unfolding sum sum_over
over_add zero p f g = refl
over_add (suc n) p f g = omega (arith, over_add n p f g, one (p n))
  where
    one : (b : Bool) → cond b (f n + g n) 0 ≡ cond b (f n) 0 + cond b (g n) 0
    one true = refl
    one false = refl
