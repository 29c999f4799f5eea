-- Sums of signed numbers: one number more, numbers that are the same, a factor before them or behind them, and sums of differences and
-- of natural numbers, of all or of those that are picked. Assumes nothing.
use mathlib.Core.Bool.{Bool, true, false, cond}
use mathlib.Core.Path.{◌≡◌, refl, sym, ◌∙◌}
use Prim.Native.Nat.{ℕ, zero, suc, ◌+◌, ◌<◌}
use native.Mathlib.Numerals.{add-one}
use native.Mathlib.Omega.{arith}
use lib.IntN.{ℤ, pos, sub_ℕ, ◌+ℤ◌, ◌-ℤ◌, ◌*ℤ◌, *ℤ-zero, *ℤ_comm}
use Rattle.arithmetic.specs.Sums.{sum, sum_over, sumℤ, sum_overℤ}
use Rattle.arithmetic.proofs.Differences.{pos_diff, add_diff, pos_minus, mul_addℤ}

pub sumℤ_none : (z : ℕ → ℤ) → sumℤ 0 z ≡ pos 0
unfolding sumℤ
sumℤ_none z = refl

pub sumℤ_more : (n : ℕ) (z : ℕ → ℤ) → sumℤ (n + 1) z ≡ sumℤ n z +ℤ z n
unfolding sumℤ
sumℤ_more n z = rw add-one

-- numbers that are the same have the same sum
pub sumℤ_same : (n : ℕ) (y z : ℕ → ℤ) → ((i : ℕ) → i < n → y i ≡ z i) → sumℤ n y ≡ sumℤ n z
unfolding sumℤ
sumℤ_same zero y z p = refl
sumℤ_same (suc n) y z p = rw (sumℤ_same n y z (λ i l. p i (omega arith)), p n (omega arith))

-- a factor before a sum
pub sumℤ_times : (x : ℤ) (n : ℕ) (z : ℕ → ℤ) → sumℤ n (λ i. x *ℤ z i) ≡ x *ℤ sumℤ n z
unfolding sumℤ
sumℤ_times x zero z = sym (*ℤ-zero x)
sumℤ_times x (suc n) z = rw (sumℤ_times x n z) (sym (mul_addℤ x (sumℤ n z) (z n)))

-- and behind it
pub sumℤ_by : (x : ℤ) (n : ℕ) (z : ℕ → ℤ) → sumℤ n (λ i. z i *ℤ x) ≡ sumℤ n z *ℤ x
sumℤ_by x n z = sumℤ_same n (λ i. z i *ℤ x) (λ i. x *ℤ z i) (λ i l. *ℤ_comm (z i) x) ∙ sumℤ_times x n z ∙ *ℤ_comm x (sumℤ n z)

-- a sum of differences is the difference of the sums
pub sum_diff : (n : ℕ) (z : ℕ → ℤ) (f g : ℕ → ℕ) → ((i : ℕ) → z i ≡ sub_ℕ (f i) (g i)) → sumℤ n z ≡ sub_ℕ (sum n f) (sum n g)
unfolding sum sumℤ
sum_diff zero z f g p = pos_diff 0
sum_diff (suc n) z f g p = rw (sum_diff n z f g p, p n) (add_diff (sum n f) (sum n g) (f n) (g n))

-- signed numbers that are natural ones have the same sum
pub sum_natural : (n : ℕ) (z : ℕ → ℤ) (f : ℕ → ℕ) → ((i : ℕ) → z i ≡ pos (f i)) → sumℤ n z ≡ pos (sum n f)
unfolding sum sumℤ
sum_natural zero z f p = refl
sum_natural (suc n) z f p = rw (sum_natural n z f p, p n)

-- the last two of the numbers that p picks
module _ (n : ℕ) (p : ℕ → Bool) where
  pub over_natural : (z : ℕ → ℤ) (f : ℕ → ℕ) → ((i : ℕ) → z i ≡ pos (f i)) → sum_overℤ n p z ≡ pos (sum_over n p f)
  unfolding sum_over sum_overℤ
  over_natural z f is = sum_natural n (λ i. cond (p i) (z i) (pos 0)) (λ i. cond (p i) (f i) 0) (λ i. picked (p i) i)
    where
      picked : (b : Bool) (i : ℕ) → cond b (z i) (pos 0) ≡ pos (cond b (f i) 0)
      picked true i = is i
      picked false i = refl

  pub over_minus : (f g : ℕ → ℕ) → sum_overℤ n p (λ i. pos (f i) -ℤ pos (g i)) ≡ pos (sum_over n p f) -ℤ pos (sum_over n p g)
  unfolding sum_over sum_overℤ
  over_minus f g =
      sum_diff n (λ i. cond (p i) (pos (f i) -ℤ pos (g i)) (pos 0)) (λ i. cond (p i) (f i) 0) (λ i. cond (p i) (g i) 0) (λ i. picked (p i) i)
      ∙ sym (pos_minus (sum_over n p f) (sum_over n p g))
    where
      picked : (b : Bool) (i : ℕ) → cond b (pos (f i) -ℤ pos (g i)) (pos 0) ≡ sub_ℕ (cond b (f i) 0) (cond b (g i) 0)
      picked true i = pos_minus (f i) (g i)
      picked false i = pos_diff 0

-- the same of differences as they are written
pub sum_minus : (n : ℕ) (f g : ℕ → ℕ) → sumℤ n (λ i. pos (f i) -ℤ pos (g i)) ≡ pos (sum n f) -ℤ pos (sum n g)
sum_minus n f g = sum_diff n (λ i. pos (f i) -ℤ pos (g i)) f g (λ i. pos_minus (f i) (g i)) ∙ sym (pos_minus (sum n f) (sum n g))
