-- The weights of a remainder: each as what it adds less what it takes away, and that the four add to 8,192. Assumes nothing.
use mathlib.Core.Path.{◌≡◌, sym, ap, ◌∙◌}
use Prim.Native.Nat.{ℕ, zero, suc, ◌+◌, ◌*◌, ◌<◌, ◌≤◌}
use native.Mathlib.Omega.{arith}
use native.Mathlib.Nat.{mul-le-mul}
use lib.IntN.{ℤ, pos, sub_ℕ}
use Rattle.arithmetic.specs.Sums.{sum, sumℤ}
use Rattle.arithmetic.proofs.Differences.{same_diff, pos_diff, pos_minus, less_plus, less_plus_less, minus_plus}
use Rattle.arithmetic.proofs.SignedSums.{sum_diff}
use Rattle.sample.specs.Cubic.{weight}

-- what the formula of pixel i−1+t adds, and what it takes away
abbrev pub added : ℕ → ℕ → ℕ
added k zero = 32 * (k * k)
added k (suc zero) = 8192 + 3 * (k * k * k)
added k (suc (suc zero)) = 256 * k + 64 * (k * k)
added k (suc (suc (suc t))) = k * k * k

abbrev pub taken : ℕ → ℕ → ℕ
taken k zero = 256 * k + k * k * k
taken k (suc zero) = 80 * (k * k)
taken k (suc (suc zero)) = 3 * (k * k * k)
taken k (suc (suc (suc t))) = 16 * (k * k)

-- each weight is the one less the other
pub weight_is : (k t : ℕ) → weight k t ≡ sub_ℕ (added k t) (taken k t)
unfolding weight
weight_is k zero = less_plus_less (256 * k) (32 * (k * k)) (k * k * k)
weight_is k (suc zero) = minus_plus 8192 (80 * (k * k)) (3 * (k * k * k))
weight_is k (suc (suc zero)) = pos_minus (256 * k + 64 * (k * k)) (3 * (k * k * k))
weight_is k (suc (suc (suc t))) = less_plus (16 * (k * k)) (k * k * k)

-- and so is what is computed for the pixel of the same number
pub by_number : (k : ℕ) {t n : ℕ} {z : ℤ} → t ≡ n → z ≡ sub_ℕ (added k n) (taken k n) → z ≡ weight k t
by_number k {t} {n} same is = is ∙ sym (weight_is k n) ∙ ap (weight k) (sym same)

-- a remainder's square and its cube are small
pub powers : {k : ℕ} → k < 16 → (k * k ≤ 225) × (k * k * k ≤ 3375)
powers {k} small =
    let most : k ≤ 15 = omega arith in
    (mul-le-mul most most, mul-le-mul (mul-le-mul most most) most)

-- the weights of each remainder add to 8,192, that is to 1
pub weights_add : (k : ℕ) → sumℤ 4 (weight k) ≡ pos 8192
unfolding sum
weights_add k =
    sum_diff 4 (weight k) (added k) (taken k) (weight_is k) ∙ same_diff (sum 4 (added k)) (sum 4 (taken k)) 8192 0 (omega arith) ∙ sym (pos_diff 8192)
