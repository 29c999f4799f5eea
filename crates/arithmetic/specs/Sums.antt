-- Sums of n numbers, and of those of them that a test picks.
use Rattle.std.specs.Prelude.{Bool, cond, ℕ, zero, suc, ◌+◌, ℤ, pos, ◌+ℤ◌}

-- f 0 + f 1 + .. + f (n − 1)
unfoldable pub sum : ℕ → (ℕ → ℕ) → ℕ
sum zero f = 0
sum (suc n) f = sum n f + f n

-- the sum of f k over those k below n that are picked
unfoldable pub sum_over : ℕ → (ℕ → Bool) → (ℕ → ℕ) → ℕ
sum_over n picked f = sum n (λ k. cond (picked k) (f k) 0)

-- the same two in signed whole numbers
unfoldable pub sumℤ : ℕ → (ℕ → ℤ) → ℤ
sumℤ zero f = pos 0
sumℤ (suc n) f = sumℤ n f +ℤ f n

unfoldable pub sum_overℤ : ℕ → (ℕ → Bool) → (ℕ → ℤ) → ℤ
sum_overℤ n picked f = sumℤ n (λ k. cond (picked k) (f k) (pos 0))
