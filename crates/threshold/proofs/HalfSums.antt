-- Laws of half the sum of two fractions: it grows with both, and stays the same only where both do. Assumes nothing.
use Prim.Native.Nat.{◌*◌, ◌≤◌}
use native.Mathlib.Nat.{mul-le-mul_right, mul-pos, eq_of_mul-eq-mul_right}
use native.Mathlib.Omega.{arith}
use Rattle.arithmetic.specs.declared.Fraction.{Fraction}
use Rattle.arithmetic.specs.Fractions.{Proper, Equal, NotMore}
use Rattle.threshold.specs.TwoMeans.{half_sum}

-- L not more than M and H not more than N, each multiplied by what the denominators of the half sums have beyond its own:
module _ (L H M N : Fraction) (low : NotMore L M) (high : NotMore H N) where
  low_times : L.numerator * M.denominator * (H.denominator * N.denominator) ≤ M.numerator * L.denominator * (H.denominator * N.denominator)
  low_times = mul-le-mul_right (H.denominator * N.denominator) low

  high_times : H.numerator * N.denominator * (L.denominator * M.denominator) ≤ N.numerator * H.denominator * (L.denominator * M.denominator)
  high_times = mul-le-mul_right (L.denominator * M.denominator) high

  -- half the sum grows with both
  pub half_sum_grows : NotMore (half_sum L H) (half_sum M N)
  half_sum_grows = omega (arith, low_times, high_times)

  -- and stays the same only where both do
  pub low_same : Proper H → Proper N → Equal (half_sum L H) (half_sum M N) → Equal L M
  low_same pH pN e =
      eq_of_mul-eq-mul_right (H.denominator * N.denominator) (mul-pos pH pN) (L.numerator * M.denominator) (M.numerator * L.denominator)
      (omega (arith, low_times, high_times))

  pub high_same : Proper L → Proper M → Equal (half_sum L H) (half_sum M N) → Equal H N
  high_same pL pM e =
      eq_of_mul-eq-mul_right (L.denominator * M.denominator) (mul-pos pL pM) (H.numerator * N.denominator) (N.numerator * H.denominator)
      (omega (arith, low_times, high_times))
