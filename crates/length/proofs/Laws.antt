-- Laws of the definition: what halving finds in ℕ is the document's length. Assumes nothing.
use mathlib.Core.Path.{◌≡◌, ap, ◌∙◌}
use Prim.Native.Nat.{ℕ, ◌+◌, ◌*◌, ◌/◌, ◌≤◌}
use native.Mathlib.Nat.{mul-le-mul, mul-le-mul_left, le_trans, lt_of_not-le}
use native.Mathlib.Omega.{arith}
use lib.IntN.{pos}
use Rattle.arithmetic.specs.Greatest.{Greatest, Between}
use Rattle.arithmetic.specs.Signed.{nat_of}
use Rattle.arithmetic.proofs.Order.{to_ℤ, of_ℤ, positive, low_natural, high_natural}
use Rattle.answers.proofs.Refusals.{goes_on}
use Rattle.arithmetic.proofs.Greatest.{Falling, next_has_not, reworded}
use Rattle.units.specs.declared.Sixteenths.{Sixteenths}
use Rattle.units.specs.declared.Picometres.{Picometres}
use Rattle.length.specs.Length.{InRange, NotLonger, Sharpness, Done, sharpness, LengthIs}

-- what is at most t stays so for each smaller number
pub falling : (t : ℕ) → Falling (λ q. 512 * (q * q) ≤ t)
falling t j k le h = le_trans (mul-le-mul_left 512 (mul-le-mul le le)) h

-- the ranges, of natural numbers
pub record Ranged (f p : ℕ) : Type 0 where
  pub factor_low : 1 ≤ f
  pub factor_high : f ≤ 16384
  pub pixel_low : 1 ≤ p
  pub pixel_high : p ≤ 100000

-- what is in range is so as a natural number
pub to_natural : (s : Sixteenths) (p : Picometres) → InRange s p → Ranged (nat_of s.0) p.0
to_natural s p ok =
    record {
      factor_low = low_natural s.0 ok.factor_low;
      factor_high = high_natural s.0 ok.factor_high;
      pixel_low = ok.pixel_low;
      pixel_high = ok.pixel_high;
    }

-- and the other way round; then what halving finds is the document's length
module _ (s : Sixteenths) (p : Picometres) (ok : Ranged (nat_of s.0) p.0) where
  whole : s.0 ≡ pos (nat_of s.0)
  whole = positive s.0 ok.factor_low

  in_range : InRange s p
  in_range =
      record {
        factor_low = rw whole (to_ℤ ok.factor_low);
        factor_high = rw whole (to_ℤ ok.factor_high);
        pixel_low = ok.pixel_low;
        pixel_high = ok.pixel_high;
      }

  greatest : {q : ℕ} → Greatest (λ k. 512 * (k * k) ≤ p.0 * nat_of s.0 * (p.0 * nat_of s.0)) q → Greatest (NotLonger s p) q
  greatest g = rw whole (reworded (λ (k : ℕ) h. to_ℤ h) (λ (k : ℕ) h. of_ℤ h) g)

  pub is_the_length : (r : Sharpness) → r.number ≡ 0 → Greatest (λ k. 512 * (k * k) ≤ p.0 * nat_of s.0 * (p.0 * nat_of s.0)) r.length.0 → LengthIs s p r
  is_the_length r done g = goes_on in_range (record { number = done; length = greatest g })

-- the product and its square have room in 64 bits
pub product : {f p : ℕ} → Ranged f p → p * f ≤ 1638400000
product ok = mul-le-mul ok.pixel_high ok.factor_high

pub squared : {t : ℕ} → t ≤ 1638400000 → t * t ≤ 1638400000 * 1638400000
squared h = mul-le-mul h h

-- the interval that halving starts with: 512 lies between the squares of 22 and 23
pub start : (x : ℕ) → Between (λ q. 512 * (q * q) ≤ x * x) (x / 23) (x / 22 + 1)
start x =
    let below : 23 * (x / 23) ≤ x = omega arith in
    record {
      low = omega (arith, mul-le-mul below below);
      high = λ (k : ℕ) h. lt_of_not-le (λ (le : x / 22 + 1 ≤ k).
          let above : x + 1 ≤ 22 * k = omega arith in
          omega (arith, mul-le-mul above above));
    }

-- what comes back is its two numbers
pub same_answer : {r r' : Sharpness} → r.number ≡ r'.number → r.length.0 ≡ r'.length.0 → r ≡ r'
same_answer {r} {r'} number length = ap (λ (n : ℕ). sharpness n r.length.0) number ∙ ap (sharpness r'.number) length

-- the length is rounded down: q picometres are at most the sharpness, and q + 1 are not
pub rounded_down : (s : Sixteenths) (p : Picometres) (r : Sharpness) → Done s p r → NotLonger s p r.length.0 × (¬ NotLonger s p (r.length.0 + 1))
rounded_down s p r done = (done.length.holds, next_has_not done.length)
