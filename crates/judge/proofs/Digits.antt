-- Numbers of ten digits of 16 bits: what they have room for, and that a product which has room leaves no carry. Assumes nothing.
use mathlib.Core.Path.{◌≡◌}
use Prim.Native.Nat.{ℕ, zero, suc, ◌+◌, ◌*◌, ◌^◌, ◌<◌, ◌≤◌}
use native.Mathlib.Nat.{mul-le-mul, lt_of_lt_of_le, lt_of_le_of_lt, suc-mul}
use native.Mathlib.Omega.{arith}
use lib.Dec.{lit≤}

-- ten digits have room for a number of 64 bits
pub word_room : {n : ℕ} → n < 2 ^ 64 → n < 65536 ^ 10
word_room h = lt_of_lt_of_le h (lit≤ tt)

-- they have room for a product where they have for that of the bounds
pub product_room : {v k a b : ℕ} → v ≤ a → k ≤ b → a * b < 65536 ^ 10 → v * k < 65536 ^ 10
product_room h g room = lt_of_le_of_lt (mul-le-mul h g) room

-- nothing is carried past the last of n digits, where a product has room: `out` is what they stand for then
pub multiplied_all : (a k c out carry n : ℕ) → a * k + c < 65536 ^ n → out + carry * 65536 ^ n ≡ a * k + c → out ≡ a * k + c
multiplied_all a k c out zero n room all = omega (arith, all)
multiplied_all a k c out (suc carry) n room all = omega (arith, all, suc-mul carry (65536 ^ n))
