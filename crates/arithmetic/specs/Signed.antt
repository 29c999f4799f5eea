-- Signed numbers beside natural ones.
use Rattle.std.specs.Prelude.{ℕ, ℤ, pos, negsuc, ◌*ℤ◌}

-- a signed number as a natural one, 0 where it is negative
abbrev pub nat_of : ℤ → ℕ
nat_of (pos n) = n
nat_of (negsuc n) = 0

-- z²
abbrev pub square : ℤ → ℤ
square z = z *ℤ z
