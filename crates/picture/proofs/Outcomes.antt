-- The number of a shape is determined. Assumes nothing.
use mathlib.Core.Path.{◌≡◌}
use Prim.Native.Nat.{ℕ}
use Rattle.answers.proofs.Refusals.{alike, together}
use Rattle.picture.specs.Picture.{Shaped}

-- the shape decides one number
pub one_shape : (levels w h r r' : ℕ) → Shaped levels w h (λ n. r ≡ n) (r ≡ 0) → Shaped levels w h (λ n. r' ≡ n) (r' ≡ 0) → r ≡ r'
one_shape levels w h r r' = together alike (together alike alike)
