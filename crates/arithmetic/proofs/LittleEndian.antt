-- Laws of numbers from their bytes: four of two pairs, and eight one place after the other. Assumes nothing.
use mathlib.Core.Path.{◌≡◌}
use mathlib.Core.List.{List, [], ◌∷◌}
use Prim.Native.Nat.{ℕ, ◌+◌, ◌*◌}
use native.Mathlib.Omega.{arith}
use Rattle.arithmetic.specs.Bytes.{byte, four_bytes, eight_bytes}

-- two pairs of bytes make the number that the four stand for
pub of_pairs : (b : List ℕ) (i low high all : ℕ) → low ≡ byte b i + byte b (i + 1) * 256 → high ≡ byte b (i + 2) + byte b (i + 3) * 256
    → all ≡ low + high * 65536 → all ≡ four_bytes b i
of_pairs b i low high all l h a = omega arith

-- eight bytes, copied one place after the other, make the same number
abbrev pub copied : List ℕ → ℕ → List ℕ
copied b i =
    byte b i ∷ byte b (i + 1) ∷ byte b (i + 2) ∷ byte b (i + 3) ∷
    byte b (i + 4) ∷ byte b (i + 5) ∷ byte b (i + 6) ∷ byte b (i + 7) ∷ []

pub eight_places : (b : List ℕ) (i : ℕ) → eight_bytes (copied b i) 0 ≡ eight_bytes b i
eight_places b i =
    let five : i + 4 + 1 ≡ i + 5 = omega arith in
    let six : i + 4 + 2 ≡ i + 6 = omega arith in
    let seven : i + 4 + 3 ≡ i + 7 = omega arith in
    rw (five, six, seven)
