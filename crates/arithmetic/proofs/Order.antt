-- Laws of order: of two numbers one is at most the other, of squares, where rows end, and the order of ℤ beside that of ℕ. Assumes nothing.
use mathlib.Core.Path.{◌≡◌, refl}
use mathlib.Core.Logic.{◌⊎◌, inl, inr}
use Prim.Native.Nat.{ℕ, ◌+◌, ◌*◌, ◌<◌, ◌≤◌, zero-le}
use native.Mathlib.Nat.{lt_of_not-le, lt_irrefl, mul-le-mul, mul-le-mul_right, suc-mul, mul_comm}
use native.Mathlib.Omega.{arith}
use native.Mathlib.Decide.{dec_le}
use lib.Dec.{leb→le, le→leb}
use lib.IntN.{ℤ, pos, negsuc}
use lib.Signed.{◌≤ℤ◌}
use Rattle.arithmetic.specs.Signed.{nat_of}

pub le_or_lt : (m n : ℕ) → (m ≤ n) ⊎ (n < m)
le_or_lt m n = go (dec_le m n)
  where
    go : Dec (m ≤ n) → (m ≤ n) ⊎ (n < m)
    go (yes h) = inl h
    go (no h) = inr (lt_of_not-le h)

-- where squares are in order, their roots are
pub of_squares : {a b : ℕ} → a * a ≤ b * b → a ≤ b
of_squares {a} {b} h =
    let less : a < b + 1 = lt_of_not-le (λ (le : b + 1 ≤ a). omega (arith, mul-le-mul le le, h)) in
    omega arith

-- the order of natural numbers is the same in ℤ
pub to_ℤ : {m n : ℕ} → m ≤ n → pos m ≤ℤ pos n
to_ℤ {m} {n} h = record { le = le→leb m n h }

pub of_ℤ : {m n : ℕ} → pos m ≤ℤ pos n → m ≤ n
of_ℤ {m} {n} h = leb→le m n h.le

-- the bounds of a signed number are those of the natural one that stands for it
pub low_natural : (z : ℤ) {k : ℕ} → pos k ≤ℤ z → k ≤ nat_of z
low_natural (pos n) h = of_ℤ h
low_natural (negsuc n) h = absurd h.le

pub high_natural : (z : ℤ) {k : ℕ} → z ≤ℤ pos k → nat_of z ≤ k
high_natural (pos n) h = of_ℤ h
high_natural (negsuc n) h = zero-le

-- a natural number above 0 stands for no other signed number
pub positive : (z : ℤ) → 0 < nat_of z → z ≡ pos (nat_of z)
positive (pos n) h = refl
positive (negsuc n) h = absurd (lt_irrefl 0 h)

-- of h rows of w, row j ends within them all
pub row_end : (w h j : ℕ) → j < h → j * w + w ≤ w * h
row_end w h j p = omega (arith, mul-le-mul_right w p, suc-mul j w, mul_comm w h)
