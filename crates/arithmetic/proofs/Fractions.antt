-- Laws of fractions: their order, and that a pair is told from another by its two numbers. Assumes nothing.
use mathlib.Core.Path.{◌≡◌, refl, ap, sym, ◌∙◌}
use mathlib.Core.Bool.{true, false, true≢false}
use mathlib.Core.Logic.Dec
use mathlib.Core.Logic.{◌⊎◌, inl, inr, ⊎_elim}
use Prim.Native.Nat.{◌*◌}
use native.Mathlib.Nat.{mul-le-mul_right, le_of_mul-le-mul_right}
use native.Mathlib.Decide.{ℕ_discrete}
use native.Mathlib.Omega.{arith}
use borrow.Author.Tests.{eq-eqb, ne_eqb}
use Rattle.arithmetic.specs.declared.Fraction.{Fraction}
use Rattle.arithmetic.specs.Fractions.{fraction, Proper, NotMore, unlike}
use Rattle.arithmetic.proofs.Order.{le_or_lt}

-- what is not more than T is not more than whatever T is not more than
pub not_more_trans : (R T U : Fraction) → Proper T → NotMore R T → NotMore T U → NotMore R U
not_more_trans R T U proper p q =
    le_of_mul-le-mul_right {k = T.denominator}
    (omega (arith, mul-le-mul_right U.denominator p, mul-le-mul_right R.denominator q))
    proper

-- of two fractions one is not more than the other
pub either_way : (T U : Fraction) → NotMore T U ⊎ NotMore U T
either_way T U =
    ⊎_elim inl (λ less. inr (omega (arith, less)))
    (le_or_lt (T.numerator * U.denominator) (U.numerator * T.denominator))

-- whether two pairs are one
unfoldable pub one_pair_or_not : (T U : Fraction) → Dec (T ≡ U)
one_pair_or_not T U = elim (Dec.and (ℕ_discrete T.numerator U.numerator) (ℕ_discrete T.denominator U.denominator)) [
  | yes p ↦ yes (λ i. fraction (p.0 i) (p.1 i))
  | no f ↦ no (λ e. f (ap (λ (R : Fraction). R.numerator) e, ap (λ (R : Fraction). R.denominator) e))
]

-- pairs that differ in one of their numbers are two
pub they_differ : (T U : Fraction) → unlike T U ≡ true → ¬ (T ≡ U)
they_differ T U told e =
    true≢false
    (sym told ∙ rw (eq-eqb _ _ (ap (λ (R : Fraction). R.numerator) e), eq-eqb _ _ (ap (λ (R : Fraction). R.denominator) e)) refl)

-- and pairs that do not are one
pub they_agree : (T U : Fraction) → unlike T U ≡ false → T ≡ U
they_agree T U told = elim (ℕ_discrete T.numerator U.numerator) [
  | yes n ↦ elim (ℕ_discrete T.denominator U.denominator) [
    | yes d ↦ λ i. fraction (n i) (d i)
    | no apart ↦ absurd (true≢false (rw (eq-eqb _ _ n, ne_eqb _ _ apart) at told))
  ]
  | no apart ↦ absurd (true≢false (rw (ne_eqb _ _ apart) at told))
]
