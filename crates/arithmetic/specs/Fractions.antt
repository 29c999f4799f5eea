-- Fractions as pairs of whole numbers, which are never reduced (document 01: "T is an exact fraction: a pair of whole numbers, the
-- lower one at least 1, and two such pairs, or a pair and a level, are equal, less or greater by their cross products").
use Rattle.std.specs.Prelude.{◌≡◌, Bool, not, ◌||◌, ℕ, ◌*◌, ◌≤◌, eqb}
use Rattle.arithmetic.specs.declared.Fraction.{Fraction}

abbrev pub fraction : ℕ → ℕ → Fraction
fraction n d = record { numerator = n; denominator = d }

abbrev pub Proper : Fraction → Type 0
Proper T = 1 ≤ T.denominator

abbrev pub Equal : Fraction → Fraction → Type 0
Equal T U = T.numerator * U.denominator ≡ U.numerator * T.denominator

abbrev pub NotMore : Fraction → Fraction → Type 0
NotMore T U = T.numerator * U.denominator ≤ U.numerator * T.denominator

-- whether two pairs differ in one of their numbers
abbrev pub unlike : Fraction → Fraction → Bool
unlike T U = not (eqb T.numerator U.numerator) || not (eqb T.denominator U.denominator)
