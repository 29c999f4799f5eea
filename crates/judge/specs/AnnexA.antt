-- When a picture is discarded, in document 01's averages, contrast and deviation (001, Annex A; "10 or more" is 001's 4.7, 6.1 b
-- and 6.2). No promise cites this: it is what the lecturer reads beside Judge.antt, and proofs/Discarding.antt shows that the two
-- say the same. Fractions are compared by cross products, and nothing is rounded.
use Rattle.std.specs.Prelude.{◌≡◌, ◌⊎◌, ℕ, ◌+◌, ◌-◌, ◌*◌, ◌≤◌}
use Rattle.arithmetic.specs.declared.Fraction.{Fraction}
use Rattle.arithmetic.specs.Fractions.{fraction, NotMore}
use Rattle.units.specs.declared.Eighths.{Eighths}

abbrev pub plus : Fraction → Fraction → Fraction
plus a b = fraction (a.numerator * b.denominator + b.numerator * a.denominator) (a.denominator * b.denominator)

abbrev pub times : Fraction → Fraction → Fraction
times a b = fraction (a.numerator * b.numerator) (a.denominator * b.denominator)

abbrev pub squared : Fraction → Fraction
squared a = times a a

-- "So an average level a means a sum of 128·a."
abbrev pub average : Eighths → Fraction
average s = fraction s.0 128

-- "the averages must satisfy 170 ≤ bright ≤ 245 and 10 ≤ dark ≤ 80"
abbrev pub AverageInRange : ℕ → ℕ → Eighths → Type 0
AverageInRange low high s = NotMore (fraction low 1) (average s) × NotMore (average s) (fraction high 1)

-- "(bright − dark)": the average of the maxima less that of the minima (where both are in range the first is the greater)
abbrev pub span : Eighths → Eighths → Fraction
span M m = fraction (M.0 - m.0) 128

-- "The noise deviation squared is D/(64·N²)."
abbrev pub deviation_squared : ℕ → ℕ → Fraction
deviation_squared N D = fraction D (64 * (N * N))

-- "Image contrast is (bright − dark) less 1.38 deviations; the ratio is contrast over deviation": that this ratio is r or more says
-- bright − dark − 1.38·s ≥ r·s for the deviation s, so that (r + 1.38)·s ≤ bright − dark; and here both sides are squared, since s
-- is a root.
abbrev pub RatioFrom : ℕ → Eighths → Eighths → ℕ → Fraction → Type 0
RatioFrom N M m D r = NotMore (times (squared (plus r (fraction 138 100))) (deviation_squared N D)) (squared (span M m))

-- "must be 10 or more"
abbrev pub RatioTen : ℕ → Eighths → Eighths → ℕ → Type 0
RatioTen N M m D = RatioFrom N M m D (fraction 10 1)

-- a stated range is left, the noise is nil or the ratio is below 10
abbrev pub Unfit : ℕ → Eighths → Eighths → ℕ → Type 0
Unfit N M m D = (¬ AverageInRange 170 245 M) ⊎ ((¬ AverageInRange 10 80 m) ⊎ ((D ≡ 0) ⊎ (¬ RatioTen N M m D)))

-- the number says that the picture is discarded
abbrev pub Discarded : ℕ → Type 0
Discarded n = (6 ≤ n) × (n ≤ 9)

-- each of two things follows from the other
abbrev pub Exactly : Type 0 → Type 0 → Type 0
Exactly A B = (A → B) × (B → A)
