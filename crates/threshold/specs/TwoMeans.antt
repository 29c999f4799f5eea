-- Document 01, "Two means", its second paragraph, and the numbers 10 to 12 of its table: the threshold that rests; and demand 3, whose
-- words stand in docs/DECISIONS.md. A histogram h is a list of counts of any length, from that of level 0 on; a threshold is a
-- fraction, compared by cross products (arithmetic/specs/Fractions.antt).
use Rattle.std.specs.Prelude.{◌≡◌, Bool, cond, List, [], ◌∷◌, ◌⊎◌, ℕ, zero, suc, ◌+◌, ◌-◌, ◌*◌, ◌<◌, ◌≤◌, leb, ltb, eqb, length}
use Rattle.std.specs.Prelude.{Result, Ok, Err}
use Rattle.arithmetic.specs.declared.Fraction.{Fraction}
use Rattle.answers.specs.Refusals.{Unless}
use Rattle.answers.specs.Numbers.{number_of}
use Rattle.answers.specs.declared.Refusal.{Refusal}
use Rattle.arithmetic.specs.Greatest.{Least}
use Rattle.arithmetic.specs.Sums.{sum_over}
use Rattle.arithmetic.specs.Fractions.{fraction, Proper, Equal, NotMore}
use Rattle.threshold.specs.declared.Resting.{Resting}
use Rattle.threshold.specs.Histogram.{count_of, total}

-- a level as a threshold: "a pair and a level, are equal, less or greater by their cross products"
abbrev pub level : ℕ → Fraction
level v = fraction v 1

-- "Lowest and highest levels present are g and G.": the first that is counted, and the first behind which nothing is
abbrev pub lowest : List ℕ → ℕ
lowest [] = 0
lowest (c ∷ cs) = cond (eqb c 0) (suc (lowest cs)) 0

abbrev pub highest : List ℕ → ℕ
highest [] = 0
highest (c ∷ cs) = cond (eqb (total cs) 0) 0 (suc (highest cs))

-- "The start is 128, or g if 128 < g, or G if 128 > G", with m for 128
abbrev pub nearest : ℕ → ℕ → ℕ → ℕ
nearest m g G = cond (ltb m g) g (cond (ltb G m) G m)

unfoldable pub start : ℕ → List ℕ → Fraction
start m h = level (nearest m (lowest h) (highest h))

-- whether a level v is one of "all levels ≤ T"; of "all levels ≥ T": "a level equal to T is in both"
abbrev pub low : Fraction → ℕ → Bool
low T v = leb (v * T.denominator) T.numerator

abbrev pub high : Fraction → ℕ → Bool
high T v = leb T.numerator (v * T.denominator)

-- what a level adds to the sum of the levels: itself, as often as it was counted
abbrev pub level_sum : List ℕ → ℕ → ℕ
level_sum h v = v * count_of h v

-- "the mean" of the levels that are picked: "the sum and number of levels" as a fraction
abbrev pub mean : List ℕ → (ℕ → Bool) → Fraction
mean h picked = fraction (sum_over (length h) picked (level_sum h)) (sum_over (length h) picked (count_of h))

-- "half the sum" of A/B and C/E: "numerator A·E + C·B, denominator 2·B·E, not reduced"
abbrev pub half_sum : Fraction → Fraction → Fraction
half_sum L H = fraction (L.numerator * H.denominator + H.numerator * L.denominator) (2 * L.denominator * H.denominator)

-- "One round replaces T by half the sum of the mean of all levels ≤ T and the mean of all levels ≥ T"
unfoldable pub round : List ℕ → Fraction → Fraction
round h T = half_sum (mean h (low T)) (mean h (high T))

-- "T is an exact fraction", "T lies from g to G"
pub record Within (h : List ℕ) (T : Fraction) : Type 0 where
  pub proper : Proper T
  pub from_lowest : NotMore (level (lowest h)) T
  pub to_highest : NotMore T (level (highest h))

-- "Rest means that T lies from g to G and a round gives T back"
pub record Rests (h : List ℕ) (T : Fraction) : Type 0 where
  pub within : Within h T
  pub still : Equal (round h T) T

-- "the k-th threshold"
unfoldable pub threshold : ℕ → List ℕ → ℕ → Fraction
threshold m h zero = start m h
threshold m h (suc k) = round h (threshold m h k)

-- R lies between S and T, whichever is larger, both ends counted
abbrev pub LiesBetween : Fraction → Fraction → Fraction → Type 0
LiesBetween S T R = (NotMore S R × NotMore R T) ⊎ (NotMore T R × NotMore R S)

-- Demand 3, of the rounds k and the answer T for the histogram h, from the start m:
pub record Settled (m : ℕ) (h : List ℕ) (k : ℕ) (T : Fraction) : Type 0 where
  -- "The rounds are the least k for which the k-th threshold is at rest."
  pub first : Least (λ j. Rests h (threshold m h j)) k
  -- "With A, B the sum and number of levels ≤ the resting T, and C, E those ≥ T, the answer is numerator A·E + C·B, denominator 2·B·E"
  pub answer : T ≡ round h (threshold m h k)
  -- it "rests after at most 511 rounds" where there are 256 levels: twice as many, less 1
  pub in_time : k ≤ 2 * length h - 1
  -- "it is exactly the midpoint of the two means": it rests, and a round from it is it, and not only a pair that equals it
  pub rests : Rests h T
  pub midpoint : round h T ≡ T
  -- "no other resting threshold, whole or fractional, lies between start and answer, both ends counted"
  pub no_other : (R : Fraction) → Rests h R → LiesBetween (start m h) T R → Equal R T
  -- "the rounds reported are the first at which the sequence stands still": before it, each round moves it
  pub moved : (j : ℕ) → j < k → ¬ Equal (threshold m h (suc j)) (threshold m h j)

-- what comes back: the table's number, the rounds until the threshold rests, and that threshold
pub record Threshold : Type 0 where
  pub number : ℕ
  pub rounds : ℕ
  pub value : Fraction

-- by its number, rounds and fraction, and a refusal: "All other returned numbers are 0"
abbrev pub answered : ℕ → ℕ → Fraction → Threshold
answered n k T = record { number = n; rounds = k; value = T }

abbrev pub refused : ℕ → Threshold
refused n = answered n 0 (fraction 0 0)

-- "a definition that gives this paper's number and values for each of the enum's cases"
abbrev pub threshold_of : Result Resting Refusal → Threshold
threshold_of (Ok r) = answered 0 r.rounds r.value
threshold_of (Err r) = refused (number_of r)

-- "0 | done"
pub record Done (m : ℕ) (h : List ℕ) (r : Threshold) : Type 0 where
  pub number : r.number ≡ 0
  pub settled : Settled m h r.rounds r.value

-- "histogram not 256 long", "threshold asked of an empty histogram", "threshold asked of a total above 1,048,576"
abbrev pub TwoMeansIs : List ℕ → Threshold → Type 0
TwoMeansIs h r =
    Unless (length h ≡ 256) (r ≡ refused 10)
    (Unless (¬ (total h ≡ 0)) (r ≡ refused 11)
    (Unless (total h ≤ 1_048_576) (r ≡ refused 12)
    (Done 128 h r)))
