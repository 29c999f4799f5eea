-- Document 01, "Cubic samples", and number 13 of its table.
use Rattle.std.specs.Prelude.{◌≡◌, List, ℕ, zero, suc, ◌+◌, ◌-◌, ◌*◌, length, get_or, ℤ, pos, neg_ℤ, ◌+ℤ◌, ◌-ℤ◌, ◌*ℤ◌, ◌≤ℤ◌}
use Rattle.std.specs.Prelude.{Result, Ok, Err}
use Rattle.std.specs.Int.Signed.{shr_z}
use Rattle.answers.specs.Refusals.{Unless}
use Rattle.answers.specs.Numbers.{number_of}
use Rattle.answers.specs.declared.Refusal.{Refusal}
use Rattle.arithmetic.specs.Signed.{nat_of}
use Rattle.arithmetic.specs.Sums.{sumℤ}
use Rattle.picture.specs.Picture.{Shaped}
use Rattle.units.specs.declared.Sixteenths.{Sixteenths}

-- "For remainder k the weights on pixels i−1, i, i+1, i+2, in 1/8,192, are −256k+32k²−k³; 8,192−80k²+3k³; 256k+64k²−3k³;
-- −16k²+k³": the weight on pixel i−1+t, for t from 0 to 3 (past 3, which nothing asks for, the fourth again).
unfoldable pub weight : ℕ → ℕ → ℤ
weight k zero = neg_ℤ (pos (256 * k)) +ℤ pos (32 * (k * k)) -ℤ pos (k * k * k)
weight k (suc zero) = pos 8_192 -ℤ pos (80 * (k * k)) +ℤ pos (3 * (k * k * k))
weight k (suc (suc zero)) = pos (256 * k) +ℤ pos (64 * (k * k)) -ℤ pos (3 * (k * k * k))
weight k (suc (suc (suc t))) = neg_ℤ (pos (16 * (k * k))) +ℤ pos (k * k * k)

-- "A sample is the sum over 4×4 original levels of row weight times column weight, a signed number of 1/67,108,864 levels":
-- over rows j−1 to j+2 and columns i−1 to i+2, where `across` is the remainder of the column and `down` that of the row.
unfoldable pub sample_of : List ℕ → ℕ → ℕ → ℕ → ℕ → ℕ → ℤ
sample_of levels w i j across down =
    sumℤ 4 (λ r. sumℤ 4 (λ t. weight down r *ℤ weight across t *ℤ pos (get_or levels ((j - 1 + r) * w + (i - 1 + t)) 0)))

-- "A place is x, y in sixteenths of a pixel: column i, row j and remainders k": x is 16·i + k, with k from 0 to 15. So i is
-- x/16, rounded down (the library's `shr_z x 16`), which is negative left of the picture, and k is x − 16·i.
abbrev pub pixel : Sixteenths → ℤ
pixel x = shr_z x.0 16

abbrev pub remainder : Sixteenths → ℕ
remainder x = nat_of (x.0 -ℤ pos 16 *ℤ pixel x)

-- "It needs 1 ≤ i ≤ w−3 and 1 ≤ j ≤ h−3", in signed numbers, since w−3 may be negative
abbrev pub Inside : ℕ → ℤ → Type 0
Inside side i = (pos 1 ≤ℤ i) × (i ≤ℤ (pos side -ℤ pos 3))

-- the sample at a place that is inside
abbrev pub sample_at : List ℕ → ℕ → Sixteenths → Sixteenths → ℤ
sample_at levels w x y = sample_of levels w (nat_of (pixel x)) (nat_of (pixel y)) (remainder x) (remainder y)

-- what comes back: the table's number, and the sample in 1/67,108,864 levels
pub record Sampled : Type 0 where
  pub number : ℕ
  pub value : ℤ

-- by its two numbers
abbrev pub sampled : ℕ → ℤ → Sampled
sampled n v = record { number = n; value = v }

-- a refusal: the number, and "All other returned numbers are 0"
abbrev pub refused : ℕ → Sampled
refused n = sampled n (pos 0)

-- "a definition that gives this paper's number and values for each of the enum's cases"
abbrev pub sampled_of : Result ℤ Refusal → Sampled
sampled_of (Ok v) = sampled 0 v
sampled_of (Err r) = refused (number_of r)

-- "Sampling tests 1, 2, then 13": "sample place outside its bounds"
abbrev pub SampleIs : List ℕ → ℕ → ℕ → Sixteenths → Sixteenths → Sampled → Type 0
SampleIs levels w h x y r =
    Shaped (length levels) w h (λ n. r ≡ refused n)
    (Unless (Inside w (pixel x) × Inside h (pixel y)) (r ≡ refused 13)
    (r ≡ sampled 0 (sample_at levels w x y)))
