-- Document 01, "Length", and number 14 of its table.
use Rattle.std.specs.Prelude.{◌≡◌, ℕ, ◌≤◌, pos, ◌*ℤ◌, ◌≤ℤ◌, Result, Ok, Err}
use Rattle.answers.specs.Refusals.{Unless}
use Rattle.answers.specs.Numbers.{number_of}
use Rattle.answers.specs.declared.Refusal.{Refusal}
use Rattle.arithmetic.specs.Greatest.{Greatest}
use Rattle.arithmetic.specs.Signed.{square}
use Rattle.units.specs.Units.{picometres}
use Rattle.units.specs.declared.Sixteenths.{Sixteenths}
use Rattle.units.specs.declared.Picometres.{Picometres}

-- "For sharpness factor s (sixteenths of a pixel, 1 to 16,384) and pixel size p (picometres, 1 to 100,000)"
pub record InRange (s : Sixteenths) (p : Picometres) : Type 0 where
  pub factor_low : pos 1 ≤ℤ s.0
  pub factor_high : s.0 ≤ℤ pos 16_384
  pub pixel_low : 1 ≤ p.0
  pub pixel_high : p.0 ≤ 100_000

-- "512·q² ≤ (p·s)²". The factor is s/16 pixels, so p·s/16 picometres; over the square root of 2, and squared, (p·s)²/512.
-- So this says that q picometres are at most the sharpness, with no root and nothing rounded.
abbrev pub NotLonger : Sixteenths → Picometres → ℕ → Type 0
NotLonger s p q = (pos 512 *ℤ square (pos q)) ≤ℤ square (pos p.0 *ℤ s.0)

-- what comes back: the table's number, and the length
pub record Sharpness : Type 0 where
  pub number : ℕ
  pub length : Picometres

-- "0 | done", and "the greatest whole q with 512·q² ≤ (p·s)²"
pub record Done (s : Sixteenths) (p : Picometres) (r : Sharpness) : Type 0 where
  pub number : r.number ≡ 0
  pub length : Greatest (NotLonger s p) r.length.0

-- by its two numbers
abbrev pub sharpness : ℕ → ℕ → Sharpness
sharpness n q = record { number = n; length = picometres q }

-- a refusal: the number, and "All other returned numbers are 0"
abbrev pub refused : ℕ → Sharpness
refused n = sharpness n 0

-- "a definition that gives this paper's number and values for each of the enum's cases"
abbrev pub sharpness_of : Result Picometres Refusal → Sharpness
sharpness_of (Ok q) = record { number = 0; length = q }
sharpness_of (Err r) = refused (number_of r)

-- "14 | s or p out of range"
abbrev pub LengthIs : Sixteenths → Picometres → Sharpness → Type 0
LengthIs s p r = Unless (InRange s p) (r ≡ refused 14) (Done s p r)
