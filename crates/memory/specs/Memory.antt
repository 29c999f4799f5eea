-- Document 02, P1: the memory of a scan, which the caller lends, as a list of numbers: width, height, how many rows came, and six rows
-- of `width` numbers: two of the levels, two of pass one and two of pass two.
use Rattle.std.specs.Prelude.{◌≡◌, List, ◌∷◌, ◌++◌, ℕ, ◌+◌, ◌*◌, ◌≤◌, length, get_or, take, drop, replicate}
use Rattle.std.proofs.Math.Seq.{slice}
use Rattle.arithmetic.specs.Lists.{AtMost}
use Rattle.answers.specs.Refusals.{Unless}
use Rattle.picture.specs.Picture.{Side}

-- ---- what stands where
abbrev pub width_of : List ℕ → ℕ
width_of held = get_or held 0 0

abbrev pub height_of : List ℕ → ℕ
height_of held = get_or held 1 0

-- how many rows came; once the end was given, three more than the height
abbrev pub came_of : List ℕ → ℕ
came_of held = get_or held 2 0

-- where the six rows lie, one behind the other: there is room for 1,024 numbers to a row
unfoldable pub rows_of : List ℕ → List ℕ
rows_of held = take 6_144 (drop 3 held)

unfoldable pub memory : ℕ → ℕ → ℕ → List ℕ → List ℕ → List ℕ
memory w h came rows past = w ∷ h ∷ came ∷ rows ++ past

unfoldable pub zeros : ℕ → List ℕ
zeros n = replicate n 0

-- row i of a list of rows of w; past the end there is none
unfoldable pub row_at : ℕ → List ℕ → ℕ → List ℕ
row_at w l i = slice (i * w) (i * w + w) l

-- two of the six rows: those of the levels, of pass one or of pass two, where pass is 0, 1 or 2
unfoldable pub two_of : ℕ → List ℕ → ℕ → List ℕ
two_of w rows pass = row_at (w + w) rows pass

-- ---- whether a good start has begun it
-- levels are at most 255, and "the first pass is held in halves, the second in quarters" (document 01)
pub record Ranges (w : ℕ) (rows : List ℕ) : Type 0 where
  pub levels : AtMost 255 (two_of w rows 0)
  pub halves : AtMost 510 (two_of w rows 1)
  pub quarters : AtMost 1_020 (two_of w rows 2)

-- long enough, with the sides of a picture and rows in range. Any other, all zeros or too short, is as "before a good start".
pub record Begun (held : List ℕ) : Type 0 where
  pub long : 6_147 ≤ length held
  pub width : Side (width_of held)
  pub height : Side (height_of held)
  pub ranges : Ranges (width_of held) (rows_of held)

-- ---- a start
-- "A good start drops what is held and begins anew." "Refusals: 1", for sides that no picture has, and for memory that is too short:
-- the number, and what is left
abbrev pub StartIs : List ℕ → ℕ → ℕ → ℕ → List ℕ → Type 0
StartIs held w h number left =
    Unless ((6_147 ≤ length held) × Side w × Side h) ((number ≡ 1) × (left ≡ held))
    ((number ≡ 0) × (left ≡ memory w h 0 (zeros 6_144) (drop 6_147 held)))
