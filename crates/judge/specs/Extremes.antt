-- Document 01, "Extremes and noise": the extremes of a filtered picture, tile by tile.
use mathlib.Core.List.{List, [], ◌∷◌, foldl}
use Rattle.std.specs.Prelude.{ℕ, ◌+◌, ◌*◌, ◌/◌, min, max, take, drop}
use Rattle.arithmetic.specs.Lists.{joined}
use Rattle.arithmetic.specs.Sums.{sum}
use Rattle.units.specs.Units.{eighths}
use Rattle.units.specs.declared.Eighths.{Eighths}

-- the maximum and the minimum of a list's elements (of no elements, which no tile has, both are 0)
unfoldable pub maximum : List ℕ → ℕ
maximum [] = 0
maximum (v ∷ l) = foldl max v l

unfoldable pub minimum : List ℕ → ℕ
minimum [] = 0
minimum (v ∷ l) = foldl min v l

-- "The filtered picture is cut into 4×4 tiles of w/4 by h/4 pixels": the tile in row b and column a of the tiles, row by row.
-- Its row j is the picture's row b·(h/4) + j, from column a·(w/4) on.
unfoldable pub tile : ℕ → ℕ → List ℕ → ℕ → ℕ → List ℕ
tile w h filtered b a = joined (h / 4) (λ j. take (w / 4) (drop ((b * (h / 4) + j) * w + a * (w / 4)) filtered))

-- the sum of what f makes of each of the sixteen tiles
unfoldable pub over_tiles : (List ℕ → ℕ) → ℕ → ℕ → List ℕ → ℕ
over_tiles f w h filtered = sum 4 (λ b. sum 4 (λ a. f (tile w h filtered b a)))

-- "M is the sum of the sixteen tile maxima, m that of the tile minima, both in eighths."
abbrev pub bright : ℕ → ℕ → List ℕ → Eighths
bright w h filtered = eighths (over_tiles maximum w h filtered)

abbrev pub dark : ℕ → ℕ → List ℕ → Eighths
dark w h filtered = eighths (over_tiles minimum w h filtered)
