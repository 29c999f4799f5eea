-- What the functions inside the crate ask of what they are given, and what their loops have gathered. No promise cites this.
use Rattle.std.specs.Prelude.{◌≡◌, List, ℕ, ◌+◌, ◌-◌, ◌*◌, ◌/◌, ◌%◌, ◌≤◌, length, get_or, take, drop}
use Rattle.std.specs.Int.{abs_diff}
use Rattle.answers.specs.declared.Refusal.{Refusal}
use Rattle.arithmetic.specs.Lists.{AtMost, joined}
use Rattle.arithmetic.specs.Sums.{sum}
use Rattle.picture.specs.Picture.{Side}
use Rattle.judge.specs.declared.Unmeasured.{Unmeasured}
use Rattle.judge.specs.Measure.{MeasurableSide}

-- a filtered picture that can be cut into tiles, and has pixels that count
pub record Tiled (w h : ℕ) (filtered : List ℕ) : Type 0 where
  pub sides : Side w × Side h
  pub measurable : MeasurableSide w × MeasurableSide h
  pub whole : length filtered ≡ w * h
  pub small : AtMost 2_040 filtered

-- the part of a filtered picture, w to a row, that starts at place `start` and has `rows` rows of `columns`, row by row
unfoldable pub part : ℕ → ℕ → ℕ → ℕ → List ℕ → List ℕ
part w columns rows start filtered = joined rows (λ j. take columns (drop (start + j * w) filtered))

-- such a part has pixels, and lies in the picture
pub record Part (w columns rows start : ℕ) (filtered : List ℕ) : Type 0 where
  pub some_columns : 1 ≤ columns
  pub some_rows : 1 ≤ rows
  pub row_long : w ≤ 1_024
  pub inside : start + (rows - 1) * w + columns ≤ length filtered
  pub long : length filtered ≤ 1_048_576

-- at most 1,024 levels, and the same number of filtered values, each at most 2,040
pub record SamePixels (levels filtered : List ℕ) : Type 0 where
  pub same : length levels ≡ length filtered
  pub long : length filtered ≤ 1_024
  pub small : AtMost 2_040 filtered

-- what stands at pixel k: 8 times the level, and the filtered eighths
abbrev pub light : List ℕ → ℕ → ℕ
light levels k = 8 * get_or levels k 0

abbrev pub flat : List ℕ → ℕ → ℕ
flat filtered k = get_or filtered k 0

-- where the k-th of the pixels that count stands: past three rows and three columns, they are rows of w − 6
abbrev pub inner_place : ℕ → ℕ → ℕ
inner_place w k = (k / (w - 6) + 3) * w + (k % (w - 6) + 3)

-- d² at the k-th of some pixels, of which l k is 8 times the level and f k the filtered eighths
abbrev pub squared_at : (ℕ → ℕ) → (ℕ → ℕ) → ℕ → ℕ
squared_at l f k = abs_diff (l k) (f k) * abs_diff (l k) (f k)

-- the three sums over n such pixels: of d², and of the two terms whose difference d is
pub record Sums (l f : ℕ → ℕ) (n squares lights flats : ℕ) : Type 0 where
  pub squares_is : squares ≡ sum n (squared_at l f)
  pub lights_is : lights ≡ sum n l
  pub flats_is : flats ≡ sum n f
  pub squares_most : squares ≤ n * 4_161_600
  pub lights_most : lights ≤ n * 2_040
  pub flats_most : flats ≤ n * 2_040

-- a refusal by which no ratio is found
abbrev pub Unrated : Refusal → Unmeasured → Type 0
Unrated why u = u ≡ record { why = why; ratio = 0 }
