-- Parts of a picture, row after row, and its sixteen tiles. Assumes nothing.
use mathlib.Core.Path.{◌≡◌, refl, sym, ap, ◌∙◌}
use mathlib.Core.List.{List, foldl, foldl-append}
use Prim.Native.Nat.{ℕ, zero, suc, ◌+◌, ◌-◌, ◌*◌, ◌/◌, ◌%◌, ◌≤◌, ◌<◌, min, max}
use native.Mathlib.Nat.{mul-le-mul_right, add-mul}
use native.Mathlib.Numerals.{add-one}
use native.Mathlib.Omega.{arith}
use lib.ListN.{length, take, drop, length-take, length-drop, length-append}
use Rattle.arithmetic.specs.Lists.{AtMost, joined}
use Rattle.arithmetic.specs.Sums.{sum}
use Rattle.arithmetic.proofs.Lists.{most_take, most_drop, most_joined, joined_same}
use Rattle.arithmetic.proofs.Sums.{sum_none, sum_more, sum_most, sum_same, sum_by_rows}
use Rattle.picture.proofs.Shapes.{pixels}
use Rattle.judge.specs.Extremes.{maximum, minimum, tile, over_tiles}
use Rattle.judge.specs.Asked.{Part, part, Tiled}
use Rattle.judge.proofs.Maxima.{put_to_max, put_to_min, maximum_is, minimum_is}

-- a part's values are at most what the picture's are
pub part_most : (b w columns rows start : ℕ) (filtered : List ℕ) → AtMost b filtered → AtMost b (part w columns rows start filtered)
unfolding part
part_most b w columns rows start filtered p = most_joined b rows _ (λ j. most_take b columns _ (most_drop b (start + j * w) filtered p))

-- a part has a pixel
pub part_some : (w columns rows start : ℕ) (filtered : List ℕ) → Part w columns rows start filtered → 0 < length (part w columns rows start filtered)
unfolding part joined
part_some w columns zero start filtered p = absurd (let some = p.some_rows in let no : ⊥ = omega arith in no)
part_some w columns (suc n) start filtered p =
    let e : suc n - 1 ≡ n = omega arith in
    let inside = rw e at p.inside in
    let some = p.some_columns in
    simp (length-append, length-take, length-drop) (omega arith)

-- row j of a part lies in the picture
pub row_inside : (w columns rows start at j : ℕ) (filtered : List ℕ) → Part w columns rows start filtered
    → at ≡ start + j * w → j < rows → at + columns ≤ length filtered
row_inside w columns rows start at j filtered p e h =
    let l : j ≤ rows - 1 = omega arith in
    omega (arith, mul-le-mul_right w l, p.inside)

-- part a of four side by side lies in the picture, where their rows do
pub part_inside : (w columns rows start at a : ℕ) (filtered : List ℕ) → 1 ≤ columns → 1 ≤ rows → w ≡ 4 * columns → w ≤ 1024
    → start + rows * w ≤ length filtered → length filtered ≤ 1048576 → at ≡ start + a * columns → a < 4 → Part w columns rows at filtered
part_inside w columns rows start at a filtered some_columns some_rows four row_long within long e h =
    let before : a * columns ≤ 3 * columns = mul-le-mul_right columns (omega arith) in
    let one : rows ≡ rows - 1 + 1 = omega arith in
    let last : rows * w ≡ (rows - 1) * w + w = ap (λ (k : ℕ). k * w) one ∙ omega (arith, add-mul (rows - 1) 1 w) in
    record {
      some_columns = some_columns;
      some_rows = some_rows;
      row_long = row_long;
      inside = omega (arith, before, last, within, four);
      long = long;
    }

-- what the loop over a part's rows knows after j of them
pub record Rows (w columns start : ℕ) (filtered : List ℕ) (most least j : ℕ) : Type 0 where
  pub most_is : most ≡ foldl max 0 (part w columns j start filtered)
  pub least_is : least ≡ foldl min 65535 (part w columns j start filtered)
  pub least_most : least ≤ 65535

module _ (w columns start : ℕ) (filtered : List ℕ) where
  pub rows_none : Rows w columns start filtered 0 65535 0
  unfolding part joined
  rows_none = record { most_is = refl; least_is = refl; least_most = omega arith }

  -- one row more, as the code takes it, with the row's own extremes
  pub rows_more : (most least j at most' least' : ℕ) → Rows w columns start filtered most least j → at ≡ start + j * w
      → most' ≡ max most (foldl max 0 (take (at + columns - at) (drop at filtered))) → least' ≡ min least (foldl min 65535 (take (at + columns - at) (drop at filtered)))
      → Rows w columns start filtered most' least' (j + 1)
  unfolding part joined
  rows_more most least j at most' least' s place b d =
      let long : at + columns - at ≡ columns = omega arith in
      let row : ℕ → List ℕ = λ (k : ℕ). take columns (drop (start + k * w) filtered) in
      let here : take (at + columns - at) (drop at filtered) ≡ row j = rw (long, place) in
      record {
        most_is = rw (add-one, b, put_to_max most (take (at + columns - at) (drop at filtered)), here, s.most_is) (sym (foldl-append max 0 (joined j row) (row j)));
        least_is = rw (add-one, d, put_to_min 65535 least (take (at + columns - at) (drop at filtered)) s.least_most, here, s.least_is) (sym (foldl-append min 65535 (joined j row) (row j)));
        least_most = omega (arith, d, s.least_most);
      }

  -- all rows
  pub rows_all : (rows most least j : ℕ) → Part w columns rows start filtered → AtMost 65535 filtered → j ≡ rows → Rows w columns start filtered most least j
      → (most ≡ maximum (part w columns rows start filtered)) × (least ≡ minimum (part w columns rows start filtered))
  rows_all rows most least j p small e s =
      let whole = part w columns rows start filtered in
      let b : most ≡ foldl max 0 whole = rw e at s.most_is in
      let d : least ≡ foldl min 65535 whole = rw e at s.least_is in
      (b ∙ maximum_is whole, d ∙ minimum_is 65535 whole (part_some w columns rows start filtered p) (part_most 65535 w columns rows start filtered small))

-- a tile is a part
tile_is : (w h b a : ℕ) (filtered : List ℕ) → part w (w / 4) (h / 4) (b * (h / 4) * w + a * (w / 4)) filtered ≡ tile w h filtered b a
unfolding part tile
tile_is w h b a filtered = joined_same (h / 4) _ _ (λ j. ap (λ (k : ℕ). take (w / 4) (drop k filtered)) (start j))
  where
    start : (j : ℕ) → b * (h / 4) * w + a * (w / 4) + j * w ≡ (b * (h / 4) + j) * w + a * (w / 4)
    start j = omega (arith, add-mul (b * (h / 4)) j w)

-- the loop over the picture's sixteen tiles
module _ (w h : ℕ) (filtered : List ℕ) where
  -- what f makes of tile k: they are counted row by row, four to a row
  abbrev of_tile : (List ℕ → ℕ) → ℕ → ℕ
  of_tile f k = f (tile w h filtered (k / 4) (k % 4))

  -- what the loop knows after n tiles
  pub record Tiles (bright dark n : ℕ) : Type 0 where
    pub bright_is : bright ≡ sum n (of_tile maximum)
    pub dark_is : dark ≡ sum n (of_tile minimum)
    pub bright_most : bright ≤ n * 65535
    pub dark_most : dark ≤ n * 65535

  pub tiles_none : Tiles 0 0 0
  tiles_none =
      record { bright_is = sym (sum_none (of_tile maximum)); dark_is = sym (sum_none (of_tile minimum)); bright_most = omega arith; dark_most = omega arith }

  -- one tile more
  pub tiles_more : (bright dark n r s : ℕ) → Tiles bright dark n
      → (r ≡ maximum (part w (w / 4) (h / 4) (n / 4 * (h / 4) * w + n % 4 * (w / 4)) filtered)) × (s ≡ minimum (part w (w / 4) (h / 4) (n / 4 * (h / 4) * w + n % 4 * (w / 4)) filtered))
      → r ≤ 65535 → s ≤ 65535 → Tiles (bright + r) (dark + s) (n + 1)
  tiles_more bright dark n r s so_far ends hr hs =
      let is : part w (w / 4) (h / 4) (n / 4 * (h / 4) * w + n % 4 * (w / 4)) filtered ≡ tile w h filtered (n / 4) (n % 4) = tile_is w h (n / 4) (n % 4) filtered in
      record {
        bright_is = rw (sum_more n (of_tile maximum), ← so_far.bright_is, ends.0, is);
        dark_is = rw (sum_more n (of_tile minimum), ← so_far.dark_is, ends.1, is);
        bright_most = omega (arith, so_far.bright_most, hr);
        dark_most = omega (arith, so_far.dark_most, hs);
      }

  -- sixteen tiles are four rows of four
  by_rows : (f : List ℕ → ℕ) → sum 16 (of_tile f) ≡ over_tiles f w h filtered
  unfolding over_tiles
  by_rows f =
      sum_by_rows 4 4 (of_tile f)
      ∙ sum_same 4 _ _ (λ b l. sum_same 4 _ _ (λ a g. let row : (b * 4 + a) / 4 ≡ b = omega arith in let column : (b * 4 + a) % 4 ≡ a = omega arith in rw (row, column)))

  -- all sixteen
  pub tiles_all : (bright dark n : ℕ) → n ≡ 16 → Tiles bright dark n → (bright ≡ over_tiles maximum w h filtered) × (dark ≡ over_tiles minimum w h filtered)
  tiles_all bright dark n e s = (rw e at s.bright_is ∙ by_rows maximum, rw e at s.dark_is ∙ by_rows minimum)

  -- tile n lies in the picture
  pub tile_inside : (n : ℕ) → Tiled w h filtered → n < 16 → Part w (w / 4) (h / 4) (n / 4 * (h / 4) * w + n % 4 * (w / 4)) filtered
  tile_inside n t p =
      let fours = t.measurable in
      let sides = t.sides in
      let above : n / 4 * (h / 4) ≤ 3 * (h / 4) = mul-le-mul_right (h / 4) (omega arith) in
      let before : n % 4 * (w / 4) ≤ 3 * (w / 4) = mul-le-mul_right (w / 4) (omega arith) in
      let last : n / 4 * (h / 4) + (h / 4 - 1) + 1 ≤ h = omega arith in
      record {
        some_columns = omega arith;
        some_rows = omega arith;
        row_long = sides.0.1;
        inside = omega (arith, mul-le-mul_right w last, add-mul (n / 4 * (h / 4)) (h / 4 - 1) w, add-mul (n / 4 * (h / 4) + (h / 4 - 1)) 1 w, before, t.whole);
        long = rw t.whole (pixels w h sides);
      }

  -- the sums over sixteen tiles are at most sixteen times what every value is
  module _ (f : List ℕ → ℕ) (b : ℕ) (p : (l : List ℕ) → AtMost b l → f l ≤ b) (q : AtMost b filtered) where
    tile_most : (k a : ℕ) → f (tile w h filtered k a) ≤ b
    tile_most k a = p (tile w h filtered k a) (rw (tile_is w h k a filtered) at (part_most b w (w / 4) (h / 4) (k * (h / 4) * w + a * (w / 4)) filtered q))

    pub tiles_most : over_tiles f w h filtered ≤ 16 * b
    unfolding over_tiles
    tiles_most =
        let band : (k : ℕ) → sum 4 (λ a. f (tile w h filtered k a)) ≤ 4 * b = λ k. sum_most b 4 (λ a. f (tile w h filtered k a)) (tile_most k) in
        omega (arith, sum_most (4 * b) 4 (λ k. sum 4 (λ a. f (tile w h filtered k a))) band)
