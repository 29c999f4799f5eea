-- The loop over the rows of the pixels that count: where each row lies, and the sums that it adds. Assumes nothing.
use mathlib.Core.Path.{◌≡◌, ap, ◌∙◌}
use mathlib.Core.List.{List}
use Prim.Native.Nat.{ℕ, ◌+◌, ◌-◌, ◌*◌, ◌<◌, ◌≤◌}
use native.Mathlib.Nat.{zero-mul, one-mul, add-mul, mul_comm, mul-le-mul_right}
use native.Mathlib.Omega.{arith}
use lib.ListN.{length, get_or, take, drop, length-take, length-drop}
use Rattle.arithmetic.proofs.Order.{row_end}
use Rattle.arithmetic.proofs.Lists.{part_at, most_take, most_drop}
use Rattle.picture.proofs.Shapes.{pixels}
use Rattle.judge.specs.Noise.{inner_pixels}
use Rattle.judge.specs.Asked.{Tiled, SamePixels, light, flat, inner_place, Sums}
use Rattle.judge.proofs.Inner.{place_is, few_inner}
use Rattle.judge.proofs.Spreads.{light_at, flat_at, sums_none, sums_joined}

-- before the first row
pub rows_none : (w : ℕ) (levels filtered : List ℕ) → Sums (light_at w levels) (flat_at w filtered) (0 * (w - 6)) 0 0 0
rows_none w levels filtered = rw (zero-mul (w - 6)) (sums_none (light_at w levels) (flat_at w filtered))

-- after j rows, where the next one starts
module _ (w h : ℕ) (levels filtered : List ℕ) (t : Tiled w h filtered) (all : length levels ≡ w * h) {squares lights flats at j : ℕ}
    (s : Sums (light_at w levels) (flat_at w filtered) (j * (w - 6)) squares lights flats) (at_is : at ≡ (j + 3) * w + 3) where
  -- the sums so far have room
  pub rooms : j ≤ h - 6 → (squares ≤ 4363753881600) × (lights ≤ 2139095040) × (flats ≤ 2139095040)
  rooms up =
      let few : j * (w - 6) ≤ 1048576 = omega (arith, mul-le-mul_right (w - 6) up, few_inner w h t.sides, mul_comm (w - 6) (h - 6)) in
      (omega (arith, s.squares_most), omega (arith, s.lights_most), omega (arith, s.flats_most))

  module _ (here : j < h - 6) where
    -- the next row lies in the picture
    pub inside : (at + (w - 6) ≤ w * h) × (w * h ≤ 1048576)
    inside =
        let wide = t.measurable in
        (omega (arith, at_is, row_end w h (j + 3) (omega arith)), pixels w h t.sides)

    abbrev end : ℕ
    end = at + (w - 6)

    abbrev row : List ℕ → List ℕ
    row l = take (end - at) (drop at l)

    long : (l : List ℕ) → length l ≡ w * h → length (row l) ≡ w - 6
    long l is = let room = inside.0 in simp (length-take, length-drop) (omega arith)

    -- it has as many levels as filtered values, and at most 1,024
    pub row_pair : SamePixels (row levels) (row filtered)
    row_pair =
        let sides = t.sides in
        record {
          same = omega (arith, long levels all, long filtered t.whole);
          long = omega (arith, long filtered t.whole);
          small = most_take 2040 (end - at) (drop at filtered) (most_drop 2040 at filtered t.small);
        }

    -- its pixels are the next that count
    next : (l : List ℕ) (k : ℕ) → k < w - 6 → get_or (row l) k 0 ≡ get_or l (inner_place w (j * (w - 6) + k)) 0
    next l k g =
        let same : end - at ≡ w - 6 = omega arith in
        let place : at + k ≡ inner_place w (j * (w - 6) + k) = omega (arith, at_is, place_is w k j g) in
        part_at at (end - at) l k (omega arith) ∙ ap (λ (p : ℕ). get_or l p 0) place

    -- so its sums are added to those of the rows before it
    pub rows_more : {a b c : ℕ} → Sums (light (row levels)) (flat (row filtered)) (length (row filtered)) a b c
        → Sums (light_at w levels) (flat_at w filtered) ((j + 1) * (w - 6)) (squares + a) (lights + b) (flats + c)
    rows_more {a} {b} {c} q =
        rw (add-mul j 1 (w - 6), one-mul (w - 6))
        (sums_joined (light_at w levels) (flat_at w filtered) (light (row levels)) (flat (row filtered)) (j * (w - 6)) (w - 6)
        (λ k g. ap (λ (v : ℕ). 8 * v) (next levels k g)) (next filtered) s (rw (long filtered t.whole) at q))

-- past the last row they are the sums of all N
pub rows_all : (w h : ℕ) (levels filtered : List ℕ) {squares lights flats j : ℕ}
    → Sums (light_at w levels) (flat_at w filtered) (j * (w - 6)) squares lights flats → j ≡ h - 6
    → Sums (light_at w levels) (flat_at w filtered) (inner_pixels w h) squares lights flats
rows_all w h levels filtered s e = rw (← mul_comm (h - 6) (w - 6), ← e) s
