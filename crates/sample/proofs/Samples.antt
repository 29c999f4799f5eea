-- What a sample is: in a picture of one level that level, on a pixel the pixel's own level, and never out of its range. Assumes
-- nothing.
use mathlib.Core.Path.{◌≡◌, ap, ◌∙◌}
use mathlib.Core.List.{List}
use mathlib.Core.Logic.{inl, inr}
use Prim.Native.Nat.{ℕ, ◌+◌, ◌-◌, ◌*◌, ◌<◌, ◌≤◌}
use native.Mathlib.Omega.{arith}
use lib.ListN.{get_or}
use lib.IntN.{ℤ, pos, neg_ℤ, ◌*ℤ◌, zero-*ℤ, +ℤ_idl, +ℤ_idr}
use lib.Signed.{◌≤ℤ◌}
use Rattle.arithmetic.specs.Signed.{nat_of}
use Rattle.arithmetic.specs.Lists.{AtMost}
use Rattle.arithmetic.specs.Sums.{sumℤ}
use Rattle.arithmetic.proofs.SignedSums.{sumℤ_same, sumℤ_by}
use Rattle.arithmetic.proofs.Ranges.{of_natural, widened, in_order}
use Rattle.units.specs.declared.Sixteenths.{Sixteenths}
use Rattle.sample.specs.Cubic.{weight, sample_of, pixel, remainder, refused, SampleIs, Sampled}
use Rattle.sample.specs.Asked.{Surrounded, column_term, row_sum, row_start, row_term}
use Rattle.sample.proofs.Weights.{weights_add}
use Rattle.sample.proofs.Reach.{SampleRange, rows_range}
use Rattle.sample.proofs.Rows.{by_rows, four_in}
use Rattle.sample.proofs.Coordinates.{place_is}
use Rattle.sample.proofs.Outcomes.{when_done}

-- ---- a picture of one level
module _ (levels : List ℕ) (w h i j across down v : ℕ) (column : Surrounded w i) (row : Surrounded h j) (same : (p : ℕ) → p < w * h → get_or levels p 0 ≡ v) where
  -- each of the 4×4 levels is in the picture, and so is that level
  level_is : (r t : ℕ) → r < 4 → t < 4 → get_or levels (row_start w i j r + t) 0 ≡ v
  level_is r t in-r in-t = same (row_start w i j r + t) (omega (arith, four_in column row r in-r))

  -- the weights add to 8,192 across, and so each row adds to 8,192 times the level
  row_is : (r : ℕ) → r < 4 → row_sum levels (row_start w i j r) across ≡ pos (8192 * v)
  unfolding row_sum
  row_is r in-r =
      sumℤ_same 4 (column_term levels (row_start w i j r) across) (λ t. weight across t *ℤ pos v)
      (λ t in-t. ap (λ (l : ℕ). weight across t *ℤ pos l) (level_is r t in-r in-t))
      ∙ sumℤ_by (pos v) 4 (weight across) ∙ ap (λ (z : ℤ). z *ℤ pos v) (weights_add across)

  -- and down
  one_level : sample_of levels w i j across down ≡ pos (67108864 * v)
  one_level =
      by_rows levels w i j across down
      ∙ sumℤ_same 4 (row_term levels w i j across down) (λ r. weight down r *ℤ pos (8192 * v)) (λ r in-r. ap (λ (z : ℤ). weight down r *ℤ z) (row_is r in-r))
      ∙ sumℤ_by (pos (8192 * v)) 4 (weight down) ∙ ap (λ (z : ℤ). z *ℤ pos (8192 * v)) (weights_add down) ∙ ap pos (omega arith)

-- ---- a place on a pixel
-- a sum of which only the second number is not 0
only_second : (f : ℕ → ℤ) → f 0 ≡ pos 0 → f 2 ≡ pos 0 → f 3 ≡ pos 0 → sumℤ 4 f ≡ f 1
unfolding sumℤ
only_second f a b c = rw (a, b, c, +ℤ_idl (f 1), +ℤ_idr (f 1), +ℤ_idr (f 1))

-- the weights of remainder 0 are 0, 8,192, 0 and 0
at_zero : (z : ℕ → ℤ) → sumℤ 4 (λ t. weight 0 t *ℤ z t) ≡ pos 8192 *ℤ z 1
unfolding weight
at_zero z = only_second (λ t. weight 0 t *ℤ z t) (zero-*ℤ (z 0)) (zero-*ℤ (z 2)) (zero-*ℤ (z 3))

-- so that of the 4×4 levels one is left
on_pixel : (levels : List ℕ) (w i j : ℕ) → 1 ≤ i → 1 ≤ j → sample_of levels w i j 0 0 ≡ pos (67108864 * get_or levels (j * w + i) 0)
unfolding row_sum
on_pixel levels w i j left above =
    by_rows levels w i j 0 0
    ∙ at_zero (λ r. row_sum levels (row_start w i j r) 0)
    ∙ ap (λ (z : ℤ). pos 8192 *ℤ z) (at_zero (λ t. pos (get_or levels (row_start w i j 1 + t) 0)))
    ∙ (let row : j - 1 + 1 ≡ j = omega arith in let column : j * w + (i - 1) + 1 ≡ j * w + i = omega arith in rw (row, column) (ap pos (omega arith)))

-- ---- the theorems
module _ (levels : List ℕ) (w h : ℕ) (x y : Sixteenths) (r : Sampled) (is : SampleIs levels w h x y r) where
  -- the weights of each remainder add to 8,192, so a picture of one level samples to that level everywhere
  pub one_level_everywhere : (v : ℕ) → ((p : ℕ) → p < w * h → get_or levels p 0 ≡ v) → r.number ≡ 0 → r.value ≡ pos (67108864 * v)
  one_level_everywhere v same done =
      let d = when_done levels w h x y r done is in
      d.is ∙ one_level levels w h (nat_of (pixel x)) (nat_of (pixel y)) (remainder x) (remainder y) v d.column d.row same

  -- "At k = 0 both ways it is the pixel's own level, exactly."
  pub own_level : remainder x ≡ 0 → remainder y ≡ 0 → r.number ≡ 0 → r.value ≡ pos (67108864 * get_or levels (nat_of (pixel y) * w + nat_of (pixel x)) 0)
  own_level across down done =
      let d = when_done levels w h x y r done is in
      d.is ∙ rw (across, down) (on_pixel levels w (nat_of (pixel x)) (nat_of (pixel y)) d.column.before d.row.before)

-- a sample lies from −4,812,963,840 to 21,925,724,160, and the 0 of a refusal does too
pub sample_range : (levels : List ℕ) (w h : ℕ) (x y : Sixteenths) (r : Sampled) → AtMost 255 levels → SampleIs levels w h x y r → (neg_ℤ (pos 4812963840) ≤ℤ r.value) × (r.value ≤ℤ pos 21925724160)
sample_range levels w h x y r bytes is = in_order r.value (go is)
  where
    of-refusal : {n : ℕ} → r ≡ refused n → SampleRange r.value
    of-refusal e = rw e (widened (omega arith) (omega arith) (of_natural 0))

    go : SampleIs levels w h x y r → SampleRange r.value
    go (inl a) = of-refusal a.1
    go (inr (s, inl a)) = of-refusal a.1
    go (inr (s, inr (l, inl a))) = of-refusal a.1
    go (inr (s, inr (l, inr (i, e)))) =
        rw (e, by_rows levels w (nat_of (pixel x)) (nat_of (pixel y)) (remainder x) (remainder y))
        (rows_range levels bytes w (nat_of (pixel x)) (nat_of (pixel y)) (remainder x) (remainder y) (place_is x).1 (place_is y).1 4 (omega arith))
