-- Which pixels count: by rows and columns, and how many they are; and a sum over them, row by row. Assumes nothing.
use mathlib.Core.Path.{◌≡◌, refl, sym, ap, ◌∙◌}
use mathlib.Core.Bool.{Bool, true, false, cond, not, ◌||◌, true≢false}
use mathlib.Core.Logic.{⊎_elim}
use Prim.Native.Nat.{ℕ, ◌+◌, ◌-◌, ◌*◌, ◌/◌, ◌%◌, ◌<◌, ◌≤◌}
use native.Mathlib.Nat.{mul-le-mul, mul_comm, mul-zero, mul-one, mul-add-div_right, mul-add-mod_self_right, div-eq_of_lt, mod-eq_of_lt}
use native.Mathlib.Omega.{arith}
use borrow.Author.Tests.{ltb-false, leb-false, lt-ltb, le-ltb, le-leb, lt-leb, not-true}
use lib.Dec.{leb, ltb}
use Rattle.arithmetic.specs.Sums.{sum, sum_over}
use Rattle.arithmetic.proofs.Order.{le_or_lt}
use Rattle.arithmetic.proofs.Sums.{sum_none, sum_same, sum_equal, sum_parts, sum_by_rows}
use Rattle.picture.specs.Picture.{Side}
use Rattle.judge.specs.Noise.{outermost, counts, inner_pixels}
use Rattle.judge.specs.Measure.{MeasurableSide}
use Rattle.judge.specs.Asked.{inner_place}
use Rattle.judge.specs.AnnexA.{Exactly}

-- where neither of two is so
neither : (a b : Bool) → (a || b) ≡ false → (a ≡ false) × (b ≡ false)
neither true b e = absurd (true≢false e)
neither false b e = (refl, e)

-- of n rows, or columns, those that are left out and those that are not
first_three : (n k : ℕ) → k < 3 → outermost n k ≡ true
first_three n k h = rw (lt-ltb k 3 h)

last_three : (n k : ℕ) → n - 3 ≤ k → outermost n k ≡ true
last_three n k h = rw (le-leb (n - 3) k h) (go (ltb k 3))
  where
    go : (b : Bool) → (b || true) ≡ true
    go true = refl
    go false = refl

-- the first of them that is not left out is 3, and the last n − 4
pub stays_exactly : (n k : ℕ) → Exactly (outermost n k ≡ false) ((3 ≤ k) × (k < n - 3))
stays_exactly n k = (
  λ e. let both = neither (ltb k 3) (leb (n - 3) k) e in (ltb-false k 3 both.0, leb-false (n - 3) k both.1),
  λ p. rw (le-ltb k 3 p.0, lt-leb (n - 3) k p.1),
)

-- the pixel in column i and row j, w to a row: row and column of its place are its row and column
module _ (w i j : ℕ) (column : i < w) where
  row_is : (j * w + i) / w ≡ j
  row_is = mul-add-div_right (let some : 0 < w = omega arith in some) j i ∙ rw (div-eq_of_lt column) (omega arith)

  column_is : (j * w + i) % w ≡ i
  column_is = mul-add-mod_self_right j w i ∙ mod-eq_of_lt column

module _ (w h i j : ℕ) (column : i < w) where
  counts_at : counts w h (j * w + i) ≡ not (outermost h j || outermost w i)
  counts_at = rw (row_is w i j column, column_is w i j column)

  -- it counts exactly when 3 ≤ i < w − 3 and 3 ≤ j < h − 3
  pub counts_exactly : Exactly (counts w h (j * w + i) ≡ true) (((3 ≤ i) × (i < w - 3)) × ((3 ≤ j) × (j < h - 3)))
  counts_exactly = (to, of)
    where
      to : counts w h (j * w + i) ≡ true → ((3 ≤ i) × (i < w - 3)) × ((3 ≤ j) × (j < h - 3))
      to e =
          let both = neither (outermost h j) (outermost w i) (not-true (outermost h j || outermost w i) (sym counts_at ∙ e)) in
          ((stays_exactly w i).0 both.1, (stays_exactly h j).0 both.0)

      of : ((3 ≤ i) × (i < w - 3)) × ((3 ≤ j) × (j < h - 3)) → counts w h (j * w + i) ≡ true
      of p = rw (counts_at, (stays_exactly h j).1 p.1, (stays_exactly w i).1 p.0)

-- the pixel in column i and row j of those that count stands three columns and three rows on
pub place_is : (w i j : ℕ) → i < w - 6 → inner_place w (j * (w - 6) + i) ≡ (j + 3) * w + (i + 3)
place_is w i j column = rw (row_is (w - 6) i j column, column_is (w - 6) i j column)

-- a sum over n numbers without the outermost
sum_within : (n : ℕ) (f : ℕ → ℕ) → sum n (λ k. cond (outermost n k) 0 (f k)) ≡ sum (n - 6) (λ k. f (k + 3))
sum_within n f = ⊎_elim few many (le_or_lt n 6)
  where
    kept : ℕ → ℕ
    kept k = cond (outermost n k) 0 (f k)

    nothing : (k : ℕ) → outermost n k ≡ true → kept k ≡ 0
    nothing k e = rw e

    stays : (k : ℕ) → k < n - 6 → kept (3 + k) ≡ f (k + 3)
    stays k l = let e : 3 + k ≡ k + 3 = omega arith in rw ((stays_exactly n (3 + k)).1 (omega arith, omega arith), e)

    -- of six all are left out
    few : n ≤ 6 → sum n kept ≡ sum (n - 6) (λ k. f (k + 3))
    few h =
        let none : n - 6 ≡ 0 = omega arith in
        let out : (k : ℕ) → k < n → kept k ≡ 0 = λ k l. nothing k (⊎_elim (λ (g : 3 ≤ k). last_three n k (omega arith)) (first_three n k) (le_or_lt 3 k)) in
        rw (none, sum_none (λ k. f (k + 3))) (sum_equal 0 n kept out ∙ mul-zero n)

    -- of more, three at either end
    many : 6 < n → sum n kept ≡ sum (n - 6) (λ k. f (k + 3))
    many h =
        let m = n - 6 in
        let all : n ≡ 3 + (m + 3) = omega arith in
        let first = sum_equal 0 3 kept (λ k l. nothing k (first_three n k l)) in
        let last = sum_equal 0 3 (λ k. kept (3 + (m + k))) (λ k l. nothing (3 + (m + k)) (last_three n (3 + (m + k)) (omega arith))) in
        let middle = sum_same m (λ k. kept (3 + k)) (λ k. f (k + 3)) stays in
        let cut = ap (λ (a : ℕ). sum a kept) all ∙ sum_parts 3 (m + 3) kept in
        omega (arith, cut, sum_parts m 3 (λ k. kept (3 + k)), first, middle, last)

-- a sum over the pixels that count
module _ (w h : ℕ) (f : ℕ → ℕ) where
  -- one row of the picture: nothing where it is left out, else what is within it
  row_within : (j : ℕ) → sum w (λ i. cond (counts w h (j * w + i)) (f (j * w + i)) 0) ≡ cond (outermost h j) 0 (sum (w - 6) (λ i. f (j * w + (i + 3))))
  row_within j =
      sum_same w _ (λ i. cond (outermost h j) 0 (cond (outermost w i) 0 (f (j * w + i)))) (λ i l. rw (counts_at w h i j l) (both (outermost h j) (outermost w i) (f (j * w + i))))
      ∙ whole (outermost h j)
    where
      both : (a b : Bool) (v : ℕ) → cond (not (a || b)) v 0 ≡ cond a 0 (cond b 0 v)
      both true b v = refl
      both false true v = refl
      both false false v = refl

      whole : (b : Bool) → sum w (λ i. cond b 0 (cond (outermost w i) 0 (f (j * w + i)))) ≡ cond b 0 (sum (w - 6) (λ i. f (j * w + (i + 3))))
      whole true = sum_equal 0 w (λ i. 0) (λ i l. refl) ∙ mul-zero w
      whole false = sum_within w (λ i. f (j * w + i))

  -- it is h − 6 rows of w − 6, from row 3 and column 3 on
  pub by_rows_and_columns : sum_over (w * h) (counts w h) f ≡ sum (h - 6) (λ j. sum (w - 6) (λ i. f ((j + 3) * w + (i + 3))))
  unfolding sum_over
  by_rows_and_columns =
      let kept : ℕ → ℕ = λ k. cond (counts w h k) (f k) 0 in
      ap (λ (n : ℕ). sum n kept) (mul_comm w h)
      ∙ sum_by_rows h w kept
      ∙ sum_same h _ (λ j. cond (outermost h j) 0 (sum (w - 6) (λ i. f (j * w + (i + 3))))) (λ j l. row_within j)
      ∙ sum_within h (λ j. sum (w - 6) (λ i. f (j * w + (i + 3))))

  -- and so a sum of N numbers
  pub over_inner : sum_over (w * h) (counts w h) f ≡ sum (inner_pixels w h) (λ k. f (inner_place w k))
  over_inner =
      by_rows_and_columns
      ∙ sum_same (h - 6) _ (λ j. sum (w - 6) (λ i. f (inner_place w (j * (w - 6) + i)))) (λ j l. sum_same (w - 6) _ _ (λ i g. ap f (sym (place_is w i j g))))
      ∙ sym (sum_by_rows (h - 6) (w - 6) (λ k. f (inner_place w k)))
      ∙ ap (λ (n : ℕ). sum n (λ k. f (inner_place w k))) (mul_comm (h - 6) (w - 6))

-- there are N of them
pub as_many : (w h : ℕ) → sum_over (w * h) (counts w h) (λ k. 1) ≡ inner_pixels w h
as_many w h = over_inner w h (λ k. 1) ∙ sum_equal 1 (inner_pixels w h) (λ k. 1) (λ k l. refl) ∙ mul-one (inner_pixels w h)

-- a picture that can be measured has some
pub some_inner : (w h : ℕ) → MeasurableSide w × MeasurableSide h → 1 ≤ inner_pixels w h
some_inner w h sides =
    let columns : 1 ≤ w - 6 = omega arith in
    let rows : 1 ≤ h - 6 = omega arith in
    omega (arith, mul-le-mul columns rows)

-- and no more than a picture has pixels
pub few_inner : (w h : ℕ) → Side w × Side h → inner_pixels w h ≤ 1048576
few_inner w h sides =
    let columns : w - 6 ≤ 1024 = omega arith in
    let rows : h - 6 ≤ 1024 = omega arith in
    omega (arith, mul-le-mul columns rows)
