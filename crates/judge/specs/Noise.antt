-- Document 01, "Extremes and noise", with document 02, P3, "Noise without the rim": the noise, in signed whole numbers.
use Rattle.std.specs.Prelude.{Bool, not, ◌||◌, List, ℕ, ◌-◌, ◌*◌, ◌/◌, ◌%◌, leb, ltb, get_or, ℤ, pos, ◌-ℤ◌, ◌*ℤ◌}
use Rattle.arithmetic.specs.Signed.{square}
use Rattle.arithmetic.specs.Sums.{sum_overℤ}

-- "the sum for D leaves out the three outermost rows and columns on each side": of n rows, or of n columns, the one at k is one of
-- the first three or of the last three
abbrev pub outermost : ℕ → ℕ → Bool
outermost n k = ltb k 3 || leb (n - 3) k

-- whether the pixel at k, which stands in row k / w and column k % w, counts: neither is left out
abbrev pub counts : ℕ → ℕ → ℕ → Bool
counts w h k = not (outermost h (k / w) || outermost w (k % w))

-- "N in D, q and the judge's use is (w−6)·(h−6)"
abbrev pub inner_pixels : ℕ → ℕ → ℕ
inner_pixels w h = (w - 6) * (h - 6)

-- "d = 8·(original level) − (filtered eighths) at each pixel"
abbrev pub difference : List ℕ → List ℕ → ℕ → ℤ
difference levels filtered k = pos (8 * get_or levels k 0) -ℤ pos (get_or filtered k 0)

-- the sum of f over the picture's pixels that count
unfoldable pub sum_inner : ℕ → ℕ → (ℕ → ℤ) → ℤ
sum_inner w h f = sum_overℤ (w * h) (counts w h) f

-- "D = N·(sum of d²) − (sum of d)²"
unfoldable pub spread_of : ℕ → ℕ → List ℕ → List ℕ → ℤ
spread_of w h levels filtered =
    (pos (inner_pixels w h) *ℤ sum_inner w h (λ k. square (difference levels filtered k))) -ℤ square (sum_inner w h (difference levels filtered))
