-- Laws of sums: one number more, two sums in one, a part more, row by row, bounds, and that the square of a sum is at most n times the
-- sum of the squares. Assumes nothing.
use mathlib.Core.Path.{◌≡◌, refl, sym, ap, ◌∙◌}
use mathlib.Core.Logic.{⊎_elim}
use Prim.Native.Nat.{ℕ, zero, suc, ◌+◌, ◌-◌, ◌*◌, ◌<◌, ◌≤◌, zero-le}
use native.Mathlib.Nat.{add-mul, mul-add, mul_comm, suc-mul, mul-zero, zero-mul}
use native.Mathlib.Numerals.{add-one}
use native.Mathlib.Omega.{arith}
use Rattle.arithmetic.specs.Sums.{sum}
use Rattle.arithmetic.proofs.Order.{le_or_lt}

pub sum_none : (f : ℕ → ℕ) → sum 0 f ≡ 0
unfolding sum
sum_none f = refl

pub sum_more : (n : ℕ) (f : ℕ → ℕ) → sum (n + 1) f ≡ sum n f + f n
unfolding sum
sum_more n f = rw add-one

-- a sum from its first number on
pub sum_first : (n : ℕ) (f : ℕ → ℕ) → sum (suc n) f ≡ f 0 + sum n (λ i. f (suc i))
unfolding sum
sum_first zero f = omega arith
sum_first (suc n) f = omega (arith, sum_first n f)

-- n numbers that are at most b
pub sum_most : (b n : ℕ) (f : ℕ → ℕ) → ((i : ℕ) → f i ≤ b) → sum n f ≤ n * b
unfolding sum
sum_most b zero f p = zero-le
sum_most b (suc n) f p = omega (arith, sum_most b n f p, p n, suc-mul n b)

-- numbers that are the same have the same sum
pub sum_same : (n : ℕ) (f g : ℕ → ℕ) → ((i : ℕ) → i < n → f i ≡ g i) → sum n f ≡ sum n g
unfolding sum
sum_same zero f g p = refl
sum_same (suc n) f g p = omega (arith, sum_same n f g (λ i l. p i (omega arith)), p n (omega arith))

-- n numbers that are all c
pub sum_equal : (c n : ℕ) (f : ℕ → ℕ) → ((i : ℕ) → i < n → f i ≡ c) → sum n f ≡ n * c
unfolding sum
sum_equal c zero f p = sym (zero-mul c)
sum_equal c (suc n) f p = omega (arith, sum_equal c n f (λ i l. p i (omega arith)), p n (omega arith), suc-mul n c)

-- the sum of the numbers of two sums, taken in pairs
pub sum_add : (n : ℕ) (f g : ℕ → ℕ) → sum n (λ i. f i + g i) ≡ sum n f + sum n g
unfolding sum
sum_add zero f g = refl
sum_add (suc n) f g = omega (arith, sum_add n f g)

-- a sum in two parts
pub sum_parts : (a n : ℕ) (f : ℕ → ℕ) → sum (a + n) f ≡ sum a f + sum n (λ i. f (a + i))
unfolding sum
sum_parts a zero f = let e : a + 0 ≡ a = omega arith in let z : sum a f + 0 ≡ sum a f = omega arith in rw (e, z)
sum_parts a (suc n) f = let e : a + suc n ≡ suc (a + n) = omega arith in rw e (omega (arith, sum_parts a n f))

-- a sum row by row, of h rows of w numbers
pub sum_by_rows : (h w : ℕ) (f : ℕ → ℕ) → sum (h * w) f ≡ sum h (λ j. sum w (λ i. f (j * w + i)))
unfolding sum
sum_by_rows zero w f = rw (zero-mul w)
sum_by_rows (suc h) w f = rw (suc-mul h w, sum_parts (h * w) w f, sum_by_rows h w f)

-- a sum that is cut at a place
pub sum_cut : (f : ℕ → ℕ) (a n : ℕ) → a ≤ n → sum n f ≡ sum a f + sum (n - a) (λ i. f (a + i))
sum_cut f a n inside = let e : n ≡ a + (n - a) = omega arith in ap (λ (m : ℕ). sum m f) e ∙ sum_parts a (n - a) f

-- a part of a sum is at most all of it
pub sum_part : (f : ℕ → ℕ) {k n : ℕ} → k ≤ n → sum k f ≤ sum n f
sum_part f {k} {n} in-it = omega (arith, sum_cut f k n in-it)

-- and so is each of its numbers
pub sum_term : (f : ℕ → ℕ) {i n : ℕ} → i < n → f i ≤ sum n f
sum_term f {i} {n} in-it = let up_to_lem : i + 1 ≤ n = omega arith in omega (arith, sum_part f up_to_lem, sum_more i f)

-- a sum goes on with the sum of n numbers that are the next n
pub sum_goes_on : (a n : ℕ) (f g : ℕ → ℕ) → ((i : ℕ) → i < n → g i ≡ f (a + i)) → sum a f + sum n g ≡ sum (a + n) f
sum_goes_on a n f g next = rw (sum_parts a n f, sum_same n g (λ i. f (a + i)) next)

-- twice a product is at most the sum of the squares
twice : (t d : ℕ) → 2 * (t * d) ≤ d * d + t * t
twice t d = ⊎_elim
    (λ (h : t ≤ d). let e : d ≡ t + (d - t) = omega arith in rw e (above t (d - t)))
    (λ (h : d < t). let e : t ≡ d + (t - d) = omega arith in rw e (below d (t - d)))
    (le_or_lt t d)
  where
    above : (t x : ℕ) → 2 * (t * (t + x)) ≤ (t + x) * (t + x) + t * t
    above t x = omega (arith, mul-add t t x, add-mul t x (t + x), mul-add x t x, mul_comm x t)

    below : (d x : ℕ) → 2 * ((d + x) * d) ≤ d * d + (d + x) * (d + x)
    below d x = omega (arith, add-mul d x d, mul-add (d + x) d x, add-mul d x x, mul_comm x d)

module _ (f : ℕ → ℕ) where
  line : (t n : ℕ) → 2 * (t * sum n f) ≤ sum n (λ i. f i * f i) + n * (t * t)
  unfolding sum
  line t zero = omega (arith, mul-zero t)
  line t (suc n) = omega (arith, line t n, twice t (f n), mul-add t (sum n f) (f n), suc-mul n (t * t))

  -- the square of a sum is at most n times the sum of the squares (Cauchy and Schwarz)
  pub square_of_sum : (n : ℕ) → sum n f * sum n f ≤ n * sum n (λ i. f i * f i)
  unfolding sum
  square_of_sum zero = omega arith
  square_of_sum (suc n) =
      let s = sum n f in
      let q = sum n (λ i. f i * f i) in
      omega (
        arith,
        square_of_sum n,
        line (f n) n,
        add-mul s (f n) (s + f n),
        mul-add s s (f n),
        mul-add (f n) s (f n),
        mul_comm s (f n),
        suc-mul n (q + f n * f n),
        mul-add n q (f n * f n),
      )
