-- What a pass makes of lists whose elements are at most b. Assumes nothing.
use mathlib.Core.List.{List, [], ◌∷◌, ◌++◌}
use Prim.Native.Nat.{ℕ, zero, suc, ◌+◌, ◌-◌, ◌*◌, ◌/◌, ◌≤◌, zero-le, max}
use mathlib.Core.Path.{◌≡◌}
use native.Mathlib.Nat.{le_trans}
use native.Mathlib.Omega.{arith}
use lib.ListN.{length, take}
use lib.Seq.{slice, take-take}
use Rattle.arithmetic.specs.Lists.{AtMost}
use Rattle.arithmetic.proofs.Lists.{most_cons, most_append, most_slice, most_joined, most_take}
use Rattle.filter.specs.Median.{near, insert, insert_all, sorted, twice_median, block, row_of, pass_row, pass}
use Rattle.picture.specs.Picture.{Side}
use Rattle.filter.specs.Filter.{pass_one, pass_two, pass_three}
use Rattle.filter.specs.Asked.{Picture}

-- a level put into its place
most_insert : (b v : ℕ) (l : List ℕ) → v ≤ b → AtMost b l → AtMost b (insert v l)
unfolding insert
most_insert b v [] h p k = most_cons b v [] h p k
most_insert b v (x ∷ l) h p zero = omega (arith, p zero)
most_insert b v (x ∷ l) h p (suc k) = most_insert b (max v x) l (omega (arith, p zero)) (λ i. p (suc i)) k

-- levels put into levels: the bound holds for both, so for all
most_insert_all : (b : ℕ) (d l : List ℕ) → AtMost b d → AtMost b l → AtMost b (insert_all d l)
unfolding insert_all
most_insert_all b d [] p q = p
most_insert_all b d (x ∷ l) p q = most_insert_all b (insert x d) l (most_insert b x d (q zero) p) (λ i. q (suc i))

-- fewer levels
pub most_fewer : (b k n : ℕ) (t : List ℕ) → k ≤ n → AtMost b (take n t) → AtMost b (take k t)
most_fewer b k n t h p = rw (← take-take k n t h) (most_take b k (take n t) p)

-- twice the median
pub most_median : (b : ℕ) (l : List ℕ) → AtMost b l → twice_median l ≤ b + b
unfolding twice_median sorted
most_median b l p =
    let s = most_insert_all b [] l (λ k. zero-le) p in
    omega (arith, s ((length l - 1) / 2), s (length l / 2))

most_near : (b i : ℕ) (row : List ℕ) → AtMost b row → AtMost b (near i row)
unfolding near
most_near b i row p = most_slice b (i - 1) (i + 2) row p

most_block : (b : ℕ) (above here below : List ℕ) (i : ℕ) → AtMost b above → AtMost b here → AtMost b below → AtMost b (block above here below i)
unfolding block
most_block b above here below i p q r =
    most_append b (near i above ++ near i here) (near i below)
    (most_append b (near i above) (near i here) (most_near b i above p) (most_near b i here q))
    (most_near b i below r)

pub most_row : (b : ℕ) (above here below : List ℕ) → AtMost b above → AtMost b here → AtMost b below → AtMost (b + b) (row_of above here below)
unfolding row_of
most_row b above here below p q r =
    most_joined (b + b) (length here) (λ i. twice_median (block above here below i) ∷ [])
    (λ i. most_cons (b + b) (twice_median (block above here below i)) [] (most_median b (block above here below i) (most_block b above here below i p q r)) (λ k. zero-le))

-- a pass at most doubles what it is given
pub most_pass : (b w h : ℕ) (x : List ℕ) → AtMost b x → AtMost (b + b) (pass w h x)
unfolding pass pass_row
most_pass b w h x p =
    most_joined (b + b) h (pass_row w x)
    (λ j. most_row b (slice (j * w - w) (j * w) x) (slice (j * w) (j * w + w) x) (slice (j * w + w) (j * w + w + w) x) (most_slice b (j * w - w) (j * w) x p) (most_slice b (j * w) (j * w + w) x p) (most_slice b (j * w + w) (j * w + w + w) x p))

-- each pass's range: "the first pass is held in halves, the second in quarters, the third in eighths (0 to 2,040)"
module _ (w h : ℕ) (levels : List ℕ) (p : AtMost 255 levels) where
  pub most_pass_one : AtMost 510 (pass_one w h levels)
  unfolding pass_one
  most_pass_one = most_pass 255 w h levels p

  pub most_pass_two : AtMost 1020 (pass_two w h levels)
  unfolding pass_two
  most_pass_two = most_pass 510 w h (pass_one w h levels) most_pass_one

  pub most_pass_three : AtMost 2040 (pass_three w h levels)
  unfolding pass_three
  most_pass_three = most_pass 1020 w h (pass_two w h levels) most_pass_two

-- a list that is small enough, and of the right length, is a picture that a pass can take
pub picture_of : (b w h : ℕ) (x y : List ℕ) → Side w × Side h → length x ≡ w * h → x ≡ y → AtMost b y → b ≤ 1020 → Picture w h x
picture_of b w h x y sides long e p q = record { sides = sides; whole = long; small = rw e (λ k. le_trans (p k) q) }
