-- Rows that come in two parts are rows that come at once. Assumes nothing.
use mathlib.Core.Path.{◌≡◌, refl, sym, ap, ◌∙◌}
use mathlib.Core.List.{List, [], ◌++◌, append_assoc, append-nil}
use Prim.Native.Nat.{ℕ, zero, suc, ◌+◌, ◌*◌, ◌<◌}
use native.Mathlib.Nat.{add-zero, add-suc, suc-mul, add-mul, mul-le-mul_right}
use native.Mathlib.Omega.{arith}
use lib.ListN.{length, take}
use lib.Seq.{take-append-le, take-append-add, drop-append-add, take-nil, drop-nil}
use Rattle.arithmetic.specs.Lists.{joined}
use Rattle.memory.specs.Memory.{row_at}
use Rattle.scan.specs.Held.{Held, after, given, no_row}

-- the same rows do the same
module _ (held : Held) (f g : ℕ → List ℕ) where
  pub after_same : (n : ℕ) → ((i : ℕ) → i < n → f i ≡ g i) → after held f n ≡ after held g n
  unfolding after
  after_same zero p = refl
  after_same (suc n) p = rw (after_same n (λ i h. p i (omega arith)), p n (omega arith))

  pub given_same : (n : ℕ) → ((i : ℕ) → i < n → f i ≡ g i) → given held f n ≡ given held g n
  unfolding given joined
  given_same zero p = refl
  given_same (suc n) p = rw (given_same n (λ i h. p i (omega arith)), after_same n (λ i h. p i (omega arith)), p n (omega arith))

-- first a of them, then b
module _ (held : Held) (f : ℕ → List ℕ) (a : ℕ) where
  pub after_add : (b : ℕ) → after held f (a + b) ≡ after (after held f a) (λ i. f (a + i)) b
  unfolding after
  after_add zero = rw add-zero
  after_add (suc b) = rw (add-suc, after_add b)

  pub given_add : (b : ℕ) → given held f (a + b) ≡ given held f a ++ given (after held f a) (λ i. f (a + i)) b
  unfolding given joined
  given_add zero = rw add-zero (sym (append-nil (given held f a)))
  given_add (suc b) = rw (add-suc, given_add b, after_add b, append_assoc)

-- the rows of a list, and of one behind it
module _ (w n : ℕ) (l x : List ℕ) (whole : length l ≡ n * w) where
  pub row_front : (i : ℕ) → i < n → row_at w (l ++ x) i ≡ row_at w l i
  unfolding row_at
  row_front i h = rw (take-append-le (i * w + w) l x (omega (arith, mul-le-mul_right w h, suc-mul i w)))

  pub row_back : (i : ℕ) → row_at w (l ++ x) (n + i) ≡ row_at w x i
  unfolding row_at
  row_back i =
      let p : (n + i) * w ≡ length l + i * w = add-mul n i w ∙ rw whole in
      let q : (n + i) * w + w ≡ length l + (i * w + w) = omega (arith, p) in
      rw (q, p, take-append-add l x (i * w + w), drop-append-add l (take (i * w + w) x) (i * w))

  pub after_more : (held : Held) (b : ℕ) → after held (row_at w (l ++ x)) (n + b) ≡ after (after held (row_at w l) n) (row_at w x) b
  after_more held b =
      after_add held (row_at w (l ++ x)) n b
      ∙ ap (λ (k : Held). after k (λ i. row_at w (l ++ x) (n + i)) b) (after_same held (row_at w (l ++ x)) (row_at w l) n row_front)
      ∙ after_same (after held (row_at w l) n) (λ i. row_at w (l ++ x) (n + i)) (row_at w x) b (λ i h. row_back i)

  pub given_more : (held : Held) (b : ℕ)
      → given held (row_at w (l ++ x)) (n + b) ≡ given held (row_at w l) n ++ given (after held (row_at w l) n) (row_at w x) b
  given_more held b =
      let first = given_same held (row_at w (l ++ x)) (row_at w l) n row_front in
      let then = after_same held (row_at w (l ++ x)) (row_at w l) n row_front in
      let second = given_same (after held (row_at w l) n) (λ i. row_at w (l ++ x) (n + i)) (row_at w x) b (λ i h. row_back i) in
      given_add held (row_at w (l ++ x)) n b
      ∙ ap (λ (k : Held). given held (row_at w (l ++ x)) n ++ given k (λ i. row_at w (l ++ x) (n + i)) b) then
      ∙ ap (λ (g : List ℕ). g ++ given (after held (row_at w l) n) (λ i. row_at w (l ++ x) (n + i)) b) first
      ∙ ap (λ (g : List ℕ). given held (row_at w l) n ++ g) second

-- rows of nothing are not there
pub each_no_row : (w i : ℕ) → row_at w [] i ≡ no_row i
unfolding row_at no_row
each_no_row w i = simp (take-nil, drop-nil)
