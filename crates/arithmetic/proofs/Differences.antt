-- `sub_ℕ a b`, the integer a − b of two naturals, as a way to compute with integers in ℕ: when two are equal, their sum and their product.
-- With these an equation of integers becomes one of naturals. Assumes nothing.
use mathlib.Core.Path.{◌≡◌, sym, ap, subst, ◌∙◌}
use mathlib.Core.Logic.{⊎_elim}
use Prim.Native.Nat.{ℕ, zero, suc, ◌+◌, ◌-◌, ◌*◌, ◌<◌, ◌≤◌}
use native.Mathlib.Nat.{add-mul, mul-add, sub-zero, mul_assoc}
use native.Mathlib.Omega.{arith}
use lib.IntN.{ℤ, pos, negsuc, neg_ℤ, sub_ℕ, ◌+ℤ◌, ◌-ℤ◌, ◌*ℤ◌, +ℤ_comm}
use borrow.Author.Tests.{lt-ltb, le-ltb}
use Rattle.arithmetic.specs.Signed.{nat_of}
use Rattle.arithmetic.proofs.Order.{le_or_lt}

pub sub_pos : (a b : ℕ) → b ≤ a → sub_ℕ a b ≡ pos (a - b)
sub_pos a b h = rw (le-ltb a b h)

pub sub_neg : (a b : ℕ) → a < b → sub_ℕ a b ≡ negsuc (b - suc a)
sub_neg a b h = rw (lt-ltb a b h)

-- two differences are equal where the sums across are
pub same_diff : (a b c d : ℕ) → a + d ≡ c + b → sub_ℕ a b ≡ sub_ℕ c d
same_diff a b c d e = ⊎_elim
    (λ (h : b ≤ a). let g : d ≤ c = omega arith in sub_pos a b h ∙ ap pos (omega arith) ∙ sym (sub_pos c d g))
    (λ (h : a < b). let g : c < d = omega arith in sub_neg a b h ∙ ap negsuc (omega arith) ∙ sym (sub_neg c d g))
    (le_or_lt b a)

-- each integer is a difference
pub pos_diff : (n : ℕ) → pos n ≡ sub_ℕ n 0
pos_diff n = sym (sub_pos n 0 (omega arith) ∙ ap pos (sub-zero n))

pub neg_diff : (n : ℕ) → negsuc n ≡ sub_ℕ 0 (suc n)
neg_diff n = sym (sub_neg 0 (suc n) (omega arith) ∙ ap negsuc (omega arith))

-- the sum of two differences
pub add_diff : (a b c d : ℕ) → sub_ℕ a b +ℤ sub_ℕ c d ≡ sub_ℕ (a + c) (b + d)
add_diff a b c d = ⊎_elim
    (λ (h : b ≤ a). ⊎_elim
    (λ (g : d ≤ c). rw (sub_pos a b h, sub_pos c d g) (ap pos (omega arith) ∙ sym (sub_pos (a + c) (b + d) (omega arith))))
    (λ (g : c < d). rw (sub_pos a b h, sub_neg c d g) (same_diff (a - b) (suc (d - suc c)) (a + c) (b + d) (omega arith)))
    (le_or_lt d c))
    (λ (h : a < b). ⊎_elim
    (λ (g : d ≤ c). rw (sub_neg a b h, sub_pos c d g) (same_diff (c - d) (suc (b - suc a)) (a + c) (b + d) (omega arith)))
    (λ (g : c < d). rw (sub_neg a b h, sub_neg c d g) (ap negsuc (omega arith) ∙ sym (sub_neg (a + c) (b + d) (omega arith))))
    (le_or_lt d c))
    (le_or_lt b a)

pub neg_pos : (n : ℕ) → neg_ℤ (pos n) ≡ sub_ℕ 0 n
neg_pos zero = pos_diff 0
neg_pos (suc n) = neg_diff n

-- the difference of two natural numbers, as it is written
pub pos_minus : (a b : ℕ) → pos a -ℤ pos b ≡ sub_ℕ a b
pos_minus a b = ap (λ (z : ℤ). pos a +ℤ z) (neg_pos b) ∙ ap (λ (z : ℤ). z +ℤ sub_ℕ 0 b) (pos_diff a) ∙ add_diff a 0 0 b ∙ same_diff (a + 0) (0 + b) a b (omega arith)

-- sums and differences of natural numbers as they are written: −a + b
pub less_plus : (a b : ℕ) → neg_ℤ (pos a) +ℤ pos b ≡ sub_ℕ b a
less_plus a b = +ℤ_comm (neg_ℤ (pos a)) (pos b) ∙ pos_minus b a

-- −a + b − c
pub less_plus_less : (a b c : ℕ) → neg_ℤ (pos a) +ℤ pos b -ℤ pos c ≡ sub_ℕ b (a + c)
less_plus_less a b c = rw (less_plus a b, neg_pos c) (add_diff b a 0 c ∙ same_diff (b + 0) (a + c) b (a + c) (omega arith))

-- a − b + c
pub minus_plus : (a b c : ℕ) → pos a -ℤ pos b +ℤ pos c ≡ sub_ℕ (a + c) b
minus_plus a b c = rw (pos_minus a b, pos_diff c) (add_diff a b c 0 ∙ same_diff (a + c) (b + 0) (a + c) b (omega arith))

-- a difference whose sign shows
at_pos : (b x : ℕ) → sub_ℕ (b + x) b ≡ pos x
at_pos b x = same_diff (b + x) b x 0 (omega arith) ∙ sym (pos_diff x)

at_neg : (a x : ℕ) → sub_ℕ a (a + suc x) ≡ negsuc x
at_neg a x = same_diff a (a + suc x) 0 (suc x) (omega arith) ∙ sym (neg_diff x)

mul_pp : (b x d y : ℕ) → sub_ℕ (b + x) b *ℤ sub_ℕ (d + y) d ≡ sub_ℕ ((b + x) * (d + y) + b * d) ((b + x) * d + b * (d + y))
mul_pp b x d y =
    rw (at_pos b x, at_pos d y)
    (pos_diff (x * y) ∙ same_diff (x * y) 0 ((b + x) * (d + y) + b * d) ((b + x) * d + b * (d + y)) (omega (arith, add-mul b x (d + y), mul-add x d y, add-mul b x d)))

mul_pn : (b x c y : ℕ) → sub_ℕ (b + x) b *ℤ sub_ℕ c (c + suc y) ≡ sub_ℕ ((b + x) * c + b * (c + suc y)) ((b + x) * (c + suc y) + b * c)
mul_pn b x c y =
    rw (at_pos b x, at_neg c y)
    (neg_pos (x * suc y) ∙ same_diff 0 (x * suc y) ((b + x) * c + b * (c + suc y)) ((b + x) * (c + suc y) + b * c) (omega (arith, add-mul b x c, add-mul b x (c + suc y), mul-add x c (suc y))))

mul_np : (a x d y : ℕ) → sub_ℕ a (a + suc x) *ℤ sub_ℕ (d + y) d ≡ sub_ℕ (a * (d + y) + (a + suc x) * d) (a * d + (a + suc x) * (d + y))
mul_np a x d y =
    rw (at_neg a x, at_pos d y)
    (neg_pos (suc x * y) ∙ same_diff 0 (suc x * y) (a * (d + y) + (a + suc x) * d) (a * d + (a + suc x) * (d + y)) (omega (arith, add-mul a (suc x) d, add-mul a (suc x) (d + y), mul-add (suc x) d y)))

mul_nn : (a x c y : ℕ) → sub_ℕ a (a + suc x) *ℤ sub_ℕ c (c + suc y) ≡ sub_ℕ (a * c + (a + suc x) * (c + suc y)) (a * (c + suc y) + (a + suc x) * c)
mul_nn a x c y =
    rw (at_neg a x, at_neg c y)
    (pos_diff (suc x * suc y) ∙ same_diff (suc x * suc y) 0 (a * c + (a + suc x) * (c + suc y)) (a * (c + suc y) + (a + suc x) * c) (omega (arith, add-mul a (suc x) c, add-mul a (suc x) (c + suc y), mul-add (suc x) c (suc y))))

-- how two numbers stand to one another
data Apart : ℕ → ℕ → Type 0 where
  up : (b x : ℕ) → Apart (b + x) b
  down : (a x : ℕ) → Apart a (a + suc x)

apart : (a b : ℕ) → Apart a b
apart a b = ⊎_elim
    (λ (h : b ≤ a). let e : b + (a - b) ≡ a = omega arith in subst (λ (n : ℕ). Apart n b) e (up b (a - b)))
    (λ (h : a < b). let e : a + suc (b - suc a) ≡ b = omega arith in subst (λ (n : ℕ). Apart a n) e (down a (b - suc a)))
    (le_or_lt b a)

-- the product of two differences
pub mul_diff : (a b c d : ℕ) → sub_ℕ a b *ℤ sub_ℕ c d ≡ sub_ℕ (a * c + b * d) (a * d + b * c)
mul_diff a b c d = go (apart a b) (apart c d)
  where
    go : {a b c d : ℕ} → Apart a b → Apart c d → sub_ℕ a b *ℤ sub_ℕ c d ≡ sub_ℕ (a * c + b * d) (a * d + b * c)
    go (up b x) (up d y) = mul_pp b x d y
    go (up b x) (down c y) = mul_pn b x c y
    go (down a x) (up d y) = mul_np a x d y
    go (down a x) (down c y) = mul_nn a x c y

-- each integer is the difference of two naturals
abbrev pub plus : ℤ → ℕ
plus z = nat_of z

abbrev pub minus : ℤ → ℕ
minus (pos n) = 0
minus (negsuc n) = suc n

pub as_diff : (z : ℤ) → z ≡ sub_ℕ (plus z) (minus z)
as_diff (pos n) = pos_diff n
as_diff (negsuc n) = neg_diff n

-- a difference times a sum of differences, and times a product, in ℕ
distrib_diff : (a b c d e f : ℕ) → sub_ℕ a b *ℤ (sub_ℕ c d +ℤ sub_ℕ e f) ≡ sub_ℕ a b *ℤ sub_ℕ c d +ℤ sub_ℕ a b *ℤ sub_ℕ e f
distrib_diff a b c d e f =
    rw (add_diff c d e f, mul_diff a b (c + e) (d + f), mul_diff a b c d, mul_diff a b e f, add_diff (a * c + b * d) (a * d + b * c) (a * e + b * f) (a * f + b * e))
    (same_diff (a * (c + e) + b * (d + f)) (a * (d + f) + b * (c + e)) (a * c + b * d + (a * e + b * f)) (a * d + b * c + (a * f + b * e))
    (omega (arith, mul-add a c e, mul-add b d f, mul-add a d f, mul-add b c e)))

assoc_diff : (a b c d e f : ℕ) → sub_ℕ a b *ℤ sub_ℕ c d *ℤ sub_ℕ e f ≡ sub_ℕ a b *ℤ (sub_ℕ c d *ℤ sub_ℕ e f)
assoc_diff a b c d e f =
    rw (mul_diff a b c d, mul_diff (a * c + b * d) (a * d + b * c) e f, mul_diff c d e f, mul_diff a b (c * e + d * f) (c * f + d * e))
    (same_diff ((a * c + b * d) * e + (a * d + b * c) * f) ((a * c + b * d) * f + (a * d + b * c) * e) (a * (c * e + d * f) + b * (c * f + d * e)) (a * (c * f + d * e) + b * (c * e + d * f))
    (omega (
      arith,
      add-mul (a * c) (b * d) e,
      add-mul (a * d) (b * c) f,
      add-mul (a * c) (b * d) f,
      add-mul (a * d) (b * c) e,
      mul-add a (c * e) (d * f),
      mul-add b (c * f) (d * e),
      mul-add a (c * f) (d * e),
      mul-add b (c * e) (d * f),
      mul_assoc a c e,
      mul_assoc b d e,
      mul_assoc a d f,
      mul_assoc b c f,
      mul_assoc a c f,
      mul_assoc b d f,
      mul_assoc a d e,
      mul_assoc b c e,
    )))

-- the laws of ℤ that `lib.IntN` leaves out
pub mul_addℤ : (x y z : ℤ) → x *ℤ (y +ℤ z) ≡ x *ℤ y +ℤ x *ℤ z
mul_addℤ x y z = rw (as_diff x, as_diff y, as_diff z) (distrib_diff (plus x) (minus x) (plus y) (minus y) (plus z) (minus z))

pub mul_assocℤ : (x y z : ℤ) → x *ℤ y *ℤ z ≡ x *ℤ (y *ℤ z)
mul_assocℤ x y z = rw (as_diff x, as_diff y, as_diff z) (assoc_diff (plus x) (minus x) (plus y) (minus y) (plus z) (minus z))
