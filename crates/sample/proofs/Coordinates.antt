-- The coordinates of a place: what pixel and remainder are, which have a sample, and how the code takes them apart. Assumes nothing.
use mathlib.Core.Path.{◌≡◌, refl, sym, ap, ◌∙◌}
use mathlib.Core.Logic.{⊎_elim}
use Prim.Native.Nat.{ℕ, suc, ◌+◌, ◌-◌, ◌*◌, ◌/◌, ◌%◌, ◌<◌, ◌≤◌}
use native.Mathlib.Omega.{arith}
use lib.IntN.{ℤ, pos, negsuc, neg_ℤ, neg_ℤ-neg_ℤ, ◌+ℤ◌, ◌-ℤ◌, ◌*ℤ◌}
use lib.Signed.{◌≤ℤ◌, shr_z}
use Rattle.arithmetic.specs.Signed.{nat_of}
use Rattle.arithmetic.proofs.Order.{le_or_lt, to_ℤ, of_ℤ}
use Rattle.arithmetic.proofs.Differences.{sub_pos, sub_neg, pos_minus, less_plus}
use Rattle.units.specs.declared.Sixteenths.{Sixteenths}
use Rattle.sample.specs.declared.coordinate.Coordinate.{Coordinate}
use Rattle.sample.specs.Cubic.{pixel, remainder, Inside}
use Rattle.sample.specs.Asked.{Surrounded, Located}

-- z/16, rounded down, in natural numbers
pub pixel_natural : (z : ℤ) → nat_of (shr_z z 16) ≡ nat_of z / 16
pixel_natural (pos n) = refl
pixel_natural (negsuc n) = refl

-- z − 16·(z/16) of a natural number is its remainder
remainder_of : (n : ℕ) → pos n -ℤ pos 16 *ℤ pos (n / 16) ≡ pos (n % 16)
remainder_of n = pos_minus n (16 * (n / 16)) ∙ sub_pos n (16 * (n / 16)) (omega arith) ∙ ap pos (omega arith)

-- and of a negative one, −1−n, it is 15 less that of n
remainder_below : (n : ℕ) → negsuc n -ℤ pos 16 *ℤ negsuc (n / 16) ≡ pos (15 - n % 16)
remainder_below n =
    ap (λ (z : ℤ). negsuc n +ℤ z) (neg_ℤ-neg_ℤ (pos (16 * suc (n / 16)))) ∙ sub_pos (16 * suc (n / 16)) (suc n) (omega arith) ∙ ap pos (omega arith)

-- −16·m + k, which is negative where k is less
below_zero : (m k : ℕ) → k < 16 * m → neg_ℤ (pos (16 * m)) +ℤ pos k ≡ negsuc (16 * m - suc k)
below_zero m k less = less_plus (16 * m) k ∙ sub_neg k (16 * m) less

-- every x is 16·i + k, with k from 0 to 15
pub place_is : (x : Sixteenths) → (x.0 ≡ pos 16 *ℤ pixel x +ℤ pos (remainder x)) × (remainder x < 16)
place_is x = whole x.0
  where
    whole : (z : ℤ) → (z ≡ pos 16 *ℤ shr_z z 16 +ℤ pos (nat_of (z -ℤ pos 16 *ℤ shr_z z 16))) × (nat_of (z -ℤ pos 16 *ℤ shr_z z 16) < 16)
    whole (pos n) = rw (remainder_of n) (ap pos (omega arith), omega arith)
    whole (negsuc n) = rw (remainder_below n) (sym (below_zero (suc (n / 16)) (15 - n % 16) (omega arith) ∙ ap negsuc (omega arith)), omega arith)

-- and in one way only
pub one_place : (x : Sixteenths) (i : ℤ) (k : ℕ) → x.0 ≡ pos 16 *ℤ i +ℤ pos k → k < 16 → (i ≡ pixel x) × (k ≡ remainder x)
one_place x i k is small = rw is (only i)
  where
    only : (i : ℤ) → (i ≡ shr_z (pos 16 *ℤ i +ℤ pos k) 16) × (k ≡ nat_of (pos 16 *ℤ i +ℤ pos k -ℤ pos 16 *ℤ shr_z (pos 16 *ℤ i +ℤ pos k) 16))
    only (pos n) =
        let e : n ≡ (16 * n + k) / 16 = omega arith in
        let d : k ≡ (16 * n + k) % 16 = omega arith in
        (ap pos e, d ∙ ap nat_of (sym (remainder_of (16 * n + k))))
    only (negsuc n) =
        let z = 16 * suc n - suc k in
        let e : n ≡ z / 16 = omega arith in
        let d : k ≡ 15 - z % 16 = omega arith in
        rw (below_zero (suc n) k (omega arith)) (ap negsuc e, d ∙ ap nat_of (sym (remainder_below z)))

-- ---- which coordinates have a sample
-- i ≤ w−3 in natural numbers
before_last : (side n : ℕ) → pos n ≤ℤ (pos side -ℤ pos 3) → n + 3 ≤ side
before_last side n h = ⊎_elim
    (λ (g : 3 ≤ side). let e = of_ℤ (rw (pos_minus side 3, sub_pos side 3 g) at h) in omega arith)
    (λ (g : side < 3). absurd (rw (pos_minus side 3, sub_neg side 3 g) at h).le)
    (le_or_lt 3 side)

to_last : (side n : ℕ) → n + 3 ≤ side → pos n ≤ℤ (pos side -ℤ pos 3)
to_last side n h = rw (pos_minus side 3, sub_pos side 3 (omega arith)) (to_ℤ (omega arith))

-- a pixel that is inside has one before it and two after it, and the other way round
pub inside_surrounded : (side : ℕ) (i : ℤ) → Inside side i → Surrounded side (nat_of i)
inside_surrounded side (pos n) h = record { before = of_ℤ h.0; after = before_last side n h.1 }
inside_surrounded side (negsuc n) h = absurd h.0.le

surrounded_inside : (side : ℕ) (i : ℤ) → Surrounded side (nat_of i) → Inside side i
surrounded_inside side (pos n) s = (to_ℤ s.before, to_last side n s.after)
surrounded_inside side (negsuc n) s = absurd (let one = s.before in let no : ⊥ = omega arith in no)

-- ---- a coordinate as the code takes it apart
-- the natural remainder is the definition's, but of a negative number
remainder_natural : (z : ℤ) → 1 ≤ nat_of (shr_z z 16) → nat_of (z -ℤ pos 16 *ℤ shr_z z 16) ≡ nat_of z % 16
remainder_natural (pos n) some = ap nat_of (remainder_of n)
remainder_natural (negsuc n) some = absurd (let no : ⊥ = omega arith in no)

module _ (x : Sixteenths) (c : Coordinate) (at : Located x c) where
  pub is_pixel : c.pixel ≡ nat_of (pixel x)
  is_pixel = at.pixel ∙ sym (pixel_natural x.0)

  module _ (side : ℕ) where
    -- where its pixel has not one before it and two after it, it is not inside
    pub outside : (¬ Surrounded side c.pixel) → ¬ Inside side (pixel x)
    outside not-surrounded h = not-surrounded (rw is_pixel (inside_surrounded side (pixel x) h))

    -- where it has, it is, and the remainder is the definition's
    module _ (s : Surrounded side c.pixel) where
      abbrev as_defined : Surrounded side (nat_of (pixel x))
      as_defined = rw is_pixel at s

      pub is_inside : Inside side (pixel x)
      is_inside = surrounded_inside side (pixel x) as_defined

      pub is_remainder : c.remainder ≡ remainder x
      is_remainder = at.remainder ∙ sym (remainder_natural x.0 as_defined.before)
