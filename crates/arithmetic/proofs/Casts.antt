-- Signed numbers in the machine: one that is tested against 0 and cast to an unsigned one, a difference, a comparison, a product added to
-- a sum. The machine reads a number back from its bits, `to_z w (of_z w z)`, which is z where z fits. Assumes nothing.
use mathlib.Core.Path.{◌≡◌, refl, ◌∙◌}
use mathlib.Core.Bool.{true, false, true≢false}
use Prim.Native.Nat.{ℕ, ◌<◌, ◌≤◌, ◌^◌}
use native.Mathlib.Omega.{arith}
use lib.IntN.{ℤ, pos, negsuc, nat_abs, sub_ℕ, ◌+ℤ◌, ◌-ℤ◌, ◌*ℤ◌}
use lib.Dec.{T}
use lib.Signed.{lt_z, non_neg}
use borrow.Author.Tests.{ltb-true, ltb-false}
use mir.Syntax.{Width, w64}
use mir.Val.{hbits, SFits, Fits, to_z, of_z}
use mir.ValLaws.{to_z-of_z, to_z_pos}
use Rattle.arithmetic.proofs.Differences.{pos_minus}
use Rattle.arithmetic.proofs.Ranges.{of_diff, in_width}
use Rattle.arithmetic.specs.Signed.{nat_of}

negative : (z : ℤ) → lt_z z (pos 0) ≡ true → 0 ≡ nat_of z
negative (pos n) h = let b : n < 0 = ltb-true n 0 h in omega arith
negative (negsuc n) h = refl

not_negative : (z : ℤ) → SFits w64 z → lt_z z (pos 0) ≡ false → T (non_neg z) × Fits w64 (nat_abs z)
not_negative (pos n) f h = (tt, record { fits = let b = f.sfits in omega arith })
not_negative (negsuc n) f h = absurd (true≢false h)

same : (z : ℤ) → T (non_neg z) → nat_abs z ≡ nat_of z
same (pos n) h = refl
same (negsuc n) h = absurd h

-- the same, of the number read back from its bits
module _ (z : ℤ) (f : SFits w64 z) where
  pub cast_neg : lt_z (to_z w64 (of_z w64 z)) (pos 0) ≡ true → 0 ≡ nat_of z
  cast_neg h = negative z (rw (to_z-of_z w64 z f) at h)

  pub cast_asks : lt_z (to_z w64 (of_z w64 z)) (pos 0) ≡ false
      → T (non_neg (to_z w64 (of_z w64 z))) × Fits w64 (nat_abs (to_z w64 (of_z w64 z)))
  cast_asks h = rw (to_z-of_z w64 z f) (not_negative z f (rw (to_z-of_z w64 z f) at h))

  pub cast_gives : lt_z (to_z w64 (of_z w64 z)) (pos 0) ≡ false → nat_abs (to_z w64 (of_z w64 z)) ≡ nat_of z
  cast_gives h = rw (to_z-of_z w64 z f) (same z (not_negative z f (rw (to_z-of_z w64 z f) at h)).0)

-- a difference of two numbers of a signed width w, as the machine makes it
module _ (w : Width) (p n : ℕ) (hp : p < 2 ^ hbits w) (hn : n < 2 ^ hbits w) where
  made : to_z w p -ℤ to_z w n ≡ sub_ℕ p n
  made = rw (to_z_pos w p hp, to_z_pos w n hn) (pos_minus p n)

  small : SFits w (sub_ℕ p n)
  small = in_width w (sub_ℕ p n) (of_diff p n) hn hp

  pub diff_fits : SFits w (to_z w p -ℤ to_z w n)
  diff_fits = rw made small

  pub diff_gives : to_z w (of_z w (to_z w p -ℤ to_z w n)) ≡ sub_ℕ p n
  diff_gives = to_z-of_z w (to_z w p -ℤ to_z w n) diff_fits ∙ made

-- two numbers of the lower half of a width are compared alike as signed ones
module _ (w : Width) (a b : ℕ) (ha : a < 2 ^ hbits w) (hb : b < 2 ^ hbits w) where
  pub signed_less : lt_z (to_z w a) (to_z w b) ≡ true → a < b
  signed_less e = ltb-true a b (rw (to_z_pos w a ha, to_z_pos w b hb) at e)

  pub signed_not_less : lt_z (to_z w a) (to_z w b) ≡ false → b ≤ a
  signed_not_less e = ltb-false a b (rw (to_z_pos w a ha, to_z_pos w b hb) at e)

-- a product p·q added to a sum, as the machine makes it: p, q and the sum are what it reads as x, y and s
module _ (w : Width) {x y p q : ℤ} (is_x : x ≡ p) (is_y : y ≡ q) (room : SFits w (p *ℤ q)) where
  pub product_fits : SFits w (x *ℤ y)
  product_fits = rw (is_x, is_y) room

  product_gives : to_z w (of_z w (x *ℤ y)) ≡ p *ℤ q
  product_gives = to_z-of_z w (x *ℤ y) product_fits ∙ rw (is_x, is_y)

  module _ {s sum : ℤ} (is-s : s ≡ sum) (more : SFits w (sum +ℤ p *ℤ q)) where
    pub sum_fits : SFits w (s +ℤ to_z w (of_z w (x *ℤ y)))
    sum_fits = rw (product_gives, is-s) more

    pub sum_gives : to_z w (of_z w (s +ℤ to_z w (of_z w (x *ℤ y)))) ≡ sum +ℤ p *ℤ q
    sum_gives = to_z-of_z w (s +ℤ to_z w (of_z w (x *ℤ y))) sum_fits ∙ rw (product_gives, is-s)
