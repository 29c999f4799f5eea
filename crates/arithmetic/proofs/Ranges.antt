-- How far from 0 a signed number can be, on either side: of sums, of products, and in the machine. Assumes nothing.
use mathlib.Core.Path.{◌≡◌, sym, subst, ◌∙◌}
use mathlib.Core.Logic.{⊎_elim}
use Prim.Native.Nat.{ℕ, zero, suc, ◌+◌, ◌*◌, ◌<◌, ◌≤◌, ◌^◌}
use native.Mathlib.Nat.{mul-le-mul_left}
use native.Mathlib.Omega.{arith}
use lib.Dec.{le→leb}
use lib.IntN.{ℤ, pos, negsuc, neg_ℤ, sub_ℕ, ◌+ℤ◌, ◌*ℤ◌}
use lib.Signed.{◌≤ℤ◌}
use mir.Syntax.{Width}
use mir.Val.{hbits, SFits}
use Rattle.arithmetic.specs.Sums.{sum, sumℤ}
use Rattle.arithmetic.proofs.Order.{le_or_lt}
use Rattle.arithmetic.proofs.SignedSums.{sumℤ_more}
use Rattle.arithmetic.proofs.Differences.{sub_pos, sub_neg, add_diff, mul_diff, plus, minus, as_diff}

-- z lies from −below to above
pub record Ranges (below above : ℕ) (z : ℤ) : Type 0 where
  pub low : minus z ≤ below
  pub high : plus z ≤ above

-- the same in the order of ℤ
at_least : (b : ℕ) (z : ℤ) → minus z ≤ b → neg_ℤ (pos b) ≤ℤ z
at_least zero (pos n) h = record { le = le→leb 0 n (omega arith) }
at_least (suc b) (pos n) h = record { le = tt }
at_least zero (negsuc n) h = absurd (let no : ⊥ = omega arith in no)
at_least (suc b) (negsuc n) h = record { le = le→leb n b (omega arith) }

at_most : (a : ℕ) (z : ℤ) → plus z ≤ a → z ≤ℤ pos a
at_most a (pos n) h = record { le = le→leb n a h }
at_most a (negsuc n) h = record { le = tt }

pub in_order : {below above : ℕ} (z : ℤ) → Ranges below above z → (neg_ℤ (pos below) ≤ℤ z) × (z ≤ℤ pos above)
in_order {below} {above} z r = (at_least below z r.low, at_most above z r.high)

-- a − b lies from −b to a
pub of_diff : (a b : ℕ) → Ranges b a (sub_ℕ a b)
of_diff a b = ⊎_elim
    (λ (h : b ≤ a). rw (sub_pos a b h) (record { low = omega arith; high = omega arith }))
    (λ (h : a < b). rw (sub_neg a b h) (record { low = omega arith; high = omega arith }))
    (le_or_lt b a)

-- a wider range
pub widened : {a a' b b' : ℕ} {z : ℤ} → a ≤ a' → b ≤ b' → Ranges a b z → Ranges a' b' z
widened p q r = record { low = omega (arith, r.low); high = omega (arith, r.high) }

-- of a natural number
pub of_natural : (n : ℕ) → Ranges 0 n (pos n)
of_natural n = record { low = omega arith; high = omega arith }

-- two numbers as differences
both_diffs : (f : ℤ → ℤ → ℤ) (x y : ℤ) → f x y ≡ f (sub_ℕ (plus x) (minus x)) (sub_ℕ (plus y) (minus y))
both_diffs f x y = λ i. f (as_diff x i) (as_diff y i)

-- of a sum
of_sum : {a b c d : ℕ} (x y : ℤ) → Ranges a b x → Ranges c d y → Ranges (a + c) (b + d) (x +ℤ y)
of_sum x y r s =
    subst (Ranges _ _) (sym (both_diffs ◌+ℤ◌ x y ∙ add_diff (plus x) (minus x) (plus y) (minus y)))
    (widened (omega (arith, r.low, s.low)) (omega (arith, r.high, s.high)) (of_diff (plus x + plus y) (minus x + minus y)))

-- of a product x·z: where x is negative, the two ends change places
pub of_product : {a b : ℕ} (x z : ℤ) → Ranges a b z → Ranges (plus x * a + minus x * b) (plus x * b + minus x * a) (x *ℤ z)
of_product x z r =
    let pp = mul-le-mul_left (plus x) r.high in
    let pm = mul-le-mul_left (plus x) r.low in
    let mp = mul-le-mul_left (minus x) r.high in
    let mm = mul-le-mul_left (minus x) r.low in
    subst (Ranges _ _) (sym (both_diffs ◌*ℤ◌ x z ∙ mul_diff (plus x) (minus x) (plus z) (minus z)))
    (widened (omega (arith, pm, mp)) (omega (arith, pp, mm)) (of_diff (plus x * plus z + minus x * minus z) (plus x * minus z + minus x * plus z)))

-- of n numbers, added up
pub of_sums : (n : ℕ) (f g : ℕ → ℕ) (z : ℕ → ℤ) → ((i : ℕ) → i < n → Ranges (f i) (g i) (z i)) → Ranges (sum n f) (sum n g) (sumℤ n z)
unfolding sum sumℤ
of_sums zero f g z p = of_natural 0
of_sums (suc n) f g z p = of_sum (sumℤ n z) (z n) (of_sums n f g z (λ i l. p i (omega arith))) (p n (omega arith))

-- a number that is near enough to 0 has room in a signed width
pub in_width : (w : Width) {a b : ℕ} (z : ℤ) → Ranges a b z → a < 2 ^ hbits w → b < 2 ^ hbits w → SFits w z
in_width w (pos n) r p q = record { sfits = omega (arith, r.high) }
in_width w (negsuc n) r p q = record { sfits = omega (arith, r.low) }

-- and so has a sum with one number more
pub next_in_width : (w : Width) {a b : ℕ} (z : ℕ → ℤ) (n : ℕ) → Ranges a b (sumℤ (n + 1) z) → a < 2 ^ hbits w → b < 2 ^ hbits w → SFits w (sumℤ n z +ℤ z n)
next_in_width w z n r p q = rw (← sumℤ_more n z) (in_width w (sumℤ (n + 1) z) r p q)
