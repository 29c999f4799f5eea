-- Laws of the ratio: the two sides of its condition, how large they are, a power of two below the root, the interval in which
-- halving finds the ratio, and that it is determined. Assumes nothing.
use mathlib.Core.Path.{◌≡◌, refl, sym, ap, subst, ◌∙◌}
use mathlib.Core.Bool.{Bool, true, false}
use mathlib.Core.Logic.{inl, inr, ⊎_elim}
use Prim.Native.Nat.{ℕ, suc, ◌+◌, ◌-◌, ◌*◌, ◌/◌, ◌%◌, ◌^◌, ◌<◌, ◌≤◌, zero-le}
use native.Mathlib.Nat.{mul-le-mul, mul-le-mul_left, mul-le-mul_right, le_trans, le-div_iff_mul-le, div-le_self}
use native.Mathlib.Nat.{pow-le-pow_right, pow-suc, not-le_of_lt}
use Rattle.std.proofs.lemmas.Nat.{pow-add}
use native.Mathlib.Omega.{arith}
use lib.Dec.{leb, lit<, lit≤}
use borrow.Author.Tests.{leb-true, leb-false}
use Rattle.arithmetic.specs.Greatest.{Greatest, Between}
use Rattle.arithmetic.proofs.Order.{le_or_lt, of_squares}
use Rattle.arithmetic.proofs.Greatest.{Falling, one_greatest, reworded}
use Rattle.judge.specs.Judge.{Reaches, RatioIs}
use Rattle.judge.proofs.Digits.{product_room}

-- ---- comparing the two sides: the left one times q + 138, once and twice, has room in ten digits
module _ {v q : ℕ} (left : v ≤ 2 ^ 70) (number : q ≤ 2 ^ 42) where
  small : q + 138 ≤ 2 ^ 43
  small = omega arith

  -- once
  pub once_room : v * (q + 138) < 65536 ^ 10
  once_room = product_room left small (lit< tt)

  -- and twice
  pub twice_room : {once : ℕ} → once ≡ v * (q + 138) → once * (q + 138) < 65536 ^ 10
  twice_room e = rw e (product_room (mul-le-mul left small) small (lit< tt))

-- a number times x twice is that number times the square of x
pub twice_is_square : (v x : ℕ) {once twice : ℕ} → once ≡ v * x → twice ≡ once * x → twice ≡ x * x * v
twice_is_square v x e f = rw (f, e) (omega arith)

-- what the answer of a comparison says
pub answered_yes : (m n : ℕ) {r : Bool} → r ≡ leb m n → r ≡ true → m ≤ n
answered_yes m n e h = leb-true m n (sym e ∙ h)

-- and where it says no
pub answered_no : (m n : ℕ) {r : Bool} → r ≡ leb m n → r ≡ false → ¬ (m ≤ n)
answered_no m n e h = not-le_of_lt (leb-false m n (sym e ∙ h))

-- ---- a power of two below the root
-- p is at most the root of d, and more than half of it
abbrev pub BelowRoot : ℕ → ℕ → Type 0
BelowRoot d p = (1 ≤ p) × (p ≤ 2 ^ 31) × (p * p ≤ d) × (d < 4 * (p * p))

-- `rest` is d divided by 4, rounded down, as often as the power was doubled
pub record Quartered (d power rest : ℕ) : Type 0 where
  pub power_some : 1 ≤ power
  pub rest_some : 1 ≤ rest
  pub low : power * power * rest ≤ d
  pub high : d < power * power * (rest + 1)

-- before the first turn
pub quartered_none : {d : ℕ} → 1 ≤ d → Quartered d 1 d
quartered_none h = record { power_some = omega arith; rest_some = h; low = omega arith; high = omega arith }

module _ {d power rest : ℕ} (q : Quartered d power rest) where
  -- one turn more
  pub quartered_more : 4 ≤ rest → Quartered d (power * 2) (rest / 4)
  quartered_more h =
      let square = power * power in
      let down : 4 * (rest / 4) ≤ rest = omega arith in
      let up : rest + 1 ≤ 4 * (rest / 4 + 1) = omega arith in
      record {
        power_some = omega (arith, q.power_some);
        rest_some = omega arith;
        low = omega (arith, mul-le-mul_left square down, q.low);
        high = omega (arith, mul-le-mul_left square up, q.high);
      }

  -- the power's square is at most d all along
  square_most : power * power ≤ d
  square_most = omega (arith, mul-le-mul_left (power * power) q.rest_some, q.low)

  -- so the power has at most half the bits
  pub power_most : d ≤ 2 ^ 62 → power ≤ 2 ^ 31
  power_most h = of_squares (le_trans square_most h)

  -- after the last turn the power is the one below the root
  pub quartered_last : d ≤ 2 ^ 62 → rest ≤ 3 → BelowRoot d power
  quartered_last h last =
      (q.power_some, power_most h, square_most, omega (arith, mul-le-mul_left (power * power) last, q.high))

-- half of d's bits
pub below_root : (d n : ℕ) → n < 64 → 2 ^ n ≤ d → d < 2 * 2 ^ n → BelowRoot d (1 * 2 ^ (n / 2) % 2 ^ 64)
below_root d n bits low high =
    let root : BelowRoot d p = (some, pow-le-pow_right (lit< tt) few, le_trans (rw double at more) low, omega (arith, high, rw double at less)) in
    subst (BelowRoot d) whole root
  where
    p : ℕ
    p = 2 ^ (n / 2)

    few : n / 2 ≤ 31
    few = omega arith

    some : 1 ≤ p
    some = pow-le-pow_right (lit< tt) {i = 0} {j = n / 2} (omega arith)

    double : 2 ^ (n / 2 + n / 2) ≡ p * p
    double = pow-add 2 (n / 2) (n / 2)

    more : 2 ^ (n / 2 + n / 2) ≤ 2 ^ n
    more = pow-le-pow_right (lit< tt) (omega arith)

    less : 2 ^ n ≤ 2 * 2 ^ (n / 2 + n / 2)
    less =
        let up : 2 ^ n ≤ 2 ^ suc (n / 2 + n / 2) = pow-le-pow_right (lit< tt) (omega arith) in
        omega (arith, pow-suc 2 (n / 2 + n / 2), up)

    whole : p ≡ 1 * p % 2 ^ 64
    whole =
        let most : p ≤ 2 ^ 31 = pow-le-pow_right (lit< tt) few in
        omega (arith, most)

-- ---- the condition
-- what the code compares: the document's inequality, of the two sides as they stand in the code
abbrev pub Compared : ℕ → ℕ → ℕ → Type 0
Compared left right q = (q + 138) * (q + 138) * left ≤ right

-- what holds of a number, holds of each smaller one
pub compared_falls : (left right : ℕ) → Falling (Compared left right)
compared_falls left right j k le h =
    let more : j + 138 ≤ k + 138 = omega arith in
    le_trans (mul-le-mul_right left (mul-le-mul more more)) h

-- 100·(M − m)·N
abbrev pub product : ℕ → ℕ → ℕ
product N span = 100 * span * N

-- how large it is
pub product_most : {N span : ℕ} → N ≤ 1048576 → span ≤ 32640 → product N span ≤ 3422552064000
product_most {N} {span} n s = mul-le-mul (mul-le-mul_left 100 s) n

-- how large the end of the halving's interval is, a quotient of the product less 137
pub end_most : {n : ℕ} (d : ℕ) → n ≤ 3422552064000 → n / d - 137 ≤ 2 ^ 42
end_most {n} d h = omega (arith, div-le_self n d)

-- the product's square is the right side of the document
product_squared : (N span : ℕ) → product N span * product N span ≡ 10_000 * (span * span) * (N * N)
product_squared N span = omega arith

-- the two sides as the code has them: 256·D, and the product's square
pub record Sides (N span D left right : ℕ) : Type 0 where
  pub left_is : left ≡ D * 256
  pub right_is : right ≡ product N span * product N span

-- as they are made
pub sides_are : (N span : ℕ) {D d right : ℕ} → d ≡ D → right ≡ product N span * product N span → Sides N span D (d * 256) right
sides_are N span is right_is = record { left_is = ap (λ (n : ℕ). n * 256) is; right_is = right_is }

module _ {N span D left right : ℕ} (sides : Sides N span D left right) where
  -- how large the left one is
  pub left_most : D ≤ 2 ^ 62 → left ≤ 2 ^ 70
  left_most h = omega (arith, sides.left_is)

  -- how large the right one is
  pub right_most : N ≤ 1048576 → span ≤ 32640 → right ≤ 2 ^ 84
  right_most n s =
      let most : product N span ≤ 2 ^ 42 = le_trans (product_most n s) (lit≤ tt) in
      rw sides.right_is (le_trans (mul-le-mul most most) (lit≤ tt))

  -- they are the document's
  document_left : (n : ℕ) → n * left ≡ n * 256 * D
  document_left n = rw sides.left_is (omega arith)

  document_right : right ≡ 10_000 * (span * span) * (N * N)
  document_right = sides.right_is ∙ product_squared N span

  -- so comparing them says the same
  to_document : (q : ℕ) → Compared left right q → Reaches N span D q
  to_document q h = rw (← document_left ((q + 138) * (q + 138)), ← document_right) h

  of_document : (q : ℕ) → Reaches N span D q → Compared left right q
  of_document q h = rw (document_left ((q + 138) * (q + 138)), document_right) h

  -- 16·p is at most the root of the left side, and 32·p is above it
  module _ {p : ℕ} (root : BelowRoot D p) where
    -- so a number that reaches is, with 138, at most the product over 16·p
    at_most_16th : (k : ℕ) → Compared left right k → k + 138 ≤ product N span / (16 * p)
    at_most_16th k h =
        let x = k + 138 in
        let some : 0 < 16 * p = omega (arith, root.0) in
        (le-div_iff_mul-le some).1 (of_squares (omega (arith, mul-le-mul_left (x * x * 256) root.2, document_left (x * x), h, sides.right_is)))

    -- and a number that is, with 138, at most the product over 32·p reaches
    reaches_32nd : (k : ℕ) → k + 138 ≤ product N span / (32 * p) → Compared left right k
    reaches_32nd k h =
        let x = k + 138 in
        let some : 0 < 32 * p = omega (arith, root.0) in
        let within : x * (32 * p) ≤ product N span = (le-div_iff_mul-le some).0 h in
        omega (arith, mul-le-mul within within, mul-le-mul_left (x * x * 256) root.3, document_left (x * x), sides.right_is)

    -- where 0 reaches, the product over 16·p is at least 138
    pub quotient_least : Compared left right 0 → 138 ≤ product N span / (16 * p)
    quotient_least = at_most_16th 0

    -- and halving starts from the product over 32·p to that over 16·p, the one less 138 and the other less 137
    pub starts : {lo : ℕ} → lo ≡ product N span / (32 * p) - 138 → Compared left right 0
        → Between (Compared left right) lo (product N span / (16 * p) - 137)
    starts {lo} e at-0 =
        record {
          low = ⊎_elim
              (λ le. compared_falls left right lo 0 (omega (arith, le)) at-0)
              (λ lt. reaches_32nd lo (omega (arith, lt)))
              (le_or_lt (product N span / (32 * p)) 138);
          high = λ (k : ℕ) (h : Compared left right k). omega (arith, at_most_16th k h);
        }

  -- what halving finds is the ratio
  pub found : {q : ℕ} → Greatest (Compared left right) q → RatioIs N span D q
  found g = inl (reworded to_document of_document g)

  -- where 0 does not reach, there is none
  pub none_found : ¬ Compared left right 0 → RatioIs N span D 0
  none_found past = inr ((λ (k : ℕ) h. past (compared_falls left right 0 k zero-le (of_document k h))), refl)

-- ---- for every N, M − m and D
-- where the ratio is q hundredths or more, it is so for each smaller q
pub reaches_falls : (N span D : ℕ) → Falling (Reaches N span D)
reaches_falls N span D j k le h = to_document sides j (compared_falls (D * 256) (product N span * product N span) j k le (of_document sides k h))
  where
    sides : Sides N span D (D * 256) (product N span * product N span)
    sides = record { left_is = refl; right_is = refl }

-- any two numbers that are the ratio are equal
pub one_ratio : (N span D q k : ℕ) → RatioIs N span D q → RatioIs N span D k → q ≡ k
one_ratio N span D q k (inl a) (inl b) = one_greatest a b
one_ratio N span D q k (inl a) (inr b) = absurd (b.0 q a.holds)
one_ratio N span D q k (inr a) (inl b) = absurd (a.0 k b.holds)
one_ratio N span D q k (inr a) (inr b) = a.1 ∙ sym b.1
