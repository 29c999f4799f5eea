-- Laws of numbers as text: one digit, how many digits there are; and that a number has one text. Assumes nothing.
use Rattle.std.proofs.Common.{◌≡◌, ℕ, suc, ◌+◌, ◌-◌, ◌%◌, ◌^◌, ◌<◌, ◌≤◌, List, [], ◌∷◌, length, ℤ, pos, negsuc}
use Rattle.std.proofs.Common.{sym, refl, ap, ◌∙◌, le_trans, le_refl, not-le_of_lt, arith, lit<, lit≤, lt-ltb, ◌≡◌, ℕ, suc, ◌+◌, ◌-◌, ◌%◌, ◌^◌, ◌<◌, ◌≤◌, List, [], ◌∷◌, length, ℤ, pos, negsuc}
use native.Mathlib.Nat.{pow-le-pow_right}
use native.Mathlib.Decide.{dec_lt}
use Rattle.io.specs.Digits.{last_digits, IsDigitCount}
use Rattle.text.specs.Text.{Spelled, SpelledSigned}

-- a number below 10 has one digit
pub one_digit : (n : ℕ) → n < 10 → Spelled n ((48 + n) ∷ [])
one_digit n small = record { fewest = (le_refl 1, omega arith, λ more. omega arith); digits_are = digit }
  where
    last : n % 10 ≡ n
    last = omega arith

    digit : ◌≡◌ {A = List ℕ} ((48 + n) ∷ []) (last_digits 10 1 n)
    digit = rw (last, lt-ltb n 10 small)

-- ---- a number has one text
-- no fewest digits are more than other fewest ones
not_more : (n k l : ℕ) → IsDigitCount 10 1 n k → IsDigitCount 10 1 n l → k ≤ l
not_more n k l a b = elim (dec_lt l k) [
  | no few ↦ omega arith
  | yes more ↦
      let least : 10 ^ (k - 1) ≤ n = a.2 (omega (arith, b.0)) in
      let fewer : l ≤ k - 1 = omega arith in
      let large : 10 ^ l ≤ 10 ^ (k - 1) = pow-le-pow_right (lit< tt) fewer in
      absurd (not-le_of_lt b.1 (le_trans large least))
]

pub one_text : (n : ℕ) (a b : List ℕ) → Spelled n a → Spelled n b → a ≡ b
one_text n a b p q =
    let most = not_more n (length a) (length b) p.fewest q.fewest in
    let least = not_more n (length b) (length a) q.fewest p.fewest in
    let same : length a ≡ length b = omega arith in
    p.digits_are ∙ ap (λ (k : ℕ). last_digits 10 k n) same ∙ sym q.digits_are

pub one_signed_text : (v : ℤ) (a b : List ℕ) → SpelledSigned v a → SpelledSigned v b → a ≡ b
one_signed_text (pos n) a b p q = one_text n a b p q
one_signed_text (negsuc n) a b p q =
    p.1.0 ∙ ap (λ (l : List ℕ). 45 ∷ l) (one_text (suc n) p.0 q.0 p.1.1 q.1.1) ∙ sym q.1.0

-- ---- texts that one can read
-- "1131", and "-5"
pub reads_1131 : Spelled 1131 (49 ∷ 49 ∷ 51 ∷ 49 ∷ [])
reads_1131 = record { fewest = (lit≤ tt, lit< tt, λ more. lit≤ tt); digits_are = refl }

pub reads_minus_5 : SpelledSigned (negsuc 4) (45 ∷ 53 ∷ [])
reads_minus_5 = (53 ∷ [], (refl, record { fewest = (lit≤ tt, lit< tt, λ more. omega arith); digits_are = refl }))

-- a number of 64 bits has at most 20
pub few_digits : (n k : ℕ) → n < 2 ^ 64 → IsDigitCount 10 1 n k → k ≤ 20
few_digits n k small fewest = elim (dec_lt 20 k) [
  | no few ↦ omega arith
  | yes many ↦
      let least : 10 ^ (k - 1) ≤ n = fewest.2 (omega arith) in
      let more : 20 ≤ k - 1 = omega arith in
      let large : 10 ^ 20 ≤ 10 ^ (k - 1) = pow-le-pow_right (lit< tt) more in
      absurd (not-le_of_lt small (le_trans (lit≤ tt) (le_trans large least)))
]
