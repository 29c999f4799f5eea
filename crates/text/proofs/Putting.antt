-- Texts put into a block: digits, a sign before them, a byte after them. Assumes nothing.
use Rattle.std.proofs.Common.{◌≡◌, ℕ, suc, ◌+◌, ◌<◌, ◌≤◌, true, false, List, [], ◌∷◌, length, set}
use Rattle.std.proofs.Common.{ℤ, pos, negsuc, nat_abs, refl, ap, ◌∙◌, subst, true≢false, arith, lit≤, ltb-true}
use lib.Signed.{lt_z}
use Rattle.arithmetic.specs.Lists.{over}
use Rattle.arithmetic.specs.Signed.{nat_of}
use Rattle.answers.proofs.Refusals.{goes_on}
use Rattle.arithmetic.proofs.Writing.{over_one, over_both, length_over}
use Rattle.text.specs.Text.{Spelled, SpelledSigned, Block, block, PutIs}
use Rattle.text.specs.Inside.{Digits, WithSign}
use Rattle.text.proofs.Spelling.{one_digit}

-- one digit, stored
pub digit_put : (before : List ℕ) (at n : ℕ) → n < 10 → at < length before
    → Digits (Spelled n) 20 before at (block (at + 1) (set before at (48 + n)))
digit_put before at n small room =
    record {
      text = (48 + n) ∷ [];
      says = one_digit n small;
      short = lit≤ tt;
      put = ap (block (at + 1)) (over_one before at (48 + n) room);
    }

-- a sign stored, and then the digits
pub with_sign_put : (before : List ℕ) (at n : ℕ) (r : Block) → at < length before → Digits (Spelled n) 20 (set before at 45) (at + 1) r
    → Digits (WithSign true n) 21 before at r
with_sign_put before at n r room d =
    let t = d.text in
    let start : set before at 45 ≡ over before at (45 ∷ []) = over_one before at 45 room in
    let end : at + 1 + length t ≡ at + suc (length t) = omega arith in
    record {
      text = 45 ∷ t;
      says = (t, (refl, d.says));
      short = omega (arith, d.short);
      put =
          d.put
          ∙ ap (block (at + 1 + length t)) (ap (λ (l : List ℕ). over l (at + 1) t) start ∙ over_both before at (45 ∷ []) t (omega arith))
          ∙ ap (λ (e : ℕ). block e (over before at (45 ∷ t))) end;
    }

-- and the digits of how far a signed number is below 0
pub sign_put : (before : List ℕ) (at m : ℕ) (v : ℤ) (r : Block) → at < length before → lt_z v (pos 0) ≡ true → m ≡ nat_abs v
    → Digits (Spelled m) 20 (set before at 45) (at + 1) r → Digits (SpelledSigned v) 21 before at r
sign_put before at m (pos n) r room negative is d = let no : n < 0 = ltb-true n 0 negative in absurd (let z : ⊥ = omega arith in z)
sign_put before at m (negsuc n) r room negative is d =
    subst (λ (x : ℕ). Digits (WithSign true x) 21 before at r) is (with_sign_put before at m r room d)

-- the digits of a number that is not below 0
pub no_sign_put : (before : List ℕ) (at m : ℕ) (v : ℤ) (r : Block) → lt_z v (pos 0) ≡ false → m ≡ nat_of v
    → Digits (Spelled m) 20 before at r → Digits (SpelledSigned v) 21 before at r
no_sign_put before at m (negsuc n) r not_negative is d = absurd (true≢false not_negative)
no_sign_put before at m (pos n) r not_negative is d =
    record { text = d.text; says = subst (λ (x : ℕ). Spelled x d.text) is d.says; short = omega (arith, d.short); put = d.put }

-- digits of at most 21 bytes, and the byte after them
module _ (Says : List ℕ → Type 0) (most : ℕ) (before bytes : List ℕ) (at after end : ℕ) (few : most ≤ 21) (room : at + 22 ≤ length before)
    (d : Digits Says most before at (block end bytes)) where
  ends : end ≡ at + length d.text
  ends = ap (λ (b : Block). b.end) d.put

  are : bytes ≡ over before at d.text
  are = ap (λ (b : Block). b.bytes) d.put

  -- there is a place for it
  pub place_after : end < length bytes
  place_after = rw are (omega (arith, ends, d.short, length_over before at d.text (omega (arith, d.short))))

  pub after_put : PutIs Says before at after (block (end + 1) (set bytes end after))
  after_put =
      goes_on room
      (record {
        text = d.text;
        says = d.says;
        inside = omega (arith, ends, d.short);
        put =
            ap (block (end + 1)) (over_one bytes end after place_after)
            ∙ (λ i. block (ends i + 1) (over (are i) (ends i) (after ∷ [])))
            ∙ ap (block (at + length d.text + 1)) (over_both before at d.text (after ∷ []) (omega arith));
      })
