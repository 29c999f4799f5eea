-- What is put into a block is determined: for a number, and for a signed one, where the text ends and its every byte. Assumes nothing.
use Rattle.std.proofs.Common.{◌≡◌, ℕ, ◌+◌, List, [], ◌∷◌, ◌++◌, length, ℤ, sym, ap, ◌∙◌}
use Rattle.arithmetic.specs.Lists.{over}
use Rattle.answers.proofs.Refusals.{alike, together}
use Rattle.text.specs.Text.{Spelled, SpelledSigned, Block, block, PutIs}
use Rattle.text.proofs.Spelling.{one_text, one_signed_text}

one_block : (Says : List ℕ → Type 0) → ((a b : List ℕ) → Says a → Says b → a ≡ b) → (before : List ℕ) (at after : ℕ) (r r' : Block)
    → PutIs Says before at after r → PutIs Says before at after r' → r ≡ r'
one_block Says one before at after r r' =
    together alike
    (λ p q. p.put
    ∙ ap (λ (t : List ℕ). block (at + length t + 1) (over before at (t ++ (after ∷ [])))) (one p.text q.text p.says q.says)
    ∙ sym q.put)

pub one_number : (before : List ℕ) (at n after : ℕ) (r r' : Block) → PutIs (Spelled n) before at after r
    → PutIs (Spelled n) before at after r' → r ≡ r'
one_number before at n after = one_block (Spelled n) (one_text n) before at after

pub one_signed : (before : List ℕ) (at : ℕ) (v : ℤ) (after : ℕ) (r r' : Block) → PutIs (SpelledSigned v) before at after r
    → PutIs (SpelledSigned v) before at after r' → r ≡ r'
one_signed before at v after = one_block (SpelledSigned v) (one_signed_text v) before at after
