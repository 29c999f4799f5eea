-- The length of a sharpness is determined. Assumes nothing.
use mathlib.Core.Path.{◌≡◌, sym, ap}
use Rattle.std.specs.Prelude.{Result, Ok, Err}
use Rattle.answers.specs.declared.Refusal.{Refusal}
use Rattle.answers.proofs.Numbers.{one_refusal, some_number}
use Rattle.answers.proofs.Refusals.{alike, together}
use Rattle.arithmetic.proofs.Greatest.{one_greatest}
use Rattle.units.specs.declared.Sixteenths.{Sixteenths}
use Rattle.units.specs.declared.Picometres.{Picometres}
use Rattle.length.specs.Length.{Sharpness, sharpness_of, Done, LengthIs}
use Rattle.length.proofs.Laws.{same_answer}

-- any two outcomes that the promise permits are equal
pub one_length : (s : Sixteenths) (p : Picometres) (r r' : Sharpness) → LengthIs s p r → LengthIs s p r' → r ≡ r'
one_length s p r r' = together
    alike
    (λ (g : Done s p r) (h : Done s p r'). same_answer (alike g.number h.number) (one_greatest g.length h.length))

-- what comes back is that of one answer only
one_sharpness : (a b : Result Picometres Refusal) → sharpness_of a ≡ sharpness_of b → a ≡ b
one_sharpness (Ok x) (Ok y) e = ap (λ (s : Sharpness). Ok s.length) e
one_sharpness (Ok x) (Err r) e = absurd (some_number r (sym (ap (λ (s : Sharpness). s.number) e)))
one_sharpness (Err r) (Ok y) e = absurd (some_number r (ap (λ (s : Sharpness). s.number) e))
one_sharpness (Err r) (Err q) e = ap Err (one_refusal r q (ap (λ (s : Sharpness). s.number) e))

-- so any two answers that the promise permits are equal
pub one_length_answer : (s : Sixteenths) (p : Picometres) (a b : Result Picometres Refusal) → LengthIs s p (sharpness_of a) → LengthIs s p (sharpness_of b) → a ≡ b
one_length_answer s p a b is is' = one_sharpness a b (one_length s p (sharpness_of a) (sharpness_of b) is is')
