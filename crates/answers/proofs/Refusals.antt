-- Laws of the chain of refusals, and of a function that says whether something holds. Assumes nothing.
use mathlib.Core.Path.{◌≡◌, sym, ◌∙◌}
use mathlib.Core.Bool.{Bool, true, false, not, true≢false}
use mathlib.Core.Logic.{inl, inr}
use borrow.Author.Tests.{not-true, not-false}
use Rattle.answers.specs.Refusals.{Unless}

-- a call that stops here, and one that goes on
pub stops : {P A B : Type 0} → ¬ P → A → Unless P A B
stops out a = inl (out, a)

pub goes_on : {P A B : Type 0} → P → B → Unless P A B
goes_on ok b = inr (ok, b)

-- past a test that holds
pub past : {P A B : Type 0} → P → Unless P A B → B
past ok (inl a) = absurd (a.0 ok)
past ok (inr b) = b.1

-- two that are equal to a third, as the answers of two calls that stop at the same place are
pub alike : {A : Type 0} {x y z : A} → x ≡ z → y ≡ z → x ≡ y
alike p q = p ∙ sym q

-- two outcomes of one chain stop at the same place: what holds of two that stopped, and of two that went on, holds of both
pub together : {P A B A' B' R : Type 0} → (A → A' → R) → (B → B' → R) → Unless P A B → Unless P A' B' → R
together f g (inl a) (inl b) = f a.1 b.1
together f g (inl a) (inr b) = absurd (a.0 b.0)
together f g (inr a) (inl b) = absurd (b.0 a.0)
together f g (inr a) (inr b) = g a.1 b.1

-- what stops there and what goes on, each said in other words
pub carried : {P A B A' B' : Type 0} → (A → A') → (B → B') → Unless P A B → Unless P A' B'
carried f g (inl a) = inl (a.0, f a.1)
carried f g (inr b) = inr (b.0, g b.1)

-- a function that says whether P holds: what its answer r tells a caller who asks for the contrary, as in `if !f(..)`
pub told_no : {P : Type 0} {r : Bool} → Unless P (r ≡ false) (r ≡ true) → not r ≡ true → ¬ P
told_no (inl out) h = out.0
told_no {P} {r} (inr ok) h = absurd (true≢false (sym ok.1 ∙ not-true r h))

pub told_yes : {P : Type 0} {r : Bool} → Unless P (r ≡ false) (r ≡ true) → not r ≡ false → P
told_yes {P} {r} (inl out) h = absurd (true≢false (sym (not-false r h) ∙ out.1))
told_yes (inr ok) h = ok.0
