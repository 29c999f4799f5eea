-- Laws of a picture's shape: how many pixels there are, and what each number says. Assumes nothing.
use mathlib.Core.Path.{◌≡◌}
use mathlib.Core.Logic.{inl, inr}
use Prim.Native.Nat.{ℕ, ◌*◌, ◌≤◌}
use native.Mathlib.Nat.{mul-le-mul}
use native.Mathlib.Omega.{arith}
use Rattle.answers.specs.Refusals.{Unless}
use Rattle.answers.proofs.Refusals.{goes_on, carried}
use Rattle.picture.specs.Picture.{Side, Shaped}

-- a picture has at most 1,048,576 pixels
pub pixels : (w h : ℕ) → Side w × Side h → w * h ≤ 1048576
pixels w h s = mul-le-mul s.0.1 s.1.1

-- a shape that neither 1 nor 2 refuses
pub record WellShaped (levels w h : ℕ) : Type 0 where
  pub sides : Side w × Side h
  pub all_levels : levels ≡ w * h

-- a call on it goes on past both
pub passes_both : {levels w h : ℕ} {A B C : Type 0} → WellShaped levels w h → C → Unless (Side w × Side h) A (Unless (levels ≡ w * h) B C)
passes_both s rest = goes_on s.sides (goes_on s.all_levels rest)

module _ (levels w h r : ℕ) where
  -- where the number is 0, neither does
  pub well_shaped : r ≡ 0 → Shaped levels w h (λ n. r ≡ n) (r ≡ 0) → WellShaped levels w h
  well_shaped z (inl a) = absurd (let is = a.1 in let no : ⊥ = omega arith in no)
  well_shaped z (inr (s, inl a)) = absurd (let is = a.1 in let no : ⊥ = omega arith in no)
  well_shaped z (inr (s, inr (l, d))) = record { sides = s; all_levels = l }

  -- any other number, handed on, is what a caller's own promise asks for, whatever the caller does past both tests
  pub misshapen : {answer : ℕ → Type 0} {done : Type 0} → (r ≡ 0 → ⊥) → ((n : ℕ) → r ≡ n → answer n) → Shaped levels w h (λ n. r ≡ n) (r ≡ 0) → Shaped levels w h answer done
  misshapen some says = carried (says 1) (carried (says 2) (λ z. absurd (some z)))
