-- A proof of what is written, where antt finds it by comparing numbers; of every row of a table; and a test of every number below n,
-- computed at once. Assumes nothing.
use mathlib.Core.Path.{◌≡◌, sym, subst}
use mathlib.Core.Bool.{Bool, true, false, ◌&&◌}
use mathlib.Core.List.{List, [], ◌∷◌}
use mathlib.Core.Logic.{⊎_elim}
use Prim.Native.Nat.{ℕ, zero, suc, ◌<◌}
use native.Mathlib.Nat.{le_of_suc-le-suc, eq-or-lt_of_le}
use native.Mathlib.Omega.{arith}
use lib.Dec.{T}
use mathlib.Core.Option.{Option, none, some, map}
use Rattle.answers.specs.Refusals.{Unless}
use Rattle.answers.proofs.Refusals.{stops, goes_on}

-- a proof, where the test finds one
unfoldable pub when : {P : Type 0} → Dec P → Option P
when (yes p) = some p
when (no f) = none

-- a proof of one test in a chain of refusals
unfoldable pub unless : {P A B : Type 0} → Dec P → Option A → Option B → Option (Unless P A B)
unless (yes p) a b = map (goes_on p) b
unless (no f) a b = map (stops f) a

-- every row of a table holds; and a proof of that, where each row has one
abbrev pub EveryRow : {A : Type 0} → (A → Type 0) → List A → Type 0
EveryRow Holds [] = Unit {0}
EveryRow Holds (r ∷ l) = Holds r × EveryRow Holds l

unfoldable pub every_row : {A : Type 0} (Holds : A → Type 0) → ((r : A) → Option (Holds r)) → (l : List A) → Option (EveryRow Holds l)
every_row Holds holds [] = some tt
every_row Holds holds (r ∷ l) = elim (holds r) [
  | some p ↦ map (λ rest. (p, rest)) (every_row Holds holds l)
  | none ↦ none
]

-- a test of every number below n, computed at once
abbrev pub every : (ℕ → Bool) → ℕ → Bool
every f zero = true
every f (suc n) = f n && every f n

both : (a b : Bool) → T (a && b) → T a × T b
both true b h = (tt, h)
both false b h = absurd h

-- and so of each of them
pub each : (f : ℕ → Bool) (n : ℕ) → T (every f n) → (k : ℕ) → k < n → T (f k)
each f zero h k less = absurd (let no : ⊥ = omega arith in no)
each f (suc n) h k less = ⊎_elim
    (λ (e : k ≡ n). subst (λ (m : ℕ). T (f m)) (sym e) (both (f n) (every f n) h).0)
    (λ (l : k < n). each f n (both (f n) (every f n) h).1 k l)
    (eq-or-lt_of_le (le_of_suc-le-suc less))
