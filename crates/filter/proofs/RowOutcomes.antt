-- What the call for one row may answer and leave; its tests; and a row of no values. Assumes nothing.
use mathlib.Core.Path.{◌≡◌, ◌∙◌}
use mathlib.Core.List.{List, ◌++◌}
use mathlib.Core.Bool.{Bool, true, false}
use mathlib.Core.Logic.{inl, inr}
use Prim.Native.Nat.{ℕ, ◌≤◌}
use lib.ListN.{length, drop}
use lib.Dec.{eqb}
use Rattle.arithmetic.specs.Lists.{joined, AtMost}
use Rattle.arithmetic.proofs.Lists.{no_elements}
use Rattle.answers.proofs.Refusals.{past, stops, goes_on}
use Rattle.filter.specs.Median.{row_of}
use Rattle.filter.specs.Row.{Beside, Small, RowOutcome, row_outcome, RowIs}
use native.Mathlib.Decide.{ℕ_discrete}
use borrow.Author.Tests.{eq-eqb, ne_eqb}
use Rattle.answers.specs.Refusals.{Unless}

-- ---- the tests
-- a row that has values may lie beside one of n where it has as many
pub beside_is : (n values : ℕ) → (values ≡ 0 → ⊥) → Unless (Beside n values) (eqb values n ≡ false) (eqb values n ≡ true)
beside_is n values some = elim (ℕ_discrete values n) [
  | yes e ↦ goes_on (inr e) (eq-eqb values n e)
  | no g ↦ stops (neither g) (ne_eqb values n g)
]
  where
    neither : (values ≡ n → ⊥) → Beside n values → ⊥
    neither g (inl z) = some z
    neither g (inr e) = g e

-- three rows are small where two are and the last of them is
pub small_is : (above here below : List ℕ) (t : Bool) → AtMost 1020 above → AtMost 1020 here
    → Unless (AtMost 1020 below) (t ≡ false) (t ≡ true) → Unless (Small above here below) (t ≡ false) (t ≡ true)
small_is above here below t a h (inl large) = stops (λ all. large.0 all.2) large.1
small_is above here below t a h (inr b) = goes_on (a, h, b.0) b.1

-- ---- any row
-- a row of no values
module _ (above here below : List ℕ) where
  pub none_here : (out : List ℕ) → length here ≡ 0 → length out ≡ length here → out ≡ row_of above here below
  unfolding row_of joined
  none_here out z e = no_elements out (e ∙ z) ∙ rw z

-- ---- the call
-- slices that no number refuses
pub record RowFits (above here below output : List ℕ) : Type 0 where
  pub beside : Beside (length here) (length above) × Beside (length here) (length below)
  pub long_output : length here ≤ length output
  pub small : Small above here below

module _ (above here below output : List ℕ) where
  -- what a caller knows whose slices fit
  pub when_row_fits : (r : RowOutcome) → RowFits above here below output → RowIs above here below output r
      → r ≡ row_outcome 0 (row_of above here below ++ drop (length here) output)
  when_row_fits r f d = past f.small (past f.long_output (past f.beside d))
