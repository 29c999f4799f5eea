-- Whether each of some values is at most b is determined. (The other calls of this crate promise an equation.) Assumes nothing.
use mathlib.Core.Path.{◌≡◌}
use mathlib.Core.Bool.{Bool, true, false}
use mathlib.Core.List.{List}
use Prim.Native.Nat.{ℕ}
use Rattle.arithmetic.specs.Lists.{AtMost}
use Rattle.answers.specs.Refusals.{Unless}
use Rattle.answers.proofs.Refusals.{alike, together}

pub one_at_most : (values : List ℕ) (most : ℕ) (a b : Bool) → Unless (AtMost most values) (a ≡ false) (a ≡ true)
    → Unless (AtMost most values) (b ≡ false) (b ≡ true) → a ≡ b
one_at_most values most a b = together alike alike
