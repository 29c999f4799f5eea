-- What the calls may answer and leave is determined: two outcomes that a promise permits are one. Assumes nothing.
use mathlib.Core.Path.{◌≡◌}
use mathlib.Core.List.{List}
use Prim.Native.Nat.{ℕ}
use Rattle.answers.proofs.Refusals.{alike, together}
use Rattle.scan.specs.Scan.{Scanned, RowsIs, EndIs}

pub one_rows : (held levels output : List ℕ) (a b : Scanned) → RowsIs held levels output a → RowsIs held levels output b → a ≡ b
one_rows held levels output a b = together alike (together alike (together alike (together alike alike)))

pub one_end : (held output : List ℕ) (a b : Scanned) → EndIs held output a → EndIs held output b → a ≡ b
one_end held output a b = together alike (together alike (together alike alike))
