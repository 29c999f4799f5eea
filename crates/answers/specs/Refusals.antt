-- The chain of refusals (document 01, "Numbers that come back").
use Rattle.std.specs.Prelude.{◌⊎◌}

-- A where P does not hold, and B where it does. "The lowest number that applies comes back": a chain
-- `Unless P (refused 1) (Unless Q (refused 2) ..)`, in the order of the table, says just that.
abbrev pub Unless : Type 0 → Type 0 → Type 0 → Type 0
Unless P A B = ((¬ P) × A) ⊎ (P × B)
