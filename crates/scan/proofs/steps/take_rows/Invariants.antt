-- after i turns i rows have come (`Taken`).
use mathlib.Core.Path.{◌≡◌}
use mathlib.Core.List.{List}
use Prim.Native.Nat.{ℕ}
use lib.ListN.{length}
use Rattle.memory.specs.Memory.{row_at}
use Rattle.scan.proofs.Taking.{Taken}
use Rattle.scan.proofs.steps.take_rows.Given as goal

-- what holds before turn i
pub record Turn (w h k each n : ℕ) (levels rows₀ output₀ rows output widened halves quarters : List ℕ) (i done : ℕ) : Type 0 where
  pub widened_long : length widened ≡ 1024
  pub halves_long : length halves ≡ 1024
  pub quarters_long : length quarters ≡ 1024
  pub rows_long : length rows ≡ length rows₀
  pub output_long : length output ≡ length output₀
  pub taken : Taken w h k rows₀ (row_at each levels) output₀ i done rows output

abbrev pub invariant-loop-i : goal.invariant-loop-i
invariant-loop-i l =
    Turn l.place.width l.place.height l.place.k l.each l.n l.levels l.initial.rows l.initial.output l.rows l.output l.widened l.halves
    l.quarters l.i l.done
