-- Before row r the sum has the terms of the rows before it.
use Rattle.std.proofs.Common.{◌≡◌}
use Rattle.arithmetic.specs.Sums.{sumℤ}
use Rattle.sample.specs.Asked.{row_term}
use Rattle.sample.proofs.cubic.around.Given as goal

abbrev pub invariant-loop-r : goal.invariant-loop-r
invariant-loop-r l = l.sum ≡ sumℤ l.r (row_term l.levels l.width l.column.pixel l.row.pixel l.column.remainder l.row.remainder)
