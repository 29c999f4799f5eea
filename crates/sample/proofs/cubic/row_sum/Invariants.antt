-- Before level t the sum has the terms of the levels before it.
use Rattle.std.proofs.Common.{◌≡◌}
use Rattle.arithmetic.specs.Sums.{sumℤ}
use Rattle.sample.specs.Asked.{column_term}
use Rattle.sample.proofs.cubic.row_sum.Given as goal

abbrev pub invariant-loop-t : goal.invariant-loop-t
invariant-loop-t l = l.sum ≡ sumℤ l.t (column_term l.levels l.at l.column.remainder)
