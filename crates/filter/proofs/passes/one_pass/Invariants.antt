-- after j rows of the pass they are in their places.
use Rattle.std.proofs.Common.{◌≡◌, ◌*◌, take}
use Rattle.arithmetic.specs.Lists.{joined}
use Rattle.filter.specs.Median.{pass_row}
use Rattle.filter.proofs.passes.one_pass.Given as goal

abbrev pub invariant-loop-j : goal.invariant-loop-j
invariant-loop-j l = take (l.j * l.width) l.out ≡ joined l.j (pass_row l.width l.values)
