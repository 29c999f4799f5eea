-- The measure is the interval's width.
use Rattle.std.proofs.Common.{◌-◌}
use Rattle.length.proofs.+halve.Given as goal

abbrev pub decreases-halve : goal.decreases-halve
decreases-halve l = l.hi - l.lo
