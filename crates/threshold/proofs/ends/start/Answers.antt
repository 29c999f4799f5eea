-- The usual start is kept between the two ends, which are in order.
use Rattle.std.proofs.Common.{arith}
use Rattle.threshold.proofs.Present.{in_order, start_is}
use Rattle.threshold.proofs.ends.start.Goals as goal

pub clamp-requires : goal.clamp-requires
clamp-requires c = omega (arith, in_order c.args.histogram.now c.requires)

pub returns : goal.returns
returns c = start_is c.args.usual c.args.histogram.now c.requires (rw (← c.lowest.ensures, ← c.highest.ensures) c.clamp.ensures)
