-- Each turn counts one value more, and there is room for it.
use Rattle.std.proofs.Common.{arith}
use Rattle.threshold.proofs.Histograms.{counts_none, counts_more, counts_room}
use Rattle.threshold.proofs.counting.counts_of.Goals as goal

pub loop-value-init : goal.loop-value-init
loop-value-init c = counts_none c.args.values.now

pub overflow_add-counts : goal.overflow_add-counts
overflow_add-counts c =
    let room = counts_room c.args.values.now c.requires c.loop-value.value-index c.loop-value.counts (omega arith) c.loop-value.invariant in
    omega (arith, rw (← c.from.ensures) at room)

pub loop-value-preserved : goal.loop-value-preserved
loop-value-preserved c =
    rw c.from.ensures
    (counts_more c.args.values.now c.requires c.loop-value.value-index c.loop-value.counts c.loop-value.invariant)
