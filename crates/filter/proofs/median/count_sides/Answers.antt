-- at place k both counts are those among the first k (`SidesAre`).
use Rattle.std.proofs.Common.{get_or}
use native.Mathlib.Omega.{arith}
use Rattle.filter.proofs.Ranks.{one_most}
use Rattle.filter.proofs.Search.{sides_more, sides_few}
use Rattle.filter.proofs.median.count_sides.Goals as goal

pub overflow_add-below : goal.overflow_add-below
overflow_add-below c =
    let few = sides_few c.args.levels.now c.args.v c.loop-k.k c.loop-k.below c.loop-k.above (omega arith) c.loop-k.invariant in
    omega (arith, few.0, c.one_below-below.ensures, one_most (get_or c.args.levels.now c.loop-k.k 0) c.args.v)

pub overflow_add-above : goal.overflow_add-above
overflow_add-above c =
    let few = sides_few c.args.levels.now c.args.v c.loop-k.k c.loop-k.below c.loop-k.above (omega arith) c.loop-k.invariant in
    omega (arith, few.1, c.one_below-above.ensures, one_most c.args.v (get_or c.args.levels.now c.loop-k.k 0))

pub loop-k-preserved : goal.loop-k-preserved
loop-k-preserved c =
    rw (c.one_below-below.ensures, c.one_below-above.ensures)
    (sides_more c.args.levels.now c.args.v c.loop-k.k c.loop-k.below c.loop-k.above (omega arith) c.loop-k.invariant)
