-- at place k both counts are those among the first k (`SidesAre`).
use lib.ListN.{take}
use Rattle.filter.specs.Counting.{SidesAre}
use Rattle.filter.proofs.median.count_sides.Given as goal

abbrev pub invariant-loop-k : goal.invariant-loop-k
invariant-loop-k l = SidesAre l.v (take l.k l.levels) l.below l.above
