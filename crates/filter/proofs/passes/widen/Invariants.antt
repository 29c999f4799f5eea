-- at place k the levels before it are copied.
use Rattle.std.proofs.Common.{◌≡◌, take}
use Rattle.filter.proofs.passes.widen.Given as goal

abbrev pub invariant-loop-k : goal.invariant-loop-k
invariant-loop-k l = take l.k l.out ≡ take l.k l.levels
