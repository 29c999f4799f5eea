-- at place k each middle level is found, or it stands at k or later (`Middles`).
use Rattle.filter.proofs.Search.{Middles}
use Rattle.filter.proofs.median.twice.Given as goal

abbrev pub invariant-loop-k : goal.invariant-loop-k
invariant-loop-k l = Middles l.levels l.k l.lower l.upper
