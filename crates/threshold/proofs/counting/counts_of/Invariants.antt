-- Before a value the values before it are counted.
use Rattle.threshold.specs.Asked.{Added}
use Rattle.threshold.proofs.counting.counts_of.Given as goal

abbrev pub invariant-loop-value : goal.invariant-loop-value
invariant-loop-value l = Added l.values l.value-index l.counts
