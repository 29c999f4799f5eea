-- the greatest of the values so far.
use Rattle.arithmetic.proofs.Most.{Most}
use Rattle.arithmetic.proofs.values.greatest.Given as goal

abbrev pub invariant-loop-value : goal.invariant-loop-value
invariant-loop-value l = Most l.values l.most l.value-index
