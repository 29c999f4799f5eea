-- after i turns the first i levels are there (`Overwritten`).
use lib.ListN.{get_or}
use Rattle.arithmetic.proofs.Writing.{Overwritten}
use Rattle.scan.proofs.steps.widen.Given as goal

abbrev pub invariant-loop-i : goal.invariant-loop-i
invariant-loop-i l = Overwritten l.initial.out 0 (λ k. get_or l.levels k 0) l.out l.i
