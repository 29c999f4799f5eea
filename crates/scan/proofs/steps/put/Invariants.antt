-- after i turns the first i values are there (`Overwritten`).
use lib.ListN.{get_or}
use Rattle.arithmetic.proofs.Writing.{Overwritten}
use Rattle.scan.proofs.steps.put.Given as goal

abbrev pub invariant-loop-i : goal.invariant-loop-i
invariant-loop-i l = Overwritten l.initial.rows l.at (λ k. get_or l.row k 0) l.rows l.i
