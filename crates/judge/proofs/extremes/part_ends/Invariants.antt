-- after each row the two are the extremes of the rows so far.
use Rattle.judge.proofs.Tiles.{Rows}
use Rattle.judge.proofs.extremes.part_ends.Given as goal

abbrev pub invariant-loop-row : goal.invariant-loop-row
invariant-loop-row l = Rows l.width l.columns l.start l.filtered l.bright l.dark l.row
