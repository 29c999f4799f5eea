-- each two rows are told by themselves.
use mathlib.Core.Path.{refl}
use Rattle.answers.proofs.Refusals.{stops, told_no, told_yes}
use Rattle.memory.proofs.Memories.{no_levels, no_halves, ranges_told}
use mathlib.Core.Path.{ap}
use mathlib.Core.Bool.{not}
use Rattle.memory.proofs.in_range.Goals as goal

pub returns-then-not-at_most : goal.returns-then-not-at_most
returns-then-not-at_most c =
    stops (no_levels c.args.width c.args.rows.now (told_no c.at_most.ensures (ap not c.if-not-at_most.true))) refl

pub returns-then-not-at_most-2 : goal.returns-then-not-at_most-2
returns-then-not-at_most-2 c =
    stops (no_halves c.args.width c.args.rows.now (told_no c.at_most-2.ensures (ap not c.if-not-at_most-2.true))) refl

pub returns : goal.returns
returns c =
    ranges_told c.args.width c.args.rows.now _
    (told_yes c.at_most.ensures (ap not c.if-not-at_most.false))
    (told_yes c.at_most-2.ensures (ap not c.if-not-at_most-2.false))
    c.at_most-3.ensures
