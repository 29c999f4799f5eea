-- rows that are not there are dropped.
use Rattle.std.proofs.Common.{◌∙◌, refl, []}
use Rattle.filter.proofs.Blocks.{only_makes}
use Rattle.filter.proofs.rows.only_row.Goals as goal

pub returns : goal.returns
returns c = c.make.ensures ∙ rw c.requires.out_len (only_makes [] c.args.here.now [] refl refl)
