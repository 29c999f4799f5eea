-- the levels before place k, v itself, which counts for nothing, and those after it are all.
use native.Mathlib.Omega.{arith}
use Rattle.filter.proofs.Search.{sides_none, sides_itself}
use Rattle.filter.proofs.median.others.Goals as goal

pub count_sides-before-requires-clause-sides_are : goal.count_sides-before-requires-clause-sides_are
count_sides-before-requires-clause-sides_are c = sides_none c.args.levels.now c.args.v

pub count_sides-requires-clause-sides_are : goal.count_sides-requires-clause-sides_are
count_sides-requires-clause-sides_are c =
    sides_itself c.args.levels.now c.args.v c.args.k _ _ (omega arith) c.requires.3 c.count_sides-before.ensures
