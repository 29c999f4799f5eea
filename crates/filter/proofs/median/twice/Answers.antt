-- at place k each middle level is found, or it stands at k or later (`Middles`).
use native.Mathlib.Omega.{arith}
use Rattle.filter.proofs.Counts.{one_to_nine}
use Rattle.filter.proofs.Ranges.{most_median}
use Rattle.filter.proofs.Search.{middles_first, middles_more, middles_last}
use Rattle.filter.proofs.median.twice.Goals as goal

pub loop-k-init : goal.loop-k-init
loop-k-init c = middles_first c.args.levels.now (one_to_nine c.requires.0).0

pub loop-k-preserved : goal.loop-k-preserved
loop-k-preserved c =
    let ranks = c.middle_ranks-ranks.ensures in
    let some = (one_to_nine c.requires.0).0 in
    middles_more c.args.levels.now some c.loop-k.k _ _ _ _ _ _ _ _ c.others-sides.ensures ranks.0 ranks.1 c.found-lower.ensures
    c.found-upper.ensures c.loop-k.invariant

pub overflow_add-result : goal.overflow_add-result
overflow_add-result c =
    let median = middles_last c.args.levels.now (one_to_nine c.requires.0).0 c.loop-k.k _ _ (omega arith) c.loop-k.invariant in
    omega (arith, median, most_median 1020 c.args.levels.now c.requires.1)

-- past the loop all levels are looked at
pub returns : goal.returns
returns c = middles_last c.args.levels.now (one_to_nine c.requires.0).0 c.loop-k.k _ _ (omega arith) c.loop-k.invariant
