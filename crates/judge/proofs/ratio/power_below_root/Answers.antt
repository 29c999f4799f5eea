-- half of the bits of d.
use Rattle.judge.proofs.Ratios.{below_root}
use Rattle.judge.proofs.ratio.power_below_root.Goals as goal

pub returns : goal.returns
returns c = below_root c.args.d c.ilog2.result c.ilog2.ensures.bound c.ilog2.ensures.power_le c.ilog2.ensures.next_power_gt
