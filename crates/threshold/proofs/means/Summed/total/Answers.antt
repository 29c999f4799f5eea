-- Past the last level stands how many values there are.
use Rattle.std.proofs.Common.{refl}
use Rattle.threshold.proofs.Tables.{total_read}
use Rattle.threshold.proofs.means.Summed.total.Goals as goal

pub returns : goal.returns
returns g c = total_read refl c.args.self.now.right
