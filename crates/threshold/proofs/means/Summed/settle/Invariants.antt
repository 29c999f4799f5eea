-- The round from t gives next, and no round before it gave back what it was given. The measure is the rounds that may still come, and one.
use Rattle.std.proofs.Common.{length, ◌-◌, ◌*◌}
use Rattle.threshold.proofs.Settling.{Going}
use Rattle.threshold.proofs.means.Summed.settle.Given as goal

abbrev pub invariant-loop-next : goal.invariant-loop-next
invariant-loop-next g l = Going l.usual l.self.histogram.now l.rounds l.t l.next

abbrev pub decreases-loop-next : goal.decreases-loop-next
decreases-loop-next g l = 2 * length l.self.histogram.now - l.rounds
