-- Before level v the tables are right up to v.
use Rattle.std.proofs.Common.{◌≡◌}
use Rattle.threshold.proofs.Tables.{Filling}
use Rattle.threshold.proofs.means.Summed.of.Given as goal

-- the three fields of `summed`: its histogram, and the two tables
abbrev pub invariant-loop-v : goal.invariant-loop-v
invariant-loop-v g l = (l.summed.0.now ≡ l.histogram) × Filling l.histogram l.v l.summed.1.0 l.summed.1.1.0 l.number l.sum
