-- So many good records lie before the offset, and an input has 32,768 bytes at most.
use Rattle.std.proofs.Common.{◌-◌, ◌≤◌}
use Rattle.records.proofs.Reading.{Before}
use Rattle.gongspindle.proofs.report.Given as goal

abbrev pub invariant-loop-record : goal.invariant-loop-record
invariant-loop-record g l = Before l.input l.good l.at × (l.good ≤ l.at) × (l.at ≤ 32768)

abbrev pub decreases-loop-record : goal.decreases-loop-record
decreases-loop-record g l = 32768 - l.at
