-- after j rows their columns stand at the front of t, one row after the other.
use Rattle.std.proofs.Common.{◌≡◌, ◌+◌, ◌*◌, take}
use Rattle.filter.specs.Asked.{lists, columns_of}
use Rattle.filter.proofs.block.of_rows.Given as goal

abbrev pub invariant-loop-j : goal.invariant-loop-j
invariant-loop-j g l = take (l.j * l.count) l.t ≡ columns_of (take l.j (lists l.rows)) l.first (l.first + l.count)
