-- at column i those before it are there (`Stored`).
use Rattle.std.proofs.Common.{length, take}
use Rattle.filter.specs.Asked.{lists, made_of}
use Rattle.filter.proofs.Filling.{Stored}
use Rattle.filter.proofs.rows.columns.Given as goal

abbrev pub invariant-loop-i : goal.invariant-loop-i
invariant-loop-i g l =
    let n = length l.initial.out in
    Stored (made_of n (take g.row.N (lists l.rows))) n l.end l.out l.i
