-- each store is what stands there in the row (`cell_is`), and at column i those before it are there (`Stored`).
use Rattle.std.proofs.Common.{length, take, ◌-◌, arith}
use Rattle.filter.specs.Asked.{lists, made_of}
use Rattle.filter.proofs.Blocks.{length_made, cell_is}
use Rattle.filter.proofs.Filling.{next_stored}
use Rattle.filter.proofs.rows.columns.Goals as goal

pub loop-i-preserved : goal.loop-i-preserved
loop-i-preserved g c =
    let l = c.loop-i in
    let n = length c.args.out.now in
    let rows = lists c.args.rows in
    let row = take g.row.N rows in
    let v = c.of_rows.result in
    let cell = cell_is n g.row.N rows c.requires.around.2 l.i (l.i - 1) 3 v (omega arith) (omega arith, omega arith) c.of_rows.ensures in
    next_stored (made_of n row) n (length_made n row) l.out l.invariant.2 v c.args.end l.i (omega arith) (omega arith) cell
    (omega arith) l.invariant.3
