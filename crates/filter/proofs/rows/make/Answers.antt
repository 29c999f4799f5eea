-- the first column is there, then the inner ones, then the last; of two columns the other has the value of the first.
use Rattle.std.proofs.Common.{length, take, ◌-◌, ◌∙◌, refl, arith}
use Rattle.std.proofs.Math.ListN.{length-set}
use Rattle.filter.specs.Asked.{lists, made_of}
use Rattle.filter.proofs.Blocks.{length_made, cell_is}
use Rattle.filter.proofs.Filling.{first_stored, last_stored}
use Rattle.filter.proofs.rows.make.Goals as goal

pub returns-then-last-eq0 : goal.returns-then-last-eq0
returns-then-last-eq0 g c =
    let n = length c.args.out.now in
    let rows = lists c.args.rows in
    let row = take g.row.N rows in
    let v = c.of_rows.result in
    let cell = cell_is n g.row.N rows c.requires.around.2 0 0 1 v (omega arith) (omega arith, omega arith) c.of_rows.ensures in
    last_stored (made_of n row) n (length_made n row) c.args.out.now refl v 0 (omega arith) cell refl

pub returns-then-last-eq1 : goal.returns-then-last-eq1
returns-then-last-eq1 g c =
    let n = length c.args.out.now in
    let rows = lists c.args.rows in
    let row = take g.row.N rows in
    let v = c.of_rows-edge.result in
    let around = c.requires.around.2 in
    let first = cell_is n g.row.N rows around 0 0 2 v (omega arith) (omega arith, omega arith) c.of_rows-edge.ensures in
    let other = cell_is n g.row.N rows around 1 0 2 v (omega arith) (omega arith, omega arith) c.of_rows-edge.ensures in
    let there = first_stored (made_of n row) n (length_made n row) c.args.out.now refl v c.requires.some first in
    last_stored (made_of n row) n (length_made n row) _ (length-set c.args.out.now 0 v) v 1 (omega arith) other there

pub inner_columns-requires-clause-there : goal.inner_columns-requires-clause-there
inner_columns-requires-clause-there g c =
    let n = length c.args.out.now in
    let rows = lists c.args.rows in
    let row = take g.row.N rows in
    let v = c.of_rows-edge.result in
    let cell = cell_is n g.row.N rows c.requires.around.2 0 0 2 v (omega arith) (omega arith, omega arith) c.of_rows-edge.ensures in
    rw (length-set c.args.out.now 0 v) (first_stored (made_of n row) n (length_made n row) c.args.out.now refl v c.requires.some cell)

pub returns : goal.returns
returns g c =
    let n = length c.args.out.now in
    let last = n - 1 in
    let rows = lists c.args.rows in
    let row = take g.row.N rows in
    let v = c.of_rows-2.result in
    let long = c.inner_columns.auto.out ∙ length-set c.args.out.now 0 c.of_rows-edge.result in
    let around = c.requires.around.2 in
    let cell = cell_is n g.row.N rows around last (last - 1) 2 v (omega arith) (omega arith, omega arith) c.of_rows-2.ensures in
    let there = rw (length-set c.args.out.now 0 c.of_rows-edge.result) at c.inner_columns.ensures in
    last_stored (made_of n row) n (length_made n row) c.inner_columns.new.out long v last (omega arith) cell there
