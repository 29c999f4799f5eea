-- a row of the next pass is completed from the two, and then one of them is replaced.
use Rattle.scan.proofs.Twos.{is_replaced}
use Rattle.scan.proofs.steps.pass.Goals as goal

pub returns-clause-two_after : goal.returns-clause-two_after
returns-clause-two_after c =
    let p = c.args.place in
    is_replaced p.width p.height p.k c.args.late c.args.two.now c.args.row.now _ c.put.ensures
