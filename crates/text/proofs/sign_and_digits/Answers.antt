-- A sign, stored before the digits.
use Rattle.std.proofs.Common.{arith}
use Rattle.text.proofs.Putting.{with_sign_put}
use Rattle.text.proofs.sign_and_digits.Goals as goal

pub returns-then-negative : goal.returns-then-negative
returns-then-negative c =
    rw c.if-negative.true (with_sign_put c.args.block.now c.args.at c.args.n _ (omega arith) c.digits.ensures)
