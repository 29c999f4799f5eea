-- The byte after the digits.
use Rattle.std.proofs.Common.{arith, lit≤}
use Rattle.text.specs.Inside.{WithSign}
use Rattle.text.proofs.Putting.{after_put}
use Rattle.text.proofs.put.Goals as goal

pub returns : goal.returns
returns c =
    after_put (WithSign c.args.negative c.args.n) 21 c.args.block.now _ c.args.at c.args.after _ (lit≤ tt) (omega arith)
    c.sign_and_digits-to.ensures
