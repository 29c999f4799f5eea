-- One digit is stored, and more are io's, copied.
use Rattle.std.proofs.Common.{arith}
use Rattle.text.proofs.Putting.{digit_put}
use Rattle.text.proofs.digits.Goals as goal

pub returns-then-n-lt10 : goal.returns-then-n-lt10
returns-then-n-lt10 c = digit_put c.args.block.now c.args.at c.args.n c.if-n-lt10.true (omega arith)
