-- after i turns the first i levels are there (`Overwritten`).
use native.Mathlib.Omega.{arith}
use Rattle.arithmetic.proofs.Writing.{overwritten_none, overwritten_front, overwritten_all}
use Rattle.scan.proofs.steps.widen.Goals as goal

pub loop-i-init : goal.loop-i-init
loop-i-init c = overwritten_none c.args.out.now 0 _

pub loop-i-preserved : goal.loop-i-preserved
loop-i-preserved c = overwritten_front c.args.out.now _ c.loop-i.out c.loop-i.i _ (omega arith) c.from.ensures c.loop-i.invariant

pub returns : goal.returns
returns c = overwritten_all c.args.out.now 0 c.args.levels.now c.loop-i.out c.loop-i.i (omega arith) c.loop-i.invariant
