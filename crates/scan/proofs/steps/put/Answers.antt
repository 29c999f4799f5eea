-- after i turns the first i values are there (`Overwritten`).
use mathlib.Core.Path.{refl}
use native.Mathlib.Omega.{arith}
use Rattle.arithmetic.proofs.Writing.{overwritten_none, overwritten_more, overwritten_all}
use Rattle.scan.proofs.steps.put.Goals as goal

pub loop-i-init : goal.loop-i-init
loop-i-init c = overwritten_none c.args.rows.now c.args.at _

pub loop-i-preserved : goal.loop-i-preserved
loop-i-preserved c = overwritten_more c.args.rows.now c.args.at _ c.loop-i.rows c.loop-i.i _ (omega arith) refl c.loop-i.invariant

pub returns : goal.returns
returns c = overwritten_all c.args.rows.now c.args.at c.args.row.now c.loop-i.rows c.loop-i.i (omega arith) c.loop-i.invariant
