-- what halving finds is the ratio, and where 0 does not reach there is none.
use native.Mathlib.Omega.{arith}
use Rattle.judge.proofs.Ratios.{sides_are, answered_yes, product_most, end_most}
use Rattle.judge.proofs.Ratios.{right_most, quotient_least, starts, found}
use Rattle.judge.proofs.ratio.ratio.Goals as goal

pub reaches-requires : goal.reaches-requires
reaches-requires c =
    let sides = sides_are c.args.count c.args.span c.from-left.ensures c.square-right.ensures in
    (omega arith, right_most sides c.requires.0 c.requires.1)

-- past the test, 0 reaches
pub overflow_sub-hi : goal.overflow_sub-hi
overflow_sub-hi c =
    let sides = sides_are c.args.count c.args.span c.from-left.ensures c.square-right.ensures in
    omega (arith, quotient_least sides c.power_below_root-p.ensures (answered_yes _ _ c.reaches.ensures c.if-not-reaches.false))

pub halve-requires : goal.halve-requires
halve-requires c =
    let sides = sides_are c.args.count c.args.span c.from-left.ensures c.square-right.ensures in (
      starts sides c.power_below_root-p.ensures c.saturating_sub-lo.ensures (answered_yes _ _ c.reaches.ensures c.if-not-reaches.false),
      end_most _ (product_most c.requires.0 c.requires.1),
      right_most sides c.requires.0 c.requires.1,
    )

pub returns : goal.returns
returns c =
    let sides = sides_are c.args.count c.args.span c.from-left.ensures c.square-right.ensures in
    found sides c.halve.ensures
