-- after each row the two are the extremes of the rows so far.
use Rattle.std.proofs.Common.{min, max}
use mathlib.Core.Path.{refl, ap, ◌∙◌}
use native.Mathlib.Omega.{arith}
use Rattle.judge.proofs.Tiles.{rows_none, rows_more, rows_all}
use Rattle.judge.proofs.extremes.part_ends.Goals as goal

pub loop-row-init : goal.loop-row-init
loop-row-init c = rows_none c.args.width c.args.columns c.args.start c.args.filtered.now

pub loop-row-preserved : goal.loop-row-preserved
loop-row-preserved c =
    let o = c.loop-row in
    let ends = c.row_ends-ends.ensures in
    rows_more c.args.width c.args.columns c.args.start c.args.filtered.now o.bright o.dark o.row _ _ _ o.invariant refl
    (c.max-bright.ensures ∙ ap (max o.bright) ends.0) (c.min-dark.ensures ∙ ap (min o.dark) ends.1)

pub returns : goal.returns
returns c =
    let o = c.loop-row in
    rows_all c.args.width c.args.columns c.args.start c.args.filtered.now c.args.rows o.bright o.dark o.row c.requires
    (λ k. omega (arith, c.type_inv.filtered k)) (omega arith) o.invariant
