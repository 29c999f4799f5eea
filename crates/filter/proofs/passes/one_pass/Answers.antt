-- after j rows of the pass they are in their places (`row_more`).
use Rattle.std.proofs.Common.{◌≡◌, ◌∙◌, sym, refl, ◌*◌, length, arith}
use Rattle.std.proofs.Math.ListN.{length-take, length-drop}
use Rattle.std.proofs.Math.Seq.{take_all}
use native.Mathlib.Nat.{zero-mul, mul_comm}
use Rattle.arithmetic.specs.Lists.{joined}
use Rattle.arithmetic.proofs.Order.{row_end}
use Rattle.filter.specs.Median.{pass}
use Rattle.filter.proofs.Columns.{single_is, column_is}
use Rattle.filter.proofs.Parts.{lent, lent_is, row_more, next_row}
use Rattle.filter.proofs.passes.one_pass.Goals as goal

pub returns-then-height-eq1 : goal.returns-then-height-eq1
returns-then-height-eq1 c =
    c.only_row.ensures ∙ single_is c.args.width c.args.height c.args.values.now c.if-height-eq1.true c.requires.0.whole

pub returns-then-width-eq1 : goal.returns-then-width-eq1
returns-then-width-eq1 c =
    let one : c.args.width ≡ 1 = omega arith in
    let whole = rw one at c.requires.0.whole in
    c.only_row-then-width-eq1.ensures ∙ rw one (column_is c.args.height c.args.values.now (omega (arith, whole)))

pub loop-j-init : goal.loop-j-init
unfolding joined
loop-j-init c = rw (zero-mul c.args.width) refl

pub any_row-requires-clause-row_or_none : goal.any_row-requires-clause-row_or_none
any_row-requires-clause-row_or_none c =
    lent c.args.width c.args.height c.loop-j.j c.args.values.now c.requires.0 (omega arith) _ _ c.saturating_sub.ensures c.min.ensures

pub loop-j-preserved : goal.loop-j-preserved
loop-j-preserved c =
    let w = c.args.width in
    let l = c.loop-j in
    let at = l.j * w in
    let inside = row_end w c.args.height l.j (omega arith) in
    let long : length c.any_row.new.out ≡ w =
    c.any_row.auto.out ∙ simp (length-take, length-drop) (omega (arith, inside, l.auto.out, c.requires.1)) in
    let is = c.any_row.ensures
    ∙ lent_is w c.args.height l.j c.args.values.now c.requires.0 (omega arith) _ _ c.saturating_sub.ensures c.min.ensures in
    rw (← next_row w l.j at refl)
    (row_more w l.j at c.args.values.now l.out c.any_row.new.out _ long (omega (arith, inside, l.auto.out, c.requires.1)) l.invariant is)

pub returns : goal.returns
unfolding pass
returns c =
    let all : c.loop-j.j ≡ c.args.height = omega arith in
    let there = rw all at c.loop-j.invariant in
    sym (take_all (c.args.height * c.args.width) c.loop-j.out
    (omega (arith, c.loop-j.auto.out, c.requires.1, mul_comm c.args.height c.args.width)))
    ∙ there
