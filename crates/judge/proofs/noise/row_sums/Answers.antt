-- each pixel adds to the three sums, which have room for 1,024.
use Rattle.std.proofs.Common.{length, ◌∙◌, rules}
use native.Mathlib.Omega.{arith}
use Rattle.std.proofs.lemmas.List.{length_push}
use Rattle.std.proofs.lemmas.Slice.Zip.{zip_turn}
use Rattle.judge.specs.Asked.{light, flat}
use Rattle.judge.proofs.Spreads.{sums_none, sums_more}
use Rattle.judge.proofs.noise.row_sums.Goals as goal

pub loop-level-init : goal.loop-level-init
loop-level-init c = sums_none (light c.args.levels.now) (flat c.args.filtered.now)

-- the bound of the squares with one pixel more is the room that their addition needs
pub overflow_add-squares : goal.overflow_add-squares
overflow_add-squares c =
    let o = c.loop-level in
    let k = length o.yielded in
    let turn =
    zip_turn c.args.levels.now c.args.filtered.now o.yielded c.into_iter-level-iterator.result _ c.next.new.self _
    (search rules) (search rules) o.yielded_by _ c.in-Some.is c.next.ensures.steps
    in
    let lit = turn.2 0 in
    let value = turn.3 0 in
    let byte = c.type_inv.levels k in
    let small = c.requires.small k in
    let gap = c.from-gap.ensures ∙ c.abs_diff.ensures in
    let more =
    sums_more (light c.args.levels.now) (flat c.args.filtered.now) (omega arith, omega arith) (value, omega arith) gap o.invariant
    in
    let short = turn.1 in
    let room = c.requires.long in
    omega (arith, more.squares_most)

pub loop-level-preserved : goal.loop-level-preserved
loop-level-preserved c =
    let o = c.loop-level in
    let k = length o.yielded in
    let turn =
    zip_turn c.args.levels.now c.args.filtered.now o.yielded c.into_iter-level-iterator.result _ c.next.new.self _
    (search rules) (search rules) o.yielded_by _ c.in-Some.is c.next.ensures.steps
    in
    let lit = turn.2 0 in
    let value = turn.3 0 in
    let byte = c.type_inv.levels k in
    let small = c.requires.small k in
    let gap = c.from-gap.ensures ∙ c.abs_diff.ensures in
    rw (c.from-lights.ensures, c.from-flats.ensures, length_push o.yielded)
    (sums_more (light c.args.levels.now) (flat c.args.filtered.now) (omega arith, omega arith) (value, omega arith) gap o.invariant)
