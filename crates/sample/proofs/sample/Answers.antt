-- Past all three tests the picture has its levels, both coordinates are inside, and the sum around them is the sample.
use Rattle.std.proofs.Common.{w64, ap, ◌∙◌}
use mathlib.Core.Bool.{not}
use Rattle.std.proofs.lemmas.Int.{to_z-of_z}
use Rattle.answers.specs.Numbers.{told}
use Rattle.answers.proofs.Refusals.{goes_on, told_yes}
use Rattle.picture.proofs.Shapes.{passes_both, well_shaped}
use Rattle.sample.specs.Cubic.{sampled}
use Rattle.sample.proofs.Coordinates.{is_inside}
use Rattle.sample.proofs.Outcomes.{is_sample}
use Rattle.sample.proofs.sample.Goals as goal

pub returns : goal.returns
returns c =
    let shape = well_shaped _ _ _ _ (ap told c.in_ok-shape.was) c.shape.ensures in
    let in-x = told_yes c.surrounded.ensures (ap not c.if-not-surrounded.false) in
    let in-y = told_yes c.surrounded-else-not-surrounded.ensures (ap not c.if-not-surrounded-2.false) in
    let sum = to_z-of_z w64 c.around.result (record { sfits = c.around.type_inv }) ∙ c.around.ensures in
    passes_both shape
    (goes_on (is_inside c.args.x c.of-column.result c.of-column.ensures _ in-x, is_inside c.args.y c.of-row.result c.of-row.ensures _ in-y)
    (ap (sampled 0)
    (is_sample c.args.levels.now c.args.x c.args.y c.of-column.result c.of-row.result c.of-column.ensures c.of-row.ensures in-x in-y sum)))
