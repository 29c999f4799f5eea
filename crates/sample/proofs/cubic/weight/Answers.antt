-- Each arm is one formula, and the last is that of the pixel that is left.
use Rattle.std.proofs.Common.{◌≡◌, w64, ◌∙◌, arith}
use Rattle.std.proofs.lemmas.Int.{to_z-of_z}
use Rattle.sample.proofs.Weights.{by_number}
use Rattle.sample.proofs.cubic.weight.Goals as goal

pub returns-in-0 : goal.returns-in-0
returns-in-0 c =
    let f = c.difference in
    by_number c.args.coordinate.remainder c.in-0.is (to_z-of_z w64 f.result (record { sfits = f.type_inv }) ∙ f.ensures)

pub returns-in-1 : goal.returns-in-1
returns-in-1 c =
    let f = c.difference-in-1 in
    by_number c.args.coordinate.remainder c.in-1.is (to_z-of_z w64 f.result (record { sfits = f.type_inv }) ∙ f.ensures)

pub returns-in-2 : goal.returns-in-2
returns-in-2 c =
    let f = c.difference-in-2 in
    by_number c.args.coordinate.remainder c.in-2.is (to_z-of_z w64 f.result (record { sfits = f.type_inv }) ∙ f.ensures)

pub returns-in_default : goal.returns-in_default
returns-in_default c =
    let f = c.difference-in_default in
    let left : c.args.t ≡ 3 = omega arith in
    by_number c.args.coordinate.remainder left (to_z-of_z w64 f.result (record { sfits = f.type_inv }) ∙ f.ensures)
