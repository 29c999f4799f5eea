-- each test is one number's condition, and past them all the rows are what the loop asks for.
use Prim.Native.Nat.{◌%◌}
use mathlib.Core.Bool.{not}
use mathlib.Core.Path.{ap}
use mathlib.Core.Path.{◌≡◌}
use Prim.Native.Nat.{◌-◌, ◌*◌, ◌/◌, ◌≤◌}
use native.Mathlib.Omega.{arith}
use lib.ListN.{length}
use Rattle.arithmetic.specs.Lists.{AtMost}
use Rattle.answers.proofs.Refusals.{told_yes}
use Rattle.memory.specs.Memory.{width_of, height_of, came_of}
use Rattle.scan.specs.Scan.{due}
use Rattle.scan.proofs.Calls.{less_of, is_ready, is_coming, rows_done}
use Rattle.scan.proofs.rows.Goals as goal

pub take_rows-requires : goal.take_rows-requires
take_rows-requires c =
    let held = c.args.held.now in
    let levels = c.args.levels.now in
    let bytes : AtMost 255 levels = λ k. omega (arith, c.type_inv.levels k) in
    let begun = told_yes c.begun.ensures (ap not c.if-not-begun.false) in
    let few : came_of held ≤ 65535 = omega arith in
    let whole : length levels % width_of held ≡ 0 = omega arith in
    let within : length levels / width_of held ≤ height_of held - came_of held = omega (arith, c.saturating_sub.ensures) in
    let due_is = less_of c.saturating_sub-2.ensures c.saturating_sub-3.ensures in
    let room : due (came_of held) (length levels / width_of held) * width_of held ≤ length c.args.output.now =
    rw (← due_is) (omega arith)
    in
    (is_ready held begun few, is_coming held begun levels c.args.output.now bytes few whole within room)

pub returns : goal.returns
returns c =
    let held = c.args.held.now in
    let levels = c.args.levels.now in
    let bytes : AtMost 255 levels = λ k. omega (arith, c.type_inv.levels k) in
    let begun = told_yes c.begun.ensures (ap not c.if-not-begun.false) in
    let few : came_of held ≤ 65535 = omega arith in
    let whole : length levels % width_of held ≡ 0 = omega arith in
    let within : length levels / width_of held ≤ height_of held - came_of held = omega (arith, c.saturating_sub.ensures) in
    let due_is = less_of c.saturating_sub-2.ensures c.saturating_sub-3.ensures in
    let room : due (came_of held) (length levels / width_of held) * width_of held ≤ length c.args.output.now =
    rw (← due_is) (omega arith)
    in
    rows_done held begun levels c.args.output.now bytes few whole within c.take_rows.new.rows _ _ room due_is c.take_rows.ensures.rows_after
    c.take_rows.ensures.output_after
