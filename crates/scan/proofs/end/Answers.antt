-- past the tests all three rows come that are not there.
use mathlib.Core.Bool.{not}
use mathlib.Core.List.{◌++◌}
use mathlib.Core.Path.{◌≡◌, ap, ◌∙◌}
use mathlib.Core.List.{List}
use Prim.Native.Nat.{ℕ, ◌+◌, ◌*◌, ◌≤◌, min}
use native.Mathlib.Omega.{arith}
use borrow.Rule.Slice.PartMut.{same_len_mid}
use lib.ListN.{length, take, drop, set}
use Rattle.answers.proofs.Refusals.{told_yes}
use Rattle.memory.specs.Memory.{width_of, height_of, came_of, zeros}
use Rattle.memory.proofs.Memories.{length_rows}
use Rattle.memory.proofs.Outcomes.{when_starts}
use Rattle.scan.proofs.SixRows.{count_again}
use Rattle.scan.proofs.Calls.{end_ready, end_coming, end_done}
use Rattle.scan.proofs.end.Goals as goal

-- how many rows are due
due_is : (h due : ℕ) → due ≡ min h 3 → due ≡ min 3 h
due_is h due d = omega (arith, d)

pub take_rows-requires : goal.take_rows-requires
take_rows-requires c =
    let held = c.args.held.now in
    let begun = told_yes c.begun.ensures (ap not c.if-not-begun.false) in
    let last : came_of held ≡ height_of held = omega arith in
    let room : min 3 (height_of held) * width_of held ≤ length c.args.output.now =
    rw (← due_is (height_of held) _ c.min-due.ensures) (omega arith)
    in
    (end_ready held begun last, end_coming held begun last c.args.output.now room)

pub returns : goal.returns
returns c =
    let held = c.args.held.now in
    let w = width_of held in
    let h = height_of held in
    let begun = told_yes c.begun.ensures (ap not c.if-not-begun.false) in
    let last : came_of held ≡ h = omega arith in
    let due = due_is h _ c.min-due.ensures in
    let room : min 3 h * w ≤ length c.args.output.now = rw (← due) (omega arith) in
    let lent = take 3 held ++ (c.take_rows.new.rows ++ drop 6144 (drop 3 held)) in
    let lent_long = same_len_mid 3 6144 held c.take_rows.new.rows c.take_rows.auto.rows in
    let anew = when_starts lent w h _ _ (omega (arith, lent_long, begun.long)) begun.width begun.height c.start-begins.ensures in
    let left = ap (λ (m : List ℕ). set m 2 (h + 3)) anew ∙ count_again w h 0 (h + 3) (zeros 6144) (drop 6147 lent) in
    end_done held begun last c.args.output.now room c.take_rows.new.rows _ _ _
    (c.take_rows.auto.rows ∙ length_rows held begun.long) due left
    c.take_rows.ensures.output_after
