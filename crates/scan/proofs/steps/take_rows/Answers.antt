-- after i turns i rows have come (`Taken`).
use Rattle.scan.specs.Asked.{Coming}
use Rattle.scan.proofs.steps.take_rows.Invariants.{Turn}
use mathlib.Core.Path.{◌≡◌, refl, ap, ◌∙◌}
use mathlib.Core.List.{List}
use Prim.Native.Nat.{ℕ, ◌+◌, ◌-◌, ◌*◌, ◌≤◌, ◌<◌}
use native.Mathlib.Nat.{le_trans}
use native.Mathlib.Omega.{arith}
use borrow.Author.Rules.{rules}
use borrow.Rule.Slice.PartMut.{same_len_mid}
use lib.ListN.{length, take, drop, length-take, length-drop}
use Rattle.arithmetic.specs.Lists.{AtMost}
use Rattle.arithmetic.proofs.Order.{row_end}
use Rattle.memory.specs.Memory.{row_at}
use Rattle.scan.specs.Ring.{held_in}
use Rattle.scan.specs.Asked.{long}
use Rattle.scan.proofs.Taking.{taken_none, given_grows, given_count, part_long, turn}
use Rattle.scan.proofs.steps.take_rows.Goals as goal

-- what is known of turn i
record Known (w h k each n levels output i done : ℕ) : Type 0 where
  inside : i * each + each ≤ levels
  row_there : long w h (k + i) 0 ≡ each
  few : k + i + 1 ≤ 70000
  room : done + long w h (k + i) 3 ≤ output

known : (w h k each n : ℕ) (rows levels output : List ℕ) → Coming w h k each n rows levels output
    → (i done : ℕ) (rows' output' widened halves quarters : List ℕ)
    → Turn w h k each n levels rows output rows' output' widened halves quarters i done
    → i < n → Known w h k each n (length levels) (length output) i done
known w h k each n rows levels output coming i done rows' output' widened halves quarters t here =
    let held = held_in w h k rows in
    let f = row_at each levels in
    let then = le_trans (given_grows held f (i + 1) n (omega arith)) coming.room in
    let more = given_count w h k rows f output i done rows' output' t.taken in
    record {
      inside = omega (arith, row_end each n i here, coming.levels_are);
      row_there = coming.rows_are i here;
      few = omega (arith, coming.few);
      room = omega (arith, then, more);
    }

pub loop-i-init : goal.loop-i-init
loop-i-init c = record {
  widened_long = search rules;
  halves_long = search rules;
  quarters_long = search rules;
  rows_long = refl;
  output_long = refl;
  taken =
      taken_none c.args.place.width c.args.place.height c.args.place.k c.args.rows.now (row_at c.args.each c.args.levels.now)
      c.args.output.now
      c.requires.0;
}

pub take_row-requires-clause-ready : goal.take_row-requires-clause-ready
take_row-requires-clause-ready c =
    let l = c.loop-i in
    let t = l.invariant in
    let is =
    known c.args.place.width c.args.place.height c.args.place.k c.args.each c.args.n c.args.rows.now c.args.levels.now c.args.output.now
    c.requires.1 l.i l.done _ _ _ _ _ t c.loop-i-test.true
    in
    let place = c.args.place in
    let room : long place.width place.height (place.k + l.i) 3 ≤ length (take (length l.output - l.done) (drop l.done l.output)) =
    simp (length-take, length-drop) (omega (arith, is.room, t.output_long))
    in
    (t.taken.ready, part_long c.args.each l.i (l.i * c.args.each) c.args.levels.now refl is.inside _ is.row_there, room)

pub overflow_add-done : goal.overflow_add-done
overflow_add-done c =
    let l = c.loop-i in
    let is =
    known c.args.place.width c.args.place.height c.args.place.k c.args.each c.args.n c.args.rows.now c.args.levels.now c.args.output.now
    c.requires.1 l.i l.done _ _ _ _ _ l.invariant c.loop-i-test.true
    in
    omega (arith, is.room, c.long-done.ensures)

pub loop-i-preserved : goal.loop-i-preserved
loop-i-preserved c =
    let l = c.loop-i in
    let t = l.invariant in
    let row = c.take_row in
    let is =
    known c.args.place.width c.args.place.height c.args.place.k c.args.each c.args.n c.args.rows.now c.args.levels.now c.args.output.now
    c.requires.1 l.i l.done _ _ _ _ _ t c.loop-i-test.true
    in
    let bytes : AtMost 255 c.args.levels.now = λ k. omega (arith, c.type_inv.levels k) in
    record {
      widened_long = row.auto.widened ∙ t.widened_long;
      halves_long = row.auto.halves ∙ t.halves_long;
      quarters_long = row.auto.quarters ∙ t.quarters_long;
      rows_long = row.auto.rows ∙ t.rows_long;
      output_long = same_len_mid l.done (length l.output - l.done) l.output row.new.out row.auto.out ∙ t.output_long;
      taken =
          turn c.args.each l.i (l.i * c.args.each) c.args.levels.now refl is.inside c.args.place.width c.args.place.height
          c.args.place.k l.done _
          c.args.rows.now c.args.output.now
          l.rows l.output row.new.rows _ row.new.out t.taken is.row_there bytes is.few row.ensures.rows_after row.ensures.out_after refl
          (ap (λ (z : ℕ). l.done + z) c.long-done.ensures);
    }
