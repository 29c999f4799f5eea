-- the parts that it lends to the filter are the last two rows.
use Rattle.scan.specs.Asked.{Below}
use mathlib.Core.List.{List}
use Rattle.std.proofs.Common.{◌+◌, ◌≤◌, length, ℕ, ◌*◌, ◌%◌}
use Rattle.scan.specs.Held.{given}
use Rattle.scan.specs.Asked.{long}
use native.Mathlib.Omega.{arith}
use Rattle.scan.proofs.Shown.{long_most}
use Rattle.scan.proofs.Twos.{place_inside, none_completed, row_completed}
use Rattle.scan.proofs.steps.complete.Goals as goal

-- where the two rows lie, and how long they are
record Facts (w h k late : ℕ) (two : List ℕ) : Type 0 where
  older : k % 2 * w + w ≤ w + w
  newer : (k + 1) % 2 * w + w ≤ w + w
  room : w + w ≤ length two
  few : w + w ≤ 2048
  newer_long : long w h k late ≤ w
  older_long : long w h k (late + 1) ≤ w

facts : (w h k late : ℕ) (two row : List ℕ) → Below w k late two row → Facts w h k late two
facts w h k late two row given =
    let width = given.width in
    record {
      older = place_inside w (k % 2) (omega arith);
      newer = place_inside w ((k + 1) % 2) (omega arith);
      room = omega (arith, given.room);
      few = omega arith;
      newer_long = long_most h k late w;
      older_long = long_most h k (late + 1) w;
    }

pub returns-then-n-eq0 : goal.returns-then-n-eq0
returns-then-n-eq0 c =
    none_completed c.args.place.width c.args.place.height c.args.place.k c.args.late c.args.two.now c.args.row.now c.args.out.now
    c.requires.0 _ c.long-n.ensures
    (omega arith)

pub overflow_add-older_end : goal.overflow_add-older_end
overflow_add-older_end c =
    omega (arith, facts c.args.place.width c.args.place.height c.args.place.k c.args.late c.args.two.now c.args.row.now c.requires.0)

pub slice_bounds-row-end : goal.slice_bounds-row-end
slice_bounds-row-end c =
    omega (arith, facts c.args.place.width c.args.place.height c.args.place.k c.args.late c.args.two.now c.args.row.now c.requires.0)

pub slice_bounds-row-end-2 : goal.slice_bounds-row-end-2
slice_bounds-row-end-2 c =
    omega (arith, facts c.args.place.width c.args.place.height c.args.place.k c.args.late c.args.two.now c.args.row.now c.requires.0)

pub returns : goal.returns
returns c =
    row_completed c.args.place.width c.args.place.height c.args.place.k c.args.late c.args.two.now c.args.row.now c.args.out.now
    c.requires.0 _ _
    c.long-n.ensures c.long.ensures c.if-n-eq0.false c.requires.1 _ c.row-done.ensures
