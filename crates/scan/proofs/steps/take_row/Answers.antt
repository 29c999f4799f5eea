-- what a pass completes goes to the next one, and each replaces one of its two rows.
use Rattle.std.proofs.Common.{ℕ, List, ◌++◌, ◌≡◌, ◌+◌, ◌≤◌, length, get_or, take, drop, Fits, w8}
use mathlib.Core.Path.{refl, sym}
use native.Mathlib.Nat.{le_trans}
use native.Mathlib.Omega.{arith}
use lib.Seq.{length-take-le}
use Rattle.arithmetic.specs.Lists.{over}
use Rattle.scan.specs.Ring.{last_two, replaced}
use Rattle.scan.specs.Held.{completed}
use Rattle.scan.specs.Asked.{Ready, long}
use Rattle.scan.proofs.Passing.{Arriving, front_is}
use Rattle.scan.proofs.Shown.{long_most}
use Rattle.scan.proofs.OnItsWay.{One, two_made, first_asks, second_asks, third_asks, third_leaves, third_gives}
use Rattle.scan.proofs.steps.take_row.Goals as goal

arriving_is : {w h k : ℕ} {rows : List ℕ} (levels : List ℕ) → Ready w h k rows → length levels ≡ long w h k 0
    → ((i : ℕ) → Fits w8 (get_or levels i 0)) → Arriving w h k rows levels
arriving_is levels ready long_as bytes = record { ready = ready; long_as = long_as; bytes = λ i. omega (arith, bytes i) }

module _ {w h k : ℕ} {rows levels : List ℕ} (arriving : Arriving w h k rows levels) (widened wide : List ℕ)
    (is : wide ≡ over widened 0 levels) where
  widened_is : take (length levels) wide ≡ levels
  widened_is = front_is (length levels) wide levels _ is refl

  one_made : {a x halves : List ℕ} → a ≡ replaced w k (take (w + w) rows) (take (length levels) wide)
      → x ≡ completed (last_two w h k 1 (take (w + w) rows)) (take (length levels) wide) ++ drop (long w h k 1) halves
      → One arriving (take (length levels) wide) a x halves
  one_made left gave = record { part_is = widened_is; left = left; gave = gave }

pub widen-requires : goal.widen-requires
widen-requires c =
    omega (arith, c.requires.ready.1, long_most c.args.place.height c.args.place.k 0 c.args.place.width, c.requires.width_in_bounds.0)

pub pass-requires : goal.pass-requires
pass-requires c =
    let arriving = arriving_is c.args.levels.now c.requires.ready.0 c.requires.ready.1 c.type_inv.levels in
    let part_is = widened_is arriving _ _ c.widen.ensures in (
      first_asks arriving _ part_is,
      le_trans (long_most c.args.place.height c.args.place.k 1 c.args.place.width)
          c.requires.width_in_bounds.1,
    )

pub slice_bounds-pass-end-6 : goal.slice_bounds-pass-end-6
slice_bounds-pass-end-6 c =
    omega (
      arith,
      c.pass.auto.out,
      c.long-n1.ensures,
      long_most c.args.place.height c.args.place.k 1
          c.args.place.width,
      c.requires.width_in_bounds.1,
    )

pub slice_bounds-pass-end-7 : goal.slice_bounds-pass-end-7
slice_bounds-pass-end-7 c =
    let room : c.long-n1.result ≤ length c.pass.new.out =
    omega (
      arith,
      c.pass.auto.out,
      c.long-n1.ensures,
      long_most c.args.place.height c.args.place.k 1
          c.args.place.width,
      c.requires.width_in_bounds.1,
    )
    in
    sym (length-take-le _ _ room)

pub pass-requires-2 : goal.pass-requires-2
pass-requires-2 c =
    let arriving = arriving_is c.args.levels.now c.requires.ready.0 c.requires.ready.1 c.type_inv.levels in
    let one = one_made arriving _ _ c.widen.ensures c.pass.ensures.two_after c.pass.ensures.out_after in
    let room = le_trans (long_most c.args.place.height c.args.place.k 2 c.args.place.width) c.requires.width_in_bounds.2 in
    (second_asks arriving one _ c.long-n1.ensures, room)

pub slice_bounds-pass-end-9 : goal.slice_bounds-pass-end-9
slice_bounds-pass-end-9 c =
    omega (
      arith,
      c.pass-2.auto.out,
      c.long-n2.ensures,
      long_most c.args.place.height c.args.place.k 2
          c.args.place.width,
      c.requires.width_in_bounds.2,
    )

pub slice_bounds-pass-end-10 : goal.slice_bounds-pass-end-10
slice_bounds-pass-end-10 c =
    let room : c.long-n2.result ≤ length c.pass-2.new.out =
    omega (
      arith,
      c.pass-2.auto.out,
      c.long-n2.ensures,
      long_most c.args.place.height c.args.place.k 2
          c.args.place.width,
      c.requires.width_in_bounds.2,
    )
    in
    sym (length-take-le _ _ room)

pub pass-requires-3 : goal.pass-requires-3
pass-requires-3 c =
    let arriving = arriving_is c.args.levels.now c.requires.ready.0 c.requires.ready.1 c.type_inv.levels in
    let one = one_made arriving _ _ c.widen.ensures c.pass.ensures.two_after c.pass.ensures.out_after in
    let two = two_made arriving one c.long-n1.ensures c.pass-2.ensures.two_after c.pass-2.ensures.out_after in
    (third_asks arriving one two _ c.long-n2.ensures, c.requires.ready.2)

pub returns-clause-rows_after : goal.returns-clause-rows_after
returns-clause-rows_after c =
    let arriving = arriving_is c.args.levels.now c.requires.ready.0 c.requires.ready.1 c.type_inv.levels in
    let one = one_made arriving _ _ c.widen.ensures c.pass.ensures.two_after c.pass.ensures.out_after in
    let two = two_made arriving one c.long-n1.ensures c.pass-2.ensures.two_after c.pass-2.ensures.out_after in
    third_leaves arriving one two _ c.pass-3.new.two c.long-n2.ensures c.pass-3.ensures.two_after

pub returns-clause-out_after : goal.returns-clause-out_after
returns-clause-out_after c =
    let arriving = arriving_is c.args.levels.now c.requires.ready.0 c.requires.ready.1 c.type_inv.levels in
    let one = one_made arriving _ _ c.widen.ensures c.pass.ensures.two_after c.pass.ensures.out_after in
    let two = two_made arriving one c.long-n1.ensures c.pass-2.ensures.two_after c.pass-2.ensures.out_after in
    third_gives arriving one two _ c.pass-3.new.out _ c.long-n2.ensures c.pass-3.ensures.out_after
