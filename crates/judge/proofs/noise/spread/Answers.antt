-- each row adds its sums, and of all of them the result is made.
use Prim.Native.Nat.{ℕ, ◌-◌, ◌*◌, ◌≤◌}
use mathlib.Core.Path.{◌≡◌, refl}
use mathlib.Core.List.{List}
use native.Mathlib.Omega.{arith}
use Rattle.judge.specs.Noise.{inner_pixels}
use Rattle.judge.specs.Asked.{Tiled, Sums}
use Rattle.judge.proofs.Inner.{few_inner}
use Rattle.judge.proofs.Spreads.{light_at, flat_at, room, no_wrap, is_spread}
use Rattle.judge.proofs.InnerRows.{rows_none, rows_more, rows_all}
use Rattle.judge.proofs.noise.spread.Goals as goal

pub loop-row-init : goal.loop-row-init
loop-row-init c =
    let p = c.args.picture.now in
    rows_none p.width p.levels.now p.filtered.now

pub loop-row-preserved : goal.loop-row-preserved
loop-row-preserved c =
    let p = c.args.picture.now in
    rw (c.from-squares.ensures, c.from-lights.ensures, c.from-flats.ensures)
    (rows_more p.width p.height p.levels.now p.filtered.now p.tiled p.whole c.loop-row.invariant refl
    c.loop-row-test.true c.row_sums-added.ensures)

-- after the loop the sums are those of all the pixels that count, n of them, and there is room for the first product
all_rows : (w h : ℕ) (levels filtered : List ℕ) (t : Tiled w h filtered) {squares lights flats j : ℕ}
    → Sums (light_at w levels) (flat_at w filtered) (j * (w - 6)) squares lights flats → j ≡ h - 6
    → (n : ℕ) → n ≡ inner_pixels w h
    → Sums (light_at w levels) (flat_at w filtered) n squares lights flats × (n * squares ≤ 4611686018427387904)
all_rows w h levels filtered t rows all n n_is =
    let sums = rows_all w h levels filtered rows all in
    rw n_is (sums, omega (arith, room (light_at w levels) (flat_at w filtered) sums (few_inner w h t.sides)))

pub overflow_mul-result : goal.overflow_mul-result
overflow_mul-result c =
    let p = c.args.picture.now in
    let all =
    all_rows p.width p.height p.levels.now p.filtered.now p.tiled c.loop-row.invariant (omega arith) _ c.inner_pixels.ensures
    in
    omega (arith, all.1)

pub overflow_mul-result-2 : goal.overflow_mul-result-2
overflow_mul-result-2 c =
    let p = c.args.picture.now in
    let all =
    all_rows p.width p.height p.levels.now p.filtered.now p.tiled c.loop-row.invariant (omega arith) _ c.inner_pixels.ensures
    in
    let enough = no_wrap (light_at p.width p.levels.now) (flat_at p.width p.filtered.now) all.0 c.abs_diff-away.ensures in
    omega (arith, all.1, enough)

pub overflow_sub-result : goal.overflow_sub-result
overflow_sub-result c =
    let p = c.args.picture.now in
    let all =
    all_rows p.width p.height p.levels.now p.filtered.now p.tiled c.loop-row.invariant (omega arith) _ c.inner_pixels.ensures
    in
    no_wrap (light_at p.width p.levels.now) (flat_at p.width p.filtered.now) all.0 c.abs_diff-away.ensures

pub returns : goal.returns
returns c =
    let p = c.args.picture.now in
    let all = all_rows p.width p.height p.levels.now p.filtered.now p.tiled c.loop-row.invariant (omega arith) _ c.inner_pixels.ensures in
    let sums = rows_all p.width p.height p.levels.now p.filtered.now c.loop-row.invariant (omega arith) in (
      rw c.inner_pixels.ensures (is_spread p.width p.height p.levels.now p.filtered.now sums c.abs_diff-away.ensures),
      omega (arith, all.1),
    )
