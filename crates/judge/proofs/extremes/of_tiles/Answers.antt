-- after each tile the two are the sums over the tiles so far.
use mathlib.Core.Path.{ap, ◌∙◌}
use native.Mathlib.Omega.{arith}
use Rattle.units.specs.Units.{eighths}
use Rattle.judge.proofs.Tiles.{tiles_none, tiles_more, tiles_all, tile_inside}
use Rattle.judge.proofs.extremes.of_tiles.Goals as goal

pub loop-tile-init : goal.loop-tile-init
loop-tile-init c =
    let p = c.args.picture.now in
    tiles_none p.width p.height p.filtered.now

-- the tile lies in the picture
pub part_ends-ends-requires : goal.part_ends-ends-requires
part_ends-ends-requires c =
    let p = c.args.picture.now in
    tile_inside p.width p.height p.filtered.now c.loop-tile.tile p.tiled c.loop-tile-test.true

pub loop-tile-preserved : goal.loop-tile-preserved
loop-tile-preserved c =
    let p = c.args.picture.now in
    let o = c.loop-tile in
    let ends = c.part_ends-ends in
    rw (c.from-bright.ensures, c.from-dark.ensures)
    (tiles_more p.width p.height p.filtered.now o.bright o.dark o.tile ends.result.bright ends.result.dark o.invariant
    ends.ensures (omega (arith, ends.type_inv)) (omega (arith, ends.type_inv)))

pub returns : goal.returns
returns c =
    let p = c.args.picture.now in
    let o = c.loop-tile in
    let all = tiles_all p.width p.height p.filtered.now o.bright o.dark o.tile (omega arith) o.invariant in
    (c.of.ensures ∙ ap eighths all.0, c.of-2.ensures ∙ ap eighths all.1)
