-- after each tile the two are the sums over the tiles so far.
use Rattle.judge.proofs.Tiles.{Tiles}
use Rattle.judge.proofs.extremes.of_tiles.Given as goal

abbrev pub invariant-loop-tile : goal.invariant-loop-tile
invariant-loop-tile l = Tiles l.picture.width l.picture.height l.picture.filtered.now l.bright l.dark l.tile
