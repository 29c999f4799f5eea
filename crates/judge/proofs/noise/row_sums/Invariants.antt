-- each pixel adds to the three sums, which have room for 1,024.
use lib.ListN.{length}
use Rattle.judge.specs.Asked.{light, flat, Sums}
use Rattle.judge.proofs.noise.row_sums.Given as goal

abbrev pub invariant-loop-level : goal.invariant-loop-level
invariant-loop-level l = Sums (light l.levels) (flat l.filtered) (length l.yielded) l.squares l.lights l.flats
