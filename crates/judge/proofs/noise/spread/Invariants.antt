-- each row adds its sums, and of all of them the result is made.
use Prim.Native.Nat.{◌-◌, ◌*◌}
use Rattle.judge.specs.Asked.{Sums}
use Rattle.judge.proofs.Spreads.{light_at, flat_at}
use Rattle.judge.proofs.noise.spread.Given as goal

abbrev pub invariant-loop-row : goal.invariant-loop-row
invariant-loop-row l =
    let p = l.picture in
    Sums (light_at p.width p.levels.now) (flat_at p.width p.filtered.now) (l.row * (p.width - 6)) l.squares l.lights l.flats
