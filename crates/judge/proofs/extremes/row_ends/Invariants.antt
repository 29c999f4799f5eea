-- the values still to come, with those so far, have the row's extremes.
use Prim.Native.Nat.{min, max}
use mathlib.Core.Path.{◌≡◌}
use mathlib.Core.List.{foldl}
use lib.ListN.{drop}
use Rattle.judge.proofs.extremes.row_ends.Given as goal

abbrev pub invariant-loop-value : goal.invariant-loop-value
invariant-loop-value l =
    (foldl max l.bright (drop l.value-index l.row) ≡ foldl max 0 l.row)
    × (foldl min l.dark (drop l.value-index l.row) ≡ foldl min 65535 l.row)
