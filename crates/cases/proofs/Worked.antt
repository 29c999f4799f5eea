-- Every row of document 01's table of marked cases holds. Each call's own test stands with its other examples (proofs/Examples.antt
-- of its crate). Assumes nothing.
use mathlib.Core.Option.{Option, get}
use Rattle.arithmetic.proofs.Computed.{EveryRow, every_row}
use Rattle.filter.proofs.Examples.{first_holds, holds as filter_holds, row as filter_row}
use Rattle.judge.proofs.Examples.{holds as judge_holds, row as judge_row}
use Rattle.threshold.specs.TwoMeans.{level}
use Rattle.threshold.specs.Worked.{histogram}
use Rattle.threshold.proofs.Examples.{at_rest, holds as threshold_holds}
use Rattle.sample.proofs.Examples.{holds as sample_holds, row as sample_row}
use Rattle.length.proofs.Examples.{holds as length_holds, row as length_row}
use Rattle.cases.specs.Rows.{Case, ◌gives◌, ◌rests_in◌, filter, first_pass, judge, two_means, sample, length, Holds}
use Rattle.cases.specs.Cases.{table}

-- the test by which antt finds that a row is so
unfoldable pub holds : (c : Case) → Option (Holds c)
unfolding filter_holds first_holds judge_holds threshold_holds sample_holds length_holds at_rest
holds (filter w h levels gives expected) = filter_holds (filter_row w h levels expected)
holds (first_pass w h levels gives expected) = first_holds (filter_row w h levels expected)
holds (judge N M m D gives v) = judge_holds (judge_row N M m D v.number v.ratio)
holds (two_means counts v l gives t) = threshold_holds (histogram counts) v l t
holds (sample w h levels x y gives s) = sample_holds (sample_row levels w h x y s.number s.value)
holds (length s p gives r) = length_holds (length_row s p r.number r.length.0)
holds (v rests_in counts) = at_rest (histogram counts) (level v)

pub worked : EveryRow Holds table
unfolding holds every_row
worked = get (every_row Holds holds table) tt
