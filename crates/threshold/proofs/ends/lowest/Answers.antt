-- What is found is the lowest level present, since the total is not 0.
use Rattle.std.proofs.Common.{◌≡◌, rules}
use Rattle.std.specs.Prelude.{Some}
use Rattle.threshold.specs.TwoMeans.{lowest}
use Rattle.threshold.proofs.Present.{FirstCounted, first_counted}
use Rattle.threshold.proofs.ends.lowest.Goals as goal
use Rattle.threshold.proofs.ends.lowest.Goals.{After-position}

found : (c : After-position) → c.position.result ≡ Some (lowest c.args.histogram.now)
found c =
    let first : FirstCounted c.args.histogram.now c.requires c.position.result = search rules in
    first_counted c.args.histogram.now c.requires c.position.result first

pub unwrap-requires : goal.unwrap-requires
unwrap-requires c = rw (found c)

pub returns : goal.returns
returns c = let is = found (goal.at.returns c).After-position in cc
