-- What is found is the highest level present, since the total is not 0.
use Rattle.std.proofs.Common.{◌≡◌, rules}
use Rattle.std.specs.Prelude.{Some}
use Rattle.threshold.specs.TwoMeans.{highest}
use Rattle.threshold.proofs.Present.{LastCounted, last_counted}
use Rattle.threshold.proofs.ends.highest.Goals as goal
use Rattle.threshold.proofs.ends.highest.Goals.{After-rposition}

found : (c : After-rposition) → c.rposition.result ≡ Some (highest c.args.histogram.now)
found c =
    let last : LastCounted c.args.histogram.now c.requires c.rposition.result = search rules in
    last_counted c.args.histogram.now c.requires c.rposition.result last

pub unwrap-requires : goal.unwrap-requires
unwrap-requires c = rw (found c)

pub returns : goal.returns
returns c = let is = found (goal.at.returns c).After-rposition in cc
