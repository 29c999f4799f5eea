-- Past the second test the values can be counted, and then the counts are put into the histogram.
use Rattle.std.proofs.Common.{not, ap}
use Rattle.answers.proofs.Refusals.{goes_on, told_yes}
use Rattle.threshold.specs.Histogram.{Countable}
use Rattle.threshold.proofs.Histograms.{count_done}
use Rattle.threshold.proofs.count.Goals as goal

pub returns : goal.returns
returns c =
    let values = c.args.values.now in
    let ok : Countable values = told_yes c.countable.ensures (ap not c.if-not-countable.false) in
    goes_on c.if-histogram-ne256.false
    (goes_on ok
    (count_done values c.counts_of-counts.result c.copy_from_slice.new.self ok c.counts_of-counts.ensures c.copy_from_slice.ensures.after))
