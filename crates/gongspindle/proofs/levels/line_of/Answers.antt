-- What each of the three calls promises, put together: what was measured is counted, and the counts have a threshold.
use Rattle.std.proofs.Common.{refl}
use Rattle.judge.specs.Judge.{verdict_of}
use Rattle.answers.specs.Numbers.{told}
use Rattle.gongspindle.proofs.Lines.{Seen, seen, line, is_done}
use Rattle.gongspindle.proofs.levels.line_of.Goals as goal
use Rattle.gongspindle.proofs.levels.line_of.Goals.{After-count}

is_seen : (c : After-count) → let a = c.args in
    Seen a.levels.now a.side c.requires (verdict_of c.measure-verdict.result) (told c.count.result) c.count.new.histogram
is_seen c =
    seen c.args.levels.now c.args.side c.requires _ _ _ _ _ _ _ _
    c.space-output.ensures
    c.space-work.ensures
    refl
    c.measure-verdict.ensures
    c.count.ensures

pub unwrap-requires : goal.unwrap-requires
unwrap-requires c = is_done c.count.result (is_seen (goal.at.unwrap-requires c).After-count).counted.number

pub returns : goal.returns
returns c =
    line c.args.levels.now c.args.side c.requires c.measure-verdict.result c.unwrap-threshold.result
    (is_seen (goal.at.returns c).After-count)
    c.unwrap-threshold.ensures
    c.two_means.ensures
