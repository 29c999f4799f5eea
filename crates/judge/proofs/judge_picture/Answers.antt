-- the judge is given the picture's own numbers.
use Rattle.judge.specs.Judge.{verdict_of}
use Rattle.judge.proofs.Judging.{judged}
use Rattle.judge.proofs.judge_picture.Goals as goal

pub returns : goal.returns
returns c =
    let p = c.args.picture.now in
    let ends = c.of_tiles-sums in
    judged p.levels.now p.filtered.now p.width p.height p.tiled c.spread-spread.result
    c.spread-spread.ensures.0 c.spread-spread.ensures.1
    c.inner_pixels-count.result ends.result.bright ends.result.dark (verdict_of c.judge.result) c.inner_pixels-count.ensures
    ends.ensures.0 ends.ensures.1
    c.judge.ensures
