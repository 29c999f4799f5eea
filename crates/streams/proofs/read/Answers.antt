-- What a turn adds to what came before it.
use mathlib.Core.Path.{sym, ◌∙◌}
use Rattle.std.proofs.Common.{rules}
use Rattle.streams.proofs.Receiving.{was_good, taken_more}
use Rattle.streams.proofs.read.Goals as goal

pub loop-done-preserved : goal.loop-done-preserved
loop-done-preserved g c =
    let good = was_good c.read.result c.in_ok-count.count (sym c.came.ensures ∙ c.in_ok-count.was) in
    let bound = rw good at c.read.ensures.bound in
    let bytes = rw good at c.read.ensures.bytes in
    record {
      inside = search rules;
      kept = search rules;
      next = taken_more _ _ _ _ _ _ _ _ c.loop-done.invariant.inside bound.0 c.loop-done.invariant.next bytes.0;
    }
