-- The parts have at most 8,192 elements.
use Rattle.std.proofs.Common.{◌≡◌}
use Rattle.calls.proofs.request.slice.Given as goal

abbrev pub invariant-loop-part : goal.invariant-loop-part
invariant-loop-part g l =
    (goal.iterator-loop-part g).can_next l.part-iterator ×
    (goal.iterator-loop-part g).is_finite l.part-iterator ×
    (l.part-iterator.size ≡ 8_192)
