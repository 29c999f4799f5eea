-- Those before i are joined.
use Rattle.std.proofs.Common.{◌≡◌, ℕ, ◌*◌, ◌<◌, get_or}
use Rattle.arithmetic.specs.Bytes.{two_bytes}
use Rattle.calls.proofs.element.U16Element.join.Given as goal

abbrev pub invariant-loop-i : goal.invariant-loop-i
invariant-loop-i l = (k : ℕ) → k < l.i → get_or l.space k 0 ≡ two_bytes l.b (2 * k)
