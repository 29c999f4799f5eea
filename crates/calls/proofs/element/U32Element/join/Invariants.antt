-- Those before i are joined.
use Rattle.std.proofs.Common.{◌≡◌, ℕ, ◌*◌, ◌<◌, get_or}
use Rattle.arithmetic.specs.Bytes.{four_bytes}
use Rattle.calls.proofs.element.U32Element.join.Given as goal

abbrev pub invariant-loop-i : goal.invariant-loop-i
invariant-loop-i l = (k : ℕ) → k < l.i → get_or l.space k 0 ≡ four_bytes l.b (4 * k)
