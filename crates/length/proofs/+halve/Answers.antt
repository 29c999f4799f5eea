-- The middle's square has room, since the interval ends at 2 ^ 27 or before.
use Rattle.std.proofs.Common.{ℕ, ◌+◌, ◌-◌, ◌*◌, ◌/◌, ◌≤◌, arith}
use Rattle.std.proofs.Math.Nat.{mul-le-mul}
use Rattle.length.proofs.+halve.Goals as goal

room : (m : ℕ) → m ≤ 134217728 → m * m ≤ 134217728 * 134217728
room m h = mul-le-mul h h

pub overflow_mul-mid-2 : goal.overflow_mul-mid-2
overflow_mul-mid-2 t c = omega (arith, room (c.args.lo + (c.args.hi - c.args.lo) / 2) (omega arith))
