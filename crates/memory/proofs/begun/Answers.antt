-- each test is one of the things that a good start leaves.
use native.Mathlib.Omega.{arith}
use Rattle.memory.proofs.Memories.{begun_told}
use Rattle.memory.proofs.begun.Goals as goal

pub returns : goal.returns
returns c =
    begun_told c.args.held.now _ (omega arith) (omega arith, omega arith) (omega arith, omega arith)
    (rw c.from-width.ensures at c.in_range.ensures)
