-- the rows are filled with zeros, and the three numbers before them set.
use native.Mathlib.Omega.{arith}
use Rattle.memory.specs.Memory.{zeros}
use Rattle.memory.proofs.Memories.{reset_is}
use Rattle.memory.proofs.reset.Goals as goal

pub returns : goal.returns
unfolding zeros
returns c =
    reset_is c.args.width c.args.height 0 c.args.held.now c.fill.new.self (omega arith) (c.fill.ensures.after (λ y same. same))
