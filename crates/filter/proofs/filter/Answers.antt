-- the sizes decide the number, and past them the three passes fill both buffers (`done`).
use mathlib.Core.Path.{ap}
use native.Mathlib.Omega.{arith}
use Rattle.answers.specs.Numbers.{told}
use Rattle.filter.proofs.Outcomes.{fits, done}
use Rattle.filter.proofs.filter.Goals as goal

-- past the sizes, which fit, the three passes fill both buffers
pub returns : goal.returns
returns c =
    let fit = fits _ _ _ _ _ _ (ap told c.in_ok-sizes.was) c.sizes.ensures in
    done c.args.levels.now c.args.width c.args.height c.args.output.now c.args.work.now _ _ (λ k. omega (arith, c.type_inv.levels k)) fit
    c.three_passes.ensures.0 c.three_passes.ensures.1
