-- before the picture, in it, or past it.
use mathlib.Core.Path.{sym}
use native.Mathlib.Omega.{arith}
use Rattle.scan.proofs.Shown.{long_before, long_there, long_past}
use Rattle.scan.proofs.steps.long.Goals as goal

pub returns-then-place-late : goal.returns-then-place-late
returns-then-place-late c = sym (long_before c.args.place.height c.args.place.k c.args.late c.args.place.width (omega arith))

pub returns-then-place-late-2 : goal.returns-then-place-late-2
returns-then-place-late-2 c = sym (long_there c.args.place.height c.args.place.k c.args.late c.args.place.width (omega arith, omega arith))

pub returns-else-place-late-2 : goal.returns-else-place-late-2
returns-else-place-late-2 c = sym (long_past c.args.place.height c.args.place.k c.args.late c.args.place.width (omega arith) (omega arith))
