-- below 32,768 the signed order is the order of natural numbers.
use mathlib.Core.Path.{◌≡◌, refl, ◌∙◌}
use mathlib.Core.Bool.{Bool, true, false, cond}
use lib.Dec.{ltb}
use mir.Val.{bool_byte}
use native.Mathlib.Omega.{arith}
use mir.Syntax.{w16}
use mir.ValLaws.{to_z_pos}
use Rattle.filter.specs.Counting.{one_below}
use Rattle.filter.proofs.median.one_below.Goals as goal

byte_is : (t : Bool) → bool_byte t ≡ cond t 1 0
byte_is true = refl
byte_is false = refl

pub returns : goal.returns
unfolding one_below
returns c =
    c.from.ensures ∙ rw (to_z_pos w16 c.args.a (omega arith), to_z_pos w16 c.args.b (omega arith)) (byte_is (ltb c.args.a c.args.b))
