-- the part of t behind the first n is the row's columns, and what lies before it is left alone.
use Rattle.std.proofs.Common.{◌++◌, ◌+◌, ◌∙◌, List, ℕ, arith, ap, take}
use Rattle.std.proofs.lemmas.Slice.{take-put_mid}
use Rattle.arithmetic.proofs.Lists.{part_is}
use Rattle.filter.proofs.block.gather.Goals as goal

pub returns : goal.returns
returns c =
    let stored = c.copy_from_slice.ensures.after ∙ part_is c.args.first (c.args.first + c.args.count) c.args.row.now (omega arith) in
    take-put_mid c.args.n _ c.args.t.now _ (c.args.n + c.args.count) (omega arith) (omega arith)
    ∙ ap (λ (l : List ℕ). take c.args.n c.args.t.now ++ l) stored
