-- Each turn adds the next term of the row: the weight and the level are what the machine reads, and their product and the sum have room.
use Rattle.std.proofs.Common.{◌≡◌, ℕ, ◌+◌, ℤ, pos, ◌+ℤ◌, get_or, w64, FitsSigned, to_z, of_z, sym, ◌∙◌, arith}
use Rattle.std.proofs.lemmas.Int.{to_z-of_z}
use Rattle.arithmetic.specs.Lists.{AtMost}
use Rattle.arithmetic.specs.Sums.{sumℤ}
use Rattle.arithmetic.proofs.SignedSums.{sumℤ_none, sumℤ_more}
use Rattle.arithmetic.proofs.Casts.{product_fits, sum_fits, sum_gives}
use Rattle.sample.specs.Cubic.{weight}
use Rattle.sample.specs.Asked.{column_term}
use Rattle.sample.proofs.Reach.{column_fits, columns_fit}
use Rattle.sample.proofs.Rows.{row_done}
use Rattle.sample.proofs.cubic.row_sum.Goals as goal
use Rattle.sample.proofs.cubic.row_sum.Goals.{After-from}

module _ (c : After-from) where
  -- the row's terms
  abbrev terms : ℕ → ℤ
  terms = column_term c.args.levels.now c.args.at c.args.column.remainder

  bytes : AtMost 255 c.args.levels.now
  bytes p = omega (arith, c.type_inv.levels p)

  is_weight : to_z w64 (of_z w64 c.weight.result) ≡ weight c.args.column.remainder c.loop-t.t
  is_weight = to_z-of_z w64 c.weight.result (record { sfits = c.weight.type_inv }) ∙ c.weight.ensures

  is_level : to_z w64 (of_z w64 c.from.result) ≡ pos (get_or c.args.levels.now (c.args.at + c.loop-t.t) 0)
  is_level = to_z-of_z w64 c.from.result (record { sfits = c.from.type_inv }) ∙ c.from.ensures

  room : FitsSigned w64 (terms c.loop-t.t)
  room = column_fits c.args.levels.now bytes c.args.at c.args.column.remainder c.args.column.sixteenths c.loop-t.t (omega arith)

  more : FitsSigned w64 (sumℤ c.loop-t.t terms +ℤ terms c.loop-t.t)
  more = columns_fit c.args.levels.now bytes c.args.at c.args.column.remainder c.args.column.sixteenths c.loop-t.t (omega arith)

pub loop-t-init : goal.loop-t-init
loop-t-init c = sym (sumℤ_none (column_term c.args.levels.now c.args.at c.args.column.remainder))

pub overflow_mul-sum : goal.overflow_mul-sum
overflow_mul-sum c =
    let w = (goal.at.overflow_mul-sum c).After-from in
    product_fits w64 (is_weight w) (is_level w) (room w)

pub overflow_add-sum : goal.overflow_add-sum
overflow_add-sum c =
    let w = (goal.at.overflow_add-sum c).After-from in
    sum_fits w64 (is_weight w) (is_level w) (room w) c.loop-t.invariant (more w)

pub loop-t-preserved : goal.loop-t-preserved
loop-t-preserved c =
    let w = (goal.at.loop-t-preserved c).After-from in
    let next = sum_gives w64 (is_weight w) (is_level w) (room w) c.loop-t.invariant (more w) in
    next ∙ sym (sumℤ_more c.loop-t.t (terms w))

pub returns : goal.returns
returns c = row_done c.args.levels.now c.args.at c.args.column.remainder c.loop-t.auto.t-end (omega arith) c.loop-t.invariant
