-- Each turn adds the next row, times its weight: both are what the machine reads, and their product and the sum have room.
use Rattle.std.proofs.Common.{◌≡◌, ℕ, List, ℤ, ◌+ℤ◌, w64, FitsSigned, to_z, of_z, sym, ap, ◌∙◌, arith}
use Rattle.std.proofs.lemmas.Int.{to_z-of_z}
use Rattle.arithmetic.specs.Lists.{AtMost}
use Rattle.arithmetic.specs.Sums.{sumℤ}
use Rattle.arithmetic.proofs.SignedSums.{sumℤ_none, sumℤ_more}
use Rattle.arithmetic.proofs.Casts.{product_fits, sum_fits, sum_gives}
use Rattle.sample.specs.declared.coordinate.Coordinate.{Coordinate}
use Rattle.sample.specs.Cubic.{weight}
use Rattle.sample.specs.Asked.{row_sum, row_start, row_term}
use Rattle.sample.proofs.Rows.{sample_done, row_in}
use Rattle.sample.proofs.Reach.{row_fits, rows_fit}
use Rattle.sample.proofs.cubic.around.Goals as goal
use Rattle.sample.proofs.cubic.around.Goals.{After-row_sum}

-- the rows' terms, from the two coordinates
abbrev row_terms : List ℕ → ℕ → Coordinate → Coordinate → ℕ → ℤ
row_terms levels width column row = row_term levels width column.pixel row.pixel column.remainder row.remainder

module _ (c : After-row_sum) where
  abbrev terms : ℕ → ℤ
  terms = row_terms c.args.levels.now c.args.width c.args.column c.args.row

  bytes : AtMost 255 c.args.levels.now
  bytes p = omega (arith, c.type_inv.levels p)

  is_weight : to_z w64 (of_z w64 c.weight.result) ≡ weight c.args.row.remainder c.loop-r.r
  is_weight = to_z-of_z w64 c.weight.result (record { sfits = c.weight.type_inv }) ∙ c.weight.ensures

  is_row : to_z w64 (of_z w64 c.row_sum.result)
      ≡ row_sum c.args.levels.now (row_start c.args.width c.args.column.pixel c.args.row.pixel c.loop-r.r) c.args.column.remainder
  is_row =
      to_z-of_z w64 c.row_sum.result (record { sfits = c.row_sum.type_inv })
      ∙ c.row_sum.ensures
      ∙ ap (λ (at : ℕ). row_sum c.args.levels.now at c.args.column.remainder) (omega arith)

  room : FitsSigned w64 (terms c.loop-r.r)
  room =
      row_fits c.args.levels.now bytes _ _ _ _ _ c.args.column.sixteenths c.args.row.sixteenths c.loop-r.r (omega arith)

  more : FitsSigned w64 (sumℤ c.loop-r.r terms +ℤ terms c.loop-r.r)
  more =
      rows_fit c.args.levels.now bytes _ _ _ _ _ c.args.column.sixteenths c.args.row.sixteenths c.loop-r.r (omega arith)

pub loop-r-init : goal.loop-r-init
loop-r-init c =
    let a = c.args in
    sym (sumℤ_none (row_terms a.levels.now a.width a.column a.row))

pub row_sum-requires : goal.row_sum-requires
row_sum-requires c = omega (arith, row_in c.requires c.loop-r.r c.loop-r-test.true)

pub overflow_mul-sum : goal.overflow_mul-sum
overflow_mul-sum c =
    let w = (goal.at.overflow_mul-sum c).After-row_sum in
    product_fits w64 (is_weight w) (is_row w) (room w)

pub overflow_add-sum : goal.overflow_add-sum
overflow_add-sum c =
    let w = (goal.at.overflow_add-sum c).After-row_sum in
    sum_fits w64 (is_weight w) (is_row w) (room w) c.loop-r.invariant (more w)

pub loop-r-preserved : goal.loop-r-preserved
loop-r-preserved c =
    let w = (goal.at.loop-r-preserved c).After-row_sum in
    let next = sum_gives w64 (is_weight w) (is_row w) (room w) c.loop-r.invariant (more w) in
    next ∙ sym (sumℤ_more c.loop-r.r (terms w))

pub returns : goal.returns
returns c =
    let a = c.args in
    sample_done a.levels.now a.width a.column.pixel a.row.pixel a.column.remainder a.row.remainder c.loop-r.auto.r-end (omega arith)
    c.loop-r.invariant
