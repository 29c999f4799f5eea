-- A, B, C and E are read from the tables: at the first level past t, and at the first that is not below it.
use Rattle.std.proofs.Common.{length, refl, arith}
use Rattle.threshold.proofs.Tables.{Places, places, ReadFrom, sums_in, below_in, read, round_is}
use Rattle.threshold.proofs.means.Summed.round.Goals as goal
use Rattle.threshold.proofs.means.Summed.round.Goals.{After-div_ceil-from}
use Rattle.threshold.proofs.means.Summed.round.Given.{Over}

-- where the tables are read
where_read : (g : Over) (c : After-div_ceil-from g) → Places c.args.self.now.histogram.now c.args.t c.div_ceil-from.result
where_read g c = places _ _ c.requires.within.0 c.requires.within.1 c.div_ceil-from.ensures

-- what is read there
is_read : (g : Over) (c : After-div_ceil-from g) → let s = c.args.self.now in
    ReadFrom s.histogram.now s.below s.sums c.args.t c.div_ceil-from.result (length s.histogram.now)
is_read g c = let s = c.args.self.now in read s.right (where_read g c) refl c.requires.small

pub overflow_sub-high_sum : goal.overflow_sub-high_sum
overflow_sub-high_sum g c =
    let s = c.args.self.now in
    sums_in s.right (where_read g (goal.at.overflow_sub-high_sum g c).After-div_ceil-from) refl

pub overflow_sub-high_number : goal.overflow_sub-high_number
overflow_sub-high_number g c =
    let s = c.args.self.now in
    below_in s.right (where_read g (goal.at.overflow_sub-high_number g c).After-div_ceil-from) refl

pub overflow_mul-numerator : goal.overflow_mul-numerator
overflow_mul-numerator g c = omega (arith, is_read g (goal.at.overflow_mul-numerator g c).After-div_ceil-from)

pub overflow_mul-numerator-2 : goal.overflow_mul-numerator-2
overflow_mul-numerator-2 g c = omega (arith, is_read g (goal.at.overflow_mul-numerator-2 g c).After-div_ceil-from)

pub overflow_add-numerator : goal.overflow_add-numerator
overflow_add-numerator g c = omega (arith, is_read g (goal.at.overflow_add-numerator g c).After-div_ceil-from)

pub overflow_mul-denominator : goal.overflow_mul-denominator
overflow_mul-denominator g c = omega (arith, is_read g (goal.at.overflow_mul-denominator g c).After-div_ceil-from)

pub overflow_mul-denominator-2 : goal.overflow_mul-denominator-2
overflow_mul-denominator-2 g c = omega (arith, is_read g (goal.at.overflow_mul-denominator-2 g c).After-div_ceil-from)

pub returns : goal.returns
returns g c = round_is (is_read g (goal.at.returns g c).After-div_ceil-from)
