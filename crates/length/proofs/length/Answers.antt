-- Past the four tests the factor and the pixel size are in range: so their product and its square have room, and the interval
-- that halving starts with ends before 2 ^ 27.
use Rattle.std.proofs.Common.{arith}
use Rattle.length.proofs.Laws.{Ranged, product, squared, start}
use Rattle.length.proofs.length.Goals as goal

pub overflow_mul-product-2 : goal.overflow_mul-product-2
overflow_mul-product-2 c =
    let ranged : Ranged c.natural-s.result c.amount-p.result =
    record { factor_low = omega arith; factor_high = omega arith; pixel_low = omega arith; pixel_high = omega arith } in
    omega (arith, squared (product ranged))

pub halve-q-requires : goal.halve-q-requires
halve-q-requires c =
    let ranged : Ranged c.natural-s.result c.amount-p.result =
    record { factor_low = omega arith; factor_high = omega arith; pixel_low = omega arith; pixel_high = omega arith } in
    (start _, omega (arith, product ranged))
