-- What is added up at each level, and that it fits 64 bits.
use Rattle.std.proofs.Common.{refl, arith}
use Rattle.threshold.proofs.Tables.{filling_none, filling_more, filling_all, number_room, added_room}
use Rattle.threshold.proofs.means.Summed.of.Goals as goal

pub loop-v-init : goal.loop-v-init
loop-v-init g c = (refl, filling_none c.args.histogram.now c.requires.0)

pub overflow_add-number : goal.overflow_add-number
overflow_add-number g c =
    omega (arith, number_room c.loop-v.invariant.1 (λ k. omega (arith, c.type_inv.histogram k)) (omega arith) c.loop-v-test.true)

pub overflow_add-sum : goal.overflow_add-sum
overflow_add-sum g c =
    rw c.from-count.ensures
    (omega (arith, added_room c.loop-v.invariant.1 (λ k. omega (arith, c.type_inv.histogram k)) (omega arith) c.loop-v-test.true))

pub loop-v-preserved : goal.loop-v-preserved
loop-v-preserved g c = rw c.from-count.ensures (c.loop-v.invariant.0, filling_more c.loop-v.invariant.1 c.loop-v-test.true)

pub invariant_of-summed : goal.invariant_of-summed
invariant_of-summed g c =
    let same = c.loop-v.invariant.0 in
    record {
      levels = rw same c.requires.0;
      right = rw same (filling_all c.loop-v.invariant.1 c.loop-v.auto.v-end c.loop-v-test.false);
    }

pub returns : goal.returns
returns g c = c.loop-v.invariant.0
