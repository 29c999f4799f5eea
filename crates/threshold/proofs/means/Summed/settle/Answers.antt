-- The laws of the loop are in Settling.antt. Before a round it must also be seen that `self`, of P places, has a size: P is small.
use Rattle.std.proofs.Common.{◌≡◌, ◌*◌, ◌-◌, ◌<◌, length, sym, ◌∙◌, arith}
use Rattle.threshold.proofs.Settling.{told_apart, told_one, first_within, first_room, going_first}
use Rattle.threshold.proofs.Settling.{next_within, going_on, still_time, going_ends}
use Rattle.threshold.proofs.means.Summed.settle.Goals as goal
use Rattle.threshold.proofs.means.Summed.settle.Goals.{In-loop-next}
use Rattle.threshold.proofs.means.Summed.settle.Given.{Over}

-- in a turn of the loop the threshold has moved, and there is time for a round more
moved : (g : Over) (c : In-loop-next g) → ¬ (c.loop-next.t ≡ c.loop-next.next)
moved g c = told_apart c.loop-next.t c.loop-next.next (sym c.ne.ensures ∙ c.loop-next-test.true)

in_time : (g : Over) (c : In-loop-next g) → c.loop-next.rounds < 2 * length c.args.self.now.histogram.now - 1
in_time g c =
    still_time c.args.usual c.args.self.now.histogram.now c.requires.some c.loop-next.rounds c.loop-next.t c.loop-next.next
    c.loop-next.invariant
    (moved g c)

pub round-next-requires : goal.round-next-requires
round-next-requires g c =
    let some = c.requires.some in
    let within = first_within c.args.usual c.args.self.now.histogram.now some c.start-first.result c.start-first.ensures in
    (omega (arith, c.requires.small.levels, c.args.self.now.levels), (c.requires.small, (some, within)))

pub overflow_mul-t : goal.overflow_mul-t
overflow_mul-t g c =
    omega (
      arith,
      first_room c.args.usual c.args.self.now.histogram.now c.requires.some c.requires.small c.start-first.result c.round-next.result
          c.start-first.ensures c.round-next.ensures,
    )

pub loop-next-init : goal.loop-next-init
loop-next-init g c =
    going_first c.args.usual c.args.self.now.histogram.now c.requires.some c.start-first.result c.round-next.result
    c.start-first.ensures c.round-next.ensures

pub round-next-requires-in-loop-next : goal.round-next-requires-in-loop-next
round-next-requires-in-loop-next g c =
    let some = c.requires.some in
    let within = next_within c.args.usual c.args.self.now.histogram.now some c.loop-next.invariant in
    (omega (arith, c.requires.small.levels, c.args.self.now.levels), (c.requires.small, (some, within)))

pub overflow_add-rounds : goal.overflow_add-rounds
overflow_add-rounds g c = omega (arith, in_time g (goal.at.overflow_add-rounds g c).In-loop-next)

pub loop-next-smaller : goal.loop-next-smaller
loop-next-smaller g c = omega (arith, in_time g (goal.at.loop-next-smaller g c).In-loop-next)

pub loop-next-preserved : goal.loop-next-preserved
loop-next-preserved g c =
    going_on c.args.usual c.args.self.now.histogram.now c.requires.some c.loop-next.rounds c.loop-next.t c.loop-next.next
    c.round-next-in-loop-next.result c.loop-next.invariant
    (moved g (goal.at.loop-next-preserved g c).In-loop-next)
    c.round-next-in-loop-next.ensures

pub returns : goal.returns
returns g c =
    going_ends c.args.usual c.args.self.now.histogram.now c.requires.some c.loop-next.rounds c.loop-next.t c.loop-next.next
    c.loop-next.invariant
    (told_one c.loop-next.t c.loop-next.next (sym c.ne.ensures ∙ c.loop-next-test.false))
