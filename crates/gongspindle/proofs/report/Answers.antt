-- Each record begins where the one before it ends, from the first byte on, up to the end of the input or to a faulty one.
use Rattle.std.specs.Prelude.{Ok, None}
use Rattle.std.proofs.Common.{arith}
use Rattle.records.proofs.Reading.{all_read}
use Rattle.gongspindle.proofs.Findings.{past_good, stopped}
use Rattle.gongspindle.proofs.report.Goals as goal

pub loop-record-preserved : goal.loop-record-preserved
loop-record-preserved g c =
    let on = past_good _ _ c.in-Some.record c.loop-record.invariant.0 (rw c.in-Some.is at c.in_ok-record.ensures) in
    (on.one_more, omega arith, on.few)

pub returns-in_err-record : goal.returns-in_err-record
returns-in_err-record g c =
    stopped c.in_err-record.field-0.0 c.loop-record.invariant.0 c.in_err-record.ensures c.from_residual.result c.from_residual.ensures.1

pub returns : goal.returns
returns g c = all_read (Ok None) c.loop-record.invariant.0 (rw c.in_default.is at c.in_ok-record.ensures) tt
