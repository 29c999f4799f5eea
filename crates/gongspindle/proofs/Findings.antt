-- What is found at an offset leads on to the next. Assumes nothing.
use mathlib.Core.Path.{refl}
use mathlib.Core.List.{List}
use Prim.Native.Nat.{ℕ, ◌+◌, ◌<◌, ◌≤◌}
use native.Mathlib.Omega.{arith}
use Rattle.std.specs.Prelude.{Some, Result, Ok, Err}
use Rattle.std.specs.Result.{IsErrAnd}
use Rattle.records.specs.declared.Faulty.{Faulty as Faulty-record}
use Rattle.records.specs.declared.Record.TheVariants.{Picture as Record-as-Picture, Pixel as Record-as-Pixel}
use Rattle.records.specs.Records.{Reply, RecordIs, Follows}
use Rattle.records.proofs.Outcomes.{moves_on}
use Rattle.records.proofs.Reading.{Before, one_more, all_read}
use Rattle.gongspindle.specs.declared.look.Said.{Said}
use Rattle.gongspindle.specs.declared.look.Said.TheVariants.{Picture, Pixel}
use Rattle.gongspindle.specs.declared.look.Good.{Good}
use Rattle.gongspindle.specs.declared.Stopped.{Stopped}
use Rattle.gongspindle.specs.Program.{SaidIs, FoundIs, StopsAt, OutcomeIs}

module _ (input : List ℕ) (at : ℕ) where
  -- the record that a line is said of: the next one begins where it ends
  pub said_of : (said : Said) (next : ℕ) → SaidIs input at said next → (r : Reply) × (RecordIs input at r × Follows r next)
  said_of (Picture side line) next is = (Ok (Some (Record-as-Picture side is.0 next)), (is.1.0, refl))
  said_of (Pixel size) next is = (Ok (Some (Record-as-Pixel size next)), (is, refl))

  -- so past a good record one more lies before an offset, which is later and not past the greatest input
  pub record Onward (good next : ℕ) : Type 0 where
    pub one_more : Before input (good + 1) next
    pub later : at < next
    pub few : next ≤ 32768

  pub past_good : {good : ℕ} (r : Good) → Before input good at → FoundIs input at (Ok (Some r)) → Onward good r.next
  past_good r before is =
      let of = said_of r.said r.next is in
      let on = moves_on input at of.0 r.next of.1.0 of.1.1 in
      record { one_more = one_more of.0 r.next before of.1.0 of.1.1; later = on.0; few = omega arith }

-- and a run that stops at a faulty one has read the input up to it
pub stopped : {input : List ℕ} {good at : ℕ} (f : Faulty-record) → Before input good at → RecordIs input at (Err f)
    → (r : Result ℕ Stopped) → IsErrAnd r (StopsAt f) → OutcomeIs input r
stopped f before is (Ok n) at_f = absurd at_f
stopped {good = good} f before is (Err s) at_f = rw at_f (good, all_read (Err f) before is tt)
