-- Document 01, "The program": what is found at an offset of the input, and what a run comes to.
use Rattle.std.specs.Prelude.{◌≡◌, List, ℕ, ◌-◌, take, drop, Option, None, Some, Result, Ok, Err}
use Rattle.streams.specs.declared.Failed.{Failed}
use Rattle.records.specs.declared.Faulty.{Faulty as Faulty-record}
use Rattle.records.specs.declared.Record.TheVariants.{Picture as Record-as-Picture, Pixel as Record-as-Pixel}
use Rattle.records.specs.Records.{RecordIs, Reading}
use Rattle.gongspindle.specs.declared.look.Said.{Said}
use Rattle.gongspindle.specs.declared.look.Said.TheVariants.{Picture, Pixel}
use Rattle.gongspindle.specs.declared.look.Good.{Good}
use Rattle.gongspindle.specs.declared.Stopped.{Stopped}
use Rattle.gongspindle.specs.declared.Stopped.TheVariants.{Faulty, Unwritten}
use Rattle.gongspindle.specs.Line.{LineIs}

-- the bytes of the input from an offset up to, not at, another
abbrev pub part : List ℕ → ℕ → ℕ → List ℕ
part input start end = take (end - start) (drop start input)

-- "For a picture it prints ..": the record there is a picture, whose levels are a part of the input, and the line is that of these levels.
-- "for kind 3 `pixel` and the size": the record there is that size. The next one begins where it ends.
abbrev pub SaidIs : List ℕ → ℕ → Said → ℕ → Type 0
SaidIs input at (Picture side line) next =
    (start : ℕ) × (RecordIs input at (Ok (Some (Record-as-Picture side start next))) × LineIs (part input start next) side line)
SaidIs input at (Pixel size) next = RecordIs input at (Ok (Some (Record-as-Pixel size next)))

-- a good record, and what its line says; or the end of the input; or a faulty record
abbrev pub FoundIs : List ℕ → ℕ → Result (Option Good) Faulty-record → Type 0
FoundIs input at (Ok (Some good)) = SaidIs input at good.said good.next
FoundIs input at (Ok None) = RecordIs input at (Ok None)
FoundIs input at (Err f) = RecordIs input at (Err f)

-- how a run stops at what a call below it fails with
abbrev pub StopsAt : Faulty-record → Stopped → Type 0
StopsAt f s = s ≡ Faulty f

abbrev pub StopsUnwritten : Failed → Stopped → Type 0
StopsUnwritten f s = s ≡ Unwritten f

-- the input is read from its first byte on, record by record: "at the end `records` and their number", and that is how many good ones there
-- are up to the end; "A faulty record gives `bad`, number, `at`, offset of its kind byte", and that is the one after the good ones. Of a
-- run that could not write a line nothing is said: no contract can tell that a write failed.
abbrev pub OutcomeIs : List ℕ → Result ℕ Stopped → Type 0
OutcomeIs input (Ok good) = Reading input good 0 (Ok None)
OutcomeIs input (Err (Faulty f)) = (good : ℕ) × Reading input good 0 (Err f)
OutcomeIs input (Err (Unwritten failed)) = Unit {0}
