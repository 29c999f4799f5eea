-- Document 01, "Numbers that come back": the table.
use Rattle.std.specs.Prelude.{ℕ, Result, Ok, Err}
use Rattle.answers.specs.declared.Refusal.{Refusal}
use Rattle.answers.specs.declared.Refusal.TheVariants.{SideOutOfRange, WrongLevels, ShortOutput, ShortWork, SideNotByFour}
use Rattle.answers.specs.declared.Refusal.TheVariants.{BrightOutOfRange, DarkOutOfRange, NoNoise, LowRatio, WrongHistogram}
use Rattle.answers.specs.declared.Refusal.TheVariants.{EmptyHistogram, LargeTotal, PlaceOutside, FactorOrPixelOutOfRange}
use Rattle.answers.specs.declared.Refusal.TheVariants.{InputOutOfRange, UnknownKind, ShortBody, LongInput, PartOfARow}
use Rattle.answers.specs.declared.Refusal.TheVariants.{RowsBeyond, NotTheEnd}

-- the table's column "no."
abbrev pub number_of : Refusal → ℕ
number_of SideOutOfRange = 1
number_of WrongLevels = 2
number_of ShortOutput = 3
number_of ShortWork = 4
number_of SideNotByFour = 5
number_of BrightOutOfRange = 6
number_of DarkOutOfRange = 7
number_of NoNoise = 8
number_of LowRatio = 9
number_of WrongHistogram = 10
number_of EmptyHistogram = 11
number_of LargeTotal = 12
number_of PlaceOutside = 13
number_of FactorOrPixelOutOfRange = 14
number_of InputOutOfRange = 15
number_of UnknownKind = 16
number_of ShortBody = 17
number_of LongInput = 18
number_of PartOfARow = 20
number_of RowsBeyond = 21
number_of NotTheEnd = 22

-- what a call that answers comes back with: "0 | done", or the number of its refusal
abbrev pub told : {A : Type 0} → Result A Refusal → ℕ
told (Ok a) = 0
told (Err r) = number_of r
