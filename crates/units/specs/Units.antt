-- A number of each unit, as the contracts write it.
use Rattle.std.specs.Prelude.{ℕ, ℤ}
use Rattle.units.specs.declared.Sixteenths.{Sixteenths}
use Rattle.units.specs.declared.Picometres.{Picometres}
use Rattle.units.specs.declared.Eighths.{Eighths}

abbrev pub sixteenths : ℤ → Sixteenths
sixteenths n = record { 0 = n }

abbrev pub picometres : ℕ → Picometres
picometres n = record { 0 = n }

abbrev pub eighths : ℕ → Eighths
eighths n = record { 0 = n }
