-- Records that one can read by hand, as one table, which antt computes: document 01's, each kind, each number, the ends of the sizes.
-- And the bound of the input, by its length. Assumes nothing.
use mathlib.Core.Path.{◌≡◌, refl, ◌∙◌}
use mathlib.Core.List.{List, [], ◌∷◌}
use Prim.Native.Nat.{ℕ}
use native.Mathlib.Decide.{dec_le, dec_lt, ℕ_discrete}
use native.Mathlib.Omega.{arith}
use lib.ListN.{replicate, length-replicate}
use Rattle.arithmetic.proofs.Computed.{EveryRow}
use Rattle.answers.proofs.Refusals.{stops, goes_on}
use Rattle.units.specs.Units.{picometres}
use Rattle.std.specs.Prelude.{None, Some, Ok, Err}
use Rattle.answers.specs.declared.Refusal.TheVariants.{LongInput, UnknownKind, ShortBody}
use Rattle.records.specs.declared.Record.TheVariants.{Picture, Pixel}
use Rattle.records.specs.Records.{Reply, RecordIs}
use Rattle.records.proofs.Bodies.{unknown}
use Rattle.records.proofs.Outcomes.{faulty, one_record_at}
use Rattle.records.proofs.Reading.{known_or_not, of_known, found}

-- a row of the table: an input, an offset, and the record there
pub record Row : Type 0 where
  pub input : List ℕ
  pub offset : ℕ
  pub expected : Reply

abbrev row : List ℕ → ℕ → Reply → Row
row input at r = record { input = input; offset = at; expected = r }

-- the promise permits the row's record, and no other
abbrev pub Holds : Row → Type 0
Holds w = (r : Reply) → RecordIs w.input w.offset r → r ≡ w.expected

-- where looking for a record finds the row's, it does
abbrev Finds : Row → Type 0
Finds w = (found w.input w.offset).0 ≡ w.expected

hold : (l : List Row) → EveryRow Finds l → EveryRow Holds l
hold [] found = tt
hold (w ∷ l) (e, rest) =
    let there = found w.input w.offset in
    (λ r is. one_record_at w.input w.offset r there.0 is there.1 ∙ e, hold l rest)

-- "one kind-1 record whose levels are all 40"
abbrev pub forty : List ℕ
forty = 1 ∷ replicate 256 40

abbrev pub table : List Row
table =
    row forty 0 (Ok (Some (Picture 16 1 257)))
    ∷ row forty 257 (Ok None)
    ∷ row [] 0 (Ok None)
    ∷ row (2 ∷ replicate 4096 9) 0 (Ok (Some (Picture 64 1 4097)))
    ∷ row (3 ∷ 0 ∷ 0 ∷ 0 ∷ 0 ∷ []) 0 (Ok (Some (Pixel (picometres 0) 5)))
    ∷ row (3 ∷ 255 ∷ 255 ∷ 255 ∷ 255 ∷ []) 0 (Ok (Some (Pixel (picometres 4294967295) 5)))
    ∷ row (3 ∷ 32 ∷ 3 ∷ 0 ∷ 0 ∷ 7 ∷ []) 0 (Ok (Some (Pixel (picometres 800) 5)))
    ∷ row (3 ∷ 32 ∷ 3 ∷ 0 ∷ 0 ∷ 7 ∷ []) 5 (Err (faulty UnknownKind 5))
    ∷ row (0 ∷ []) 0 (Err (faulty UnknownKind 0))
    ∷ row (4 ∷ 1 ∷ 2 ∷ 3 ∷ []) 0 (Err (faulty UnknownKind 0))
    ∷ row (1 ∷ replicate 255 40) 0 (Err (faulty ShortBody 0))
    ∷ row (3 ∷ 32 ∷ 3 ∷ 0 ∷ []) 0 (Err (faulty ShortBody 0))
    ∷ row (3 ∷ []) 0 (Err (faulty ShortBody 0))
    ∷ []

pub worked : EveryRow Holds table
unfolding dec_le dec_lt ℕ_discrete known_or_not of_known found
worked = hold table (refl, (refl, (refl, (refl, (refl, (refl, (refl, (refl, (refl, (refl, (refl, (refl, (refl, tt)))))))))))))

-- ---- "program input above 32,768 bytes": so many zeros are looked at, and one byte more is refused, whatever
-- the byte and the offset
pub just_full : (r : Reply) → RecordIs (replicate 32768 0) 0 r → r ≡ Err (faulty UnknownKind 0)
just_full r is =
    one_record_at (replicate 32768 0) 0 r (Err (faulty UnknownKind 0)) is
    (goes_on (omega (arith, length-replicate {A = ℕ} 32768 0))
    (goes_on (omega (arith, length-replicate {A = ℕ} 32768 0))
    (stops (unknown (λ (e : ◌≡◌ {A = ℕ} 0 1). omega arith) (λ (e : ◌≡◌ {A = ℕ} 0 2). omega arith) (λ (e : ◌≡◌ {A = ℕ} 0 3). omega arith)) refl)))

pub too_long : (b at : ℕ) (r : Reply) → RecordIs (replicate 32769 b) at r → r ≡ Err (faulty LongInput 32768)
too_long b at r is = one_record_at (replicate 32769 b) at r (Err (faulty LongInput 32768)) is (stops (λ few. omega (arith, length-replicate 32769 b)) refl)
