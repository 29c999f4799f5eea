-- Document 01, "The program", and the numbers 16, 17 and 18 of its table: the record that begins at an offset of the input.
use Rattle.std.specs.Prelude.{◌≡◌, cond, List, [], ◌∷◌, ◌⊎◌, ℕ, zero, suc, ◌+◌, ◌<◌, ◌≤◌, eqb, length}
use Rattle.std.specs.Prelude.{Option, None, Some, Result, Ok, Err, MatchResult}
use Rattle.arithmetic.specs.Bytes.{byte, four_bytes}
use Rattle.answers.specs.Refusals.{Unless}
use Rattle.answers.specs.Numbers.{number_of}
use Rattle.answers.specs.declared.Refusal.{Refusal}
use Rattle.answers.specs.declared.Refusal.TheVariants.{UnknownKind}
use Rattle.records.specs.declared.Kind.{Kind}
use Rattle.records.specs.declared.Kind.TheVariants.{SmallPicture, LargePicture, PixelSize}
use Rattle.records.specs.declared.Record.{Record}
use Rattle.records.specs.declared.Record.TheVariants.{Picture, Pixel}
use Rattle.records.specs.declared.Faulty.{Faulty}

-- "Kind 1", "Kind 2", "Kind 3", and no other
abbrev pub Known : ℕ → Type 0
Known kind = (kind ≡ 1) ⊎ ((kind ≡ 2) ⊎ (kind ≡ 3))

-- "a body whose length the kind fixes": "Kind 1: a 16×16 picture, 256 bytes. Kind 2: a 64×64 picture, 4,096 bytes. Kind 3: pixel
-- size, 4 bytes"
abbrev pub body_length : ℕ → ℕ
body_length kind = cond (eqb kind 1) 256 (cond (eqb kind 2) 4_096 4)

-- the byte of each kind; and whether a byte is one of them, and which
abbrev pub byte_of : Kind → ℕ
byte_of SmallPicture = 1
byte_of LargePicture = 2
byte_of PixelSize = 3

abbrev pub KindIs : ℕ → Result Kind Refusal → Type 0
KindIs byte r = MatchResult r (λ kind. byte ≡ byte_of kind) (λ why. (¬ Known byte) × (why ≡ UnknownKind))

-- what comes back: a good record, or nothing where the input ends, or a faulty one
abbrev pub Reply : Type 0
Reply = Result (Option Record) Faulty

-- an answer in this paper's terms: its number, and the values beside it
pub record Answer : Type 0 where
  pub number : ℕ
  pub values : List ℕ

abbrev pub answer : ℕ → List ℕ → Answer
answer number values = record { number = number; values = values }

-- "a definition that gives this paper's number and values for each of the enum's cases": 0, done, with a picture's side and where its
-- levels start and end, or with a size and where it ends, or with nothing at the end of the input; and a faulty one's number and offset
abbrev pub good_answer : Record → Answer
good_answer (Picture side start end) = answer 0 (side ∷ start ∷ end ∷ [])
good_answer (Pixel size end) = answer 0 (size.0 ∷ end ∷ [])

abbrev pub answer_of : Reply → Answer
answer_of (Ok (Some r)) = good_answer r
answer_of (Ok None) = answer 0 []
answer_of (Err f) = answer (number_of f.why) (f.offset ∷ [])

-- the answer for a record by its kind, whose body lies from an offset up to, not at, another
abbrev pub by_kind : List ℕ → ℕ → ℕ → ℕ → Answer
by_kind input kind start end =
    cond (eqb kind 1) (answer 0 (16 ∷ start ∷ end ∷ []))
    (cond (eqb kind 2) (answer 0 (64 ∷ start ∷ end ∷ []))
    (answer 0 (four_bytes input start ∷ end ∷ [])))

-- "18 | program input above 32,768 bytes", whatever is in it: "Input too long gives only `bad 18 at 32768`". At the end of the input
-- there is no record. Else "16 | unknown record kind", "17 | record body cut short", each with the "offset of its kind byte".
abbrev pub RecordIs : List ℕ → ℕ → Reply → Type 0
RecordIs input at r =
    Unless (length input ≤ 32_768) (answer_of r ≡ answer 18 (32_768 ∷ []))
    (Unless (at < length input) (answer_of r ≡ answer 0 [])
    (Unless (Known (byte input at)) (answer_of r ≡ answer 16 (at ∷ []))
    (Unless (at + 1 + body_length (byte input at) ≤ length input) (answer_of r ≡ answer 17 (at ∷ []))
    (answer_of r ≡ by_kind input (byte input at) (at + 1) (at + 1 + body_length (byte input at))))))

-- the next record begins where a good one ends
abbrev pub Follows : Reply → ℕ → Type 0
Follows (Ok (Some (Picture side start end))) next = next ≡ end
Follows (Ok (Some (Pixel size end))) next = next ≡ end
Follows (Ok None) next = ⊥
Follows (Err f) next = ⊥

-- nothing follows the end of the input, nor a faulty record, which gives its line "as the last line"
abbrev pub Last : Reply → Type 0
Last (Ok (Some (Picture side start end))) = ⊥
Last (Ok (Some (Pixel size end))) = ⊥
Last (Ok None) = Unit {0}
Last (Err f) = Unit {0}

-- "It reads standard input: records": from an offset on k good ones, each beginning where the one before it ends, "after the good
-- records" the last
abbrev pub Reading : List ℕ → ℕ → ℕ → Reply → Type 0
Reading input zero at last = RecordIs input at last × Last last
Reading input (suc k) at last =
    (r : Reply) × (RecordIs input at r × ((next : ℕ) × (Follows r next × Reading input k next last)))
