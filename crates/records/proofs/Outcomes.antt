-- What a reader of records knows: the record at an offset is determined; a good one lies in the input, past its offset, and the
-- next one begins later; a faulty one has one of three numbers, and its offset. Assumes nothing.
use mathlib.Core.Path.{◌≡◌, refl, ap}
use mathlib.Core.List.{List, [], ◌∷◌}
use mathlib.Core.Logic.{◌⊎◌, inl, inr}
use Prim.Native.Nat.{ℕ, ◌+◌, ◌*◌, ◌<◌, ◌≤◌}
use native.Mathlib.Omega.{arith}
use lib.Dec.{lit≤}
use lib.ListN.{length}
use Rattle.answers.proofs.Refusals.{alike, together}
use Rattle.units.specs.declared.Picometres.{Picometres}
use Rattle.std.specs.Prelude.{None, Some, Ok, Err}
use Rattle.answers.specs.declared.Refusal.TheVariants.{LongInput, UnknownKind, ShortBody}
use Rattle.records.specs.declared.Record.TheVariants.{Picture, Pixel}
use Rattle.records.specs.declared.Faulty.{Faulty}
use Rattle.answers.specs.Numbers.{number_of}
use Rattle.answers.specs.declared.Refusal.{Refusal}
use Rattle.answers.proofs.Numbers.{one_refusal}
use Rattle.units.specs.Units.{picometres}
use Rattle.arithmetic.specs.Bytes.{byte, four_bytes}
use Rattle.records.specs.Records.{Known, body_length, Answer, Reply, answer, answer_of, by_kind, RecordIs, Follows}

-- a faulty record by its two parts
abbrev pub faulty : Refusal → ℕ → Faulty
faulty why offset = record { why = why; offset = offset }

-- ---- an answer is that of one reply only: how many values there are tells the cases apart
pub one_reply : (r r' : Reply) → answer_of r ≡ answer_of r' → r ≡ r'
one_reply (Ok (Some (Picture side start end))) (Ok (Some (Picture side' start' end'))) e = let v = ap (λ (a : Answer). a.values) e in cc
one_reply (Ok (Some (Picture side start end))) (Ok (Some (Pixel size' end'))) e = let v = ap (λ (a : Answer). a.values) e in cc
one_reply (Ok (Some (Picture side start end))) (Ok None) e = let v = ap (λ (a : Answer). a.values) e in cc
one_reply (Ok (Some (Picture side start end))) (Err g) e = let v = ap (λ (a : Answer). a.values) e in cc
one_reply (Ok (Some (Pixel size end))) (Ok (Some (Picture side' start' end'))) e = let v = ap (λ (a : Answer). a.values) e in cc
one_reply (Ok (Some (Pixel size end))) (Ok (Some (Pixel size' end'))) e =
    let v = ap (λ (a : Answer). a.values) e in
    let s : size.0 ≡ size'.0 = cc in
    let t : end ≡ end' = cc in
    λ i. Ok (Some (Pixel (picometres (s i)) (t i)))
one_reply (Ok (Some (Pixel size end))) (Ok None) e = let v = ap (λ (a : Answer). a.values) e in cc
one_reply (Ok (Some (Pixel size end))) (Err g) e = let v = ap (λ (a : Answer). a.values) e in cc
one_reply (Ok None) (Ok (Some (Picture side' start' end'))) e = let v = ap (λ (a : Answer). a.values) e in cc
one_reply (Ok None) (Ok (Some (Pixel size' end'))) e = let v = ap (λ (a : Answer). a.values) e in cc
one_reply (Ok None) (Ok None) e = refl
one_reply (Ok None) (Err g) e = let v = ap (λ (a : Answer). a.values) e in cc
one_reply (Err f) (Ok (Some (Picture side' start' end'))) e = let v = ap (λ (a : Answer). a.values) e in cc
one_reply (Err f) (Ok (Some (Pixel size' end'))) e = let v = ap (λ (a : Answer). a.values) e in cc
one_reply (Err f) (Ok None) e = let v = ap (λ (a : Answer). a.values) e in cc
one_reply (Err f) (Err g) e =
    let why = one_refusal f.why g.why (ap (λ (a : Answer). a.number) e) in
    let v = ap (λ (a : Answer). a.values) e in
    let offset : f.offset ≡ g.offset = cc in
    λ i. Err (faulty (why i) (offset i))

pub one_answered : {a : Answer} (r r' : Reply) → answer_of r ≡ a → answer_of r' ≡ a → r ≡ r'
one_answered r r' e e' = one_reply r r' (alike e e')

-- any two records that the promise permits at an offset are one
pub one_record_at : (input : List ℕ) (at : ℕ) (r r' : Reply) → RecordIs input at r → RecordIs input at r' → r ≡ r'
one_record_at input at r r' = together same (together same (together same (together same same)))
  where
    same : {a : Answer} → answer_of r ≡ a → answer_of r' ≡ a → r ≡ r'
    same = one_answered r r'

-- ---- which of the four a record is: a record of one case is none of another; and its numbers
abbrev which : Reply → ℕ
which (Ok (Some (Picture side start end))) = 1
which (Ok (Some (Pixel size end))) = 2
which (Ok None) = 3
which (Err f) = 4

conflict : {C : Type 0} {r x : Reply} → r ≡ x → ¬ (which r ≡ which x) → C
conflict e apart = absurd (apart (ap which e))

abbrev side_of : Reply → ℕ
side_of (Ok (Some (Picture side start end))) = side
side_of (Ok (Some (Pixel size end))) = 0
side_of (Ok None) = 0
side_of (Err f) = 0

-- where a body starts, or the offset of a faulty record
abbrev start_of : Reply → ℕ
start_of (Ok (Some (Picture side start end))) = start
start_of (Ok (Some (Pixel size end))) = 0
start_of (Ok None) = 0
start_of (Err f) = f.offset

abbrev end_of : Reply → ℕ
end_of (Ok (Some (Picture side start end))) = end
end_of (Ok (Some (Pixel size end))) = end
end_of (Ok None) = 0
end_of (Err f) = 0

abbrev size_of : Reply → Picometres
size_of (Ok (Some (Picture side start end))) = picometres 0
size_of (Ok (Some (Pixel size end))) = size
size_of (Ok None) = picometres 0
size_of (Err f) = picometres 0

-- the number and the offset of a faulty record, by its answer
bad_by : (f : Faulty) {n o : ℕ} → answer_of (Err f) ≡ answer n (o ∷ []) → (number_of f.why ≡ n) × (f.offset ≡ o)
bad_by f e = (ap (λ (a : Answer). a.number) e, (let v = ap (λ (a : Answer). a.values) e in cc))

module _ (input : List ℕ) (at : ℕ) where
  -- ---- a good record: the input is not too long, the record is one of three, by its kind, and its body is all there
  abbrev Whole : Reply → Type 0
  Whole r =
      (length input ≤ 32768)
      × (((r ≡ Ok (Some (Picture 16 (at + 1) (at + 1 + 256)))) × (at + 1 + 256 ≤ length input))
      ⊎ (((r ≡ Ok (Some (Picture 64 (at + 1) (at + 1 + 4096)))) × (at + 1 + 4096 ≤ length input))
      ⊎ ((r ≡ Ok (Some (Pixel (picometres (four_bytes input (at + 1))) (at + 1 + 4)))) × (at + 1 + 4 ≤ length input))))

  of_kind : (r : Reply) (kind : ℕ) → length input ≤ 32768 → Known kind → at + 1 + body_length kind ≤ length input
      → answer_of r ≡ by_kind input kind (at + 1) (at + 1 + body_length kind) → Whole r
  of_kind r kind few (inl e) there is = (few, inl (one_reply r (Ok (Some (Picture 16 (at + 1) (at + 1 + 256)))) (rw e at is), rw e at there))
  of_kind r kind few (inr (inl e)) there is = (few, inr (inl (one_reply r (Ok (Some (Picture 64 (at + 1) (at + 1 + 4096)))) (rw e at is), rw e at there)))
  of_kind r kind few (inr (inr e)) there is =
      (few, inr (inr (one_reply r (Ok (Some (Pixel (picometres (four_bytes input (at + 1))) (at + 1 + 4)))) (rw e at is), rw e at there)))

  whole : (r : Reply) → which r ≤ 2 → RecordIs input at r → Whole r
  whole r good (inl a) = conflict (one_reply r (Err (faulty LongInput 32768)) a.1) (λ e. omega arith)
  whole r good (inr (few, inl a)) = conflict (one_reply r (Ok None) a.1) (λ e. omega arith)
  whole r good (inr (few, inr (in-it, inl a))) = conflict (one_reply r (Err (faulty UnknownKind at)) a.1) (λ e. omega arith)
  whole r good (inr (few, inr (in-it, inr (known, inl a)))) = conflict (one_reply r (Err (faulty ShortBody at)) a.1) (λ e. omega arith)
  whole r good (inr (few, inr (in-it, inr (known, inr (there, is))))) = of_kind r (byte input at) few known there is

  -- a picture's levels: from past the kind byte on, side·side of them, all in the input
  pub record Levels (side start end : ℕ) : Type 0 where
    pub starts : start ≡ at + 1
    pub ends : end ≡ start + side * side
    pub side-is : (side ≡ 16) ⊎ (side ≡ 64)
    pub inside : end ≤ length input
    pub few : length input ≤ 32768

  levels : (side start end : ℕ) → Whole (Ok (Some (Picture side start end))) → Levels side start end
  levels side start end (few, inl (is, there)) =
      let s = ap side_of is in let b = ap start_of is in let e = ap end_of is in
      record { starts = b; ends = rw s (omega arith); side-is = inl s; inside = omega arith; few = few }
  levels side start end (few, inr (inl (is, there))) =
      let s = ap side_of is in let b = ap start_of is in let e = ap end_of is in
      record { starts = b; ends = rw s (omega arith); side-is = inr s; inside = omega arith; few = few }
  levels side start end (few, inr (inr (is, there))) = conflict is (λ e. omega arith)

  pub picture_lies : (side start end : ℕ) → RecordIs input at (Ok (Some (Picture side start end))) → Levels side start end
  picture_lies side start end is = levels side start end (whole (Ok (Some (Picture side start end))) (lit≤ tt) is)

  -- a pixel's size: its four bytes follow the kind byte, all in the input
  pub record Size (size : Picometres) (end : ℕ) : Type 0 where
    pub size_is : size ≡ picometres (four_bytes input (at + 1))
    pub ends : end ≡ at + 5
    pub inside : end ≤ length input
    pub few : length input ≤ 32768

  size_is : (size : Picometres) (end : ℕ) → Whole (Ok (Some (Pixel size end))) → Size size end
  size_is size end (few, inl (is, there)) = conflict is (λ e. omega arith)
  size_is size end (few, inr (inl (is, there))) = conflict is (λ e. omega arith)
  size_is size end (few, inr (inr (is, there))) =
      let e = ap end_of is in
      record { size_is = ap size_of is; ends = omega arith; inside = omega arith; few = few }

  pub pixel_lies : (size : Picometres) (end : ℕ) → RecordIs input at (Ok (Some (Pixel size end))) → Size size end
  pixel_lies size end is = size_is size end (whole (Ok (Some (Pixel size end))) (lit≤ tt) is)

  -- the record after a good one begins later, and no later than the input ends
  pub moves_on : (r : Reply) (next : ℕ) → RecordIs input at r → Follows r next → (at < next) × (next ≤ length input) × (length input ≤ 32768)
  moves_on (Ok (Some (Picture side start end))) next is follows = let l = picture_lies side start end is in (omega arith, omega arith, l.few)
  moves_on (Ok (Some (Pixel size end))) next is follows = let l = pixel_lies size end is in (omega arith, omega arith, l.few)
  moves_on (Ok None) next is follows = absurd follows
  moves_on (Err f) next is follows = absurd follows

  -- a good one is not faulty
  not_bad : (r : Reply) → Whole r → which r ≤ 2
  not_bad r (few, inl (is, there)) = let e = ap which is in omega arith
  not_bad r (few, inr (inl (is, there))) = let e = ap which is in omega arith
  not_bad r (few, inr (inr (is, there))) = let e = ap which is in omega arith

  -- a faulty one has the number 18 and the offset 32,768, or the number 16 or 17 and its own offset
  pub bad_is : (f : Faulty) → RecordIs input at (Err f)
      → ((number_of f.why ≡ 18) × (f.offset ≡ 32768)) ⊎ (((number_of f.why ≡ 16) ⊎ (number_of f.why ≡ 17)) × (f.offset ≡ at))
  bad_is f (inl a) = inl (bad_by f a.1)
  bad_is f (inr (few, inl a)) = conflict (one_reply (Err f) (Ok None) a.1) (λ e. omega arith)
  bad_is f (inr (few, inr (in-it, inl a))) = let b = bad_by f a.1 in inr (inl b.0, b.1)
  bad_is f (inr (few, inr (in-it, inr (known, inl a)))) = let b = bad_by f a.1 in inr (inr b.0, b.1)
  bad_is f (inr (few, inr (in-it, inr (known, inr (there, is))))) =
      let good = not_bad (Err f) (of_kind (Err f) (byte input at) few known there is) in
      absurd (let no : ⊥ = omega arith in no)
