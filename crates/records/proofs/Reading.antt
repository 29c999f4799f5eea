-- Reading a whole input, record by record: it always comes to an end, after as many good records and at the same last one however it is
-- read. Assumes nothing.
use mathlib.Core.Path.{◌≡◌, refl, sym, subst, ap, ◌∙◌}
use mathlib.Core.List.{List}
use mathlib.Core.Logic.{inl, inr}
use Prim.Native.Nat.{ℕ, zero, suc, ◌+◌, ◌<◌, ◌≤◌}
use native.Mathlib.Decide.{dec_le, dec_lt, ℕ_discrete}
use native.Mathlib.Nat.{add-zero, zero-add}
use native.Mathlib.Omega.{arith}
use lib.ListN.{length}
use Rattle.answers.proofs.Refusals.{stops, goes_on}
use Rattle.units.specs.Units.{picometres}
use Rattle.std.specs.Prelude.{None, Some, Ok, Err}
use Rattle.answers.specs.declared.Refusal.TheVariants.{LongInput, UnknownKind, ShortBody}
use Rattle.records.specs.declared.Record.TheVariants.{Picture, Pixel}
use Rattle.arithmetic.specs.Bytes.{byte, four_bytes}
use Rattle.records.specs.Records.{Known, body_length, answer_of, Reply, by_kind, RecordIs, Follows, Last, Reading}
use Rattle.records.proofs.Bodies.{unknown}
use Rattle.records.proofs.Outcomes.{faulty, one_record_at, moves_on}

-- ---- an input that is read from its first byte on: k good records lie before an offset, in that whatever is read from there on makes a
-- reading of the whole input with k good records more
pub record Before (input : List ℕ) (k at : ℕ) : Type 0 where
  pub then : (j : ℕ) (last : Reply) → Reading input j at last → Reading input (k + j) 0 last

-- before the first byte lies none
pub none_yet : (input : List ℕ) → Before input 0 0
none_yet input = record { then = λ j last rest. subst (λ (n : ℕ). Reading input n 0 last) (sym (zero-add j)) rest }

-- and one good record more lies before the offset at which the next one begins
pub one_more : {input : List ℕ} {k at : ℕ} (r : Reply) (next : ℕ) → Before input k at → RecordIs input at r → Follows r next
    → Before input (k + 1) next
one_more {input} {k} r next before is follows = record { then = go_on }
  where
    longer : (j : ℕ) → k + suc j ≡ k + 1 + j
    longer j = omega arith

    go_on : (j : ℕ) (last : Reply) → Reading input j next last → Reading input (k + 1 + j) 0 last
    go_on j last rest =
        subst (λ (n : ℕ). Reading input n 0 last) (longer j) (before.then (suc j) last (r, (is, (next, (follows, rest)))))

-- so where the last one stands there the input is read
pub all_read : {input : List ℕ} {k at : ℕ} (last : Reply) → Before input k at → RecordIs input at last → Last last → Reading input k 0 last
all_read {input} {k} last before is over = subst (λ (n : ℕ). Reading input n 0 last) (add-zero k) (before.then 0 last (is, over))

-- ---- where the next record begins is determined, and the last has no next
one_follows : (r r' : Reply) (n n' : ℕ) → r ≡ r' → Follows r n → Follows r' n' → n ≡ n'
one_follows r r' n n' e a b = same r' (subst (λ (q : Reply). Follows q n) e a) b
  where
    same : (q : Reply) → Follows q n → Follows q n' → n ≡ n'
    same (Ok (Some (Picture side start end))) x y = x ∙ sym y
    same (Ok (Some (Pixel size end))) x y = x ∙ sym y
    same (Ok None) x y = absurd x
    same (Err f) x y = absurd x

pub not_both : (r r' : Reply) (n : ℕ) → r ≡ r' → Follows r n → ¬ Last r'
not_both r r' n e a b = same r' (subst (λ (q : Reply). Follows q n) e a) b
  where
    same : (q : Reply) → Follows q n → ¬ Last q
    same (Ok (Some (Picture side start end))) x y = y
    same (Ok (Some (Pixel size end))) x y = y
    same (Ok None) x y = x
    same (Err f) x y = x

-- ---- reading an input
unfoldable pub known_or_not : (kind : ℕ) → Dec (Known kind)
known_or_not kind = elim (ℕ_discrete kind 1) [
  | yes e ↦ yes (inl e)
  | no one ↦ elim (ℕ_discrete kind 2) [
    | yes e ↦ yes (inr (inl e))
    | no two ↦ elim (ℕ_discrete kind 3) [
      | yes e ↦ yes (inr (inr e))
      | no three ↦ no (unknown one two three)
    ]
  ]
]

module _ (input : List ℕ) where
  -- ---- there is a record at every offset
  unfoldable pub of_known : (at kind : ℕ) → Known kind → (r : Reply) × (answer_of r ≡ by_kind input kind (at + 1) (at + 1 + body_length kind))
  of_known at kind (inl e) = (Ok (Some (Picture 16 (at + 1) (at + 1 + 256))), rw e refl)
  of_known at kind (inr (inl e)) = (Ok (Some (Picture 64 (at + 1) (at + 1 + 4096))), rw e refl)
  of_known at kind (inr (inr e)) = (Ok (Some (Pixel (picometres (four_bytes input (at + 1))) (at + 1 + 4))), rw e refl)

  unfoldable pub found : (at : ℕ) → (r : Reply) × RecordIs input at r
  found at = elim (dec_le (length input) 32768) [
    | no f ↦ (Err (faulty LongInput 32768), stops f refl)
    | yes few ↦ elim (dec_lt at (length input)) [
      | no f ↦ (Ok None, goes_on few (stops f refl))
      | yes in-it ↦ elim (known_or_not (byte input at)) [
        | no f ↦ (Err (faulty UnknownKind at), goes_on few (goes_on in-it (stops f refl)))
        | yes k ↦ elim (dec_le (at + 1 + body_length (byte input at)) (length input)) [
          | no f ↦ (Err (faulty ShortBody at), goes_on few (goes_on in-it (goes_on k (stops f refl))))
          | yes there ↦ let w = of_known at (byte input at) k in (w.0, goes_on few (goes_on in-it (goes_on k (goes_on there w.1))))
        ]
      ]
    ]
  ]

  -- ---- and a good one moves on, so that reading ends
  abbrev pub Ends : ℕ → Type 0
  Ends at = (k : ℕ) × ((last : Reply) × Reading input k at last)

  -- if reading ends from every later offset on
  abbrev LaterEnds : ℕ → Type 0
  LaterEnds at = (next : ℕ) → at < next → next ≤ length input → Ends next

  more : (at : ℕ) → LaterEnds at → (r : Reply) (next : ℕ) → RecordIs input at r → Follows r next → Ends at
  more at rest r next is follows =
      let on = moves_on input at r next is follows in
      let e = rest next on.0 on.1 in
      (suc e.0, (e.1.0, (r, (is, (next, (follows, e.1.1))))))

  go_on : (at : ℕ) → LaterEnds at → (r : Reply) → RecordIs input at r → Ends at
  go_on at rest (Ok (Some (Picture side start end))) is = more at rest (Ok (Some (Picture side start end))) end is refl
  go_on at rest (Ok (Some (Pixel size end))) is = more at rest (Ok (Some (Pixel size end))) end is refl
  go_on at rest (Ok None) is = (0, (Ok None, (is, tt)))
  go_on at rest (Err f) is = (0, (Err f, (is, tt)))

  -- with no more than so many bytes left
  from : (left at : ℕ) → length input ≤ at + left → Ends at
  from zero at few = go_on at (λ next later inside. absurd (let no : ⊥ = omega arith in no)) (found at).0 (found at).1
  from (suc left) at few = go_on at (λ next later inside. from left next (omega arith)) (found at).0 (found at).1

  -- every input comes to an end
  pub ends : Ends 0
  ends = from (length input) 0 (omega arith)

  -- in one way only: after as many good records, and at the same last one
  pub one_reading : (k k' at : ℕ) (last last' : Reply) → Reading input k at last → Reading input k' at last' → (k ≡ k') × (last ≡ last')
  one_reading zero zero at last last' a b = (refl, one_record_at input at last last' a.0 b.0)
  one_reading zero (suc k') at last last' a b =
      absurd (not_both b.0 last b.1.1.0 (one_record_at input at b.0 last b.1.0 a.0) b.1.1.1.0 a.1)
  one_reading (suc k) zero at last last' a b =
      absurd (not_both a.0 last' a.1.1.0 (one_record_at input at a.0 last' a.1.0 b.0) a.1.1.1.0 b.1)
  one_reading (suc k) (suc k') at last last' a b =
      let same = one_follows a.0 b.0 a.1.1.0 b.1.1.0 (one_record_at input at a.0 b.0 a.1.0 b.1.0) a.1.1.1.0 b.1.1.1.0 in
      let rest = one_reading k k' b.1.1.0 last last' (subst (λ (n : ℕ). Reading input k n last) same a.1.1.1.1) b.1.1.1.1 in
      (ap suc rest.0, rest.1)
