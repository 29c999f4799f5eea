-- Two rows and one that comes below them: what it completes, how long and how large that is, and which the last two are then.
-- Assumes nothing.
use mathlib.Core.Path.{◌≡◌, refl, sym, ap, ◌∙◌}
use mathlib.Core.List.{List, ◌++◌}
use mathlib.Core.Logic.{◌≢◌, inl, inr}
use Prim.Native.Nat.{ℕ, ◌+◌, ◌-◌, ◌*◌, ◌%◌, ◌≤◌}
use native.Mathlib.Nat.{mul-le-mul_right}
use native.Mathlib.Omega.{arith}
use lib.ListN.{length, take, drop}
use Rattle.arithmetic.specs.Lists.{AtMost, over}
use Rattle.arithmetic.proofs.Lists.{no_elements}
use Rattle.arithmetic.proofs.Writing.{length_over}
use Rattle.filter.specs.Median.{row_of}
use Rattle.filter.specs.Row.{Beside, RowOutcome, RowIs}
use Rattle.filter.proofs.Blocks.{length_row}
use Rattle.filter.proofs.Ranges.{most_row}
use Rattle.filter.proofs.RowOutcomes.{RowFits, when_row_fits}
use Rattle.memory.specs.Memory.{row_at}
use Rattle.memory.proofs.Places.{length_row_at, most_row_at, most_over, row_at_same, row_at_other}
use Rattle.scan.specs.Ring.{shown, last_two, replaced}
use Rattle.scan.specs.Held.{completed, followed}
use Rattle.scan.specs.Asked.{long, Below}
use Rattle.scan.proofs.Shown.{there_or_not, long_there, long_not, none_or_long, long_most}
use Rattle.scan.proofs.Shown.{shown_there, shown_not, length_shown, most_shown, shown_part, shown_next}

-- either of two rows lies within them
pub place_inside : (w i : ℕ) → i ≤ 1 → i * w + w ≤ w + w
place_inside w i few = omega (arith, mul-le-mul_right w few)

-- and a row that comes below them fits into the place of the older one
pub place_fits : (w k late : ℕ) (two row : List ℕ) → Below w k late two row → k % 2 * w + length row ≤ length two
place_fits w k late two row asked = omega (arith, place_inside w (k % 2) (omega arith), asked.room, row-short asked.beside)
  where
    row-short : Beside w (length row) → length row ≤ w
    row-short (inl z) = omega arith
    row-short (inr e) = omega arith

-- ---- what is completed
module _ (w h k late : ℕ) (two row : List ℕ) where
  -- each of the two has w numbers
  half : length two ≡ w + w → (i : ℕ) → i ≤ 1 → length (row_at w two i) ≡ w
  half room i few = length_row_at w i two (omega (arith, place_inside w i few, room))

  pub length_completed : length two ≡ w + w → length (completed (last_two w h k late two) row) ≡ long w h k late
  unfolding completed last_two
  length_completed room = length_row _ _ _ ∙ length_shown h k late w (row_at w two ((k + 1) % 2)) (half room ((k + 1) % 2) (omega arith))

  pub most_completed : (b : ℕ) → AtMost b two → AtMost b row → AtMost (b + b) (completed (last_two w h k late two) row)
  unfolding completed last_two
  most_completed b small small_row =
      most_row b _ _ _
      (most_shown h k (late + 1) b (row_at w two (k % 2)) (most_row_at b w (k % 2) two small))
      (most_shown h k late b (row_at w two ((k + 1) % 2)) (most_row_at b w ((k + 1) % 2) two small))
      small_row

-- ---- as the code completes it: the two rows are read where they lie
module _ (w h k late : ℕ) (two row out : List ℕ) (asked : Below w k late two row) where
  abbrev older : List ℕ
  older = shown h k (late + 1) (row_at w two (k % 2))

  abbrev newer : List ℕ
  newer = shown h k late (row_at w two ((k + 1) % 2))

  shown_long : (l i : ℕ) → i ≤ 1 → length (shown h k l (row_at w two i)) ≡ long w h k l
  shown_long l i few = length_shown h k l w (row_at w two i) (half w h k late two row asked.room i few)

  -- where the newer one is not there, nothing is
  pub none_completed : (n : ℕ) → n ≡ long w h k late → n ≡ 0 → out ≡ completed (last_two w h k late two) row ++ drop (long w h k late) out
  none_completed n e z =
      let none : long w h k late ≡ 0 = omega arith in
      let empty = no_elements (completed (last_two w h k late two) row) (length_completed w h k late two row asked.room ∙ none) in
      rw (empty, none)

  fits : long w h k late ≢ 0 → long w h k late ≤ length out → RowFits older newer row out
  fits some room = record {
    beside = (beside-newer (length older) older-beside, beside-newer (length row) asked.beside);
    long_output = rw newer-long room;
    small = (
      most_shown h k (late + 1) 1020 (row_at w two (k % 2)) (most_row_at 1020 w (k % 2) two asked.small),
      most_shown h k late 1020 (row_at w two ((k + 1) % 2)) (most_row_at 1020 w ((k + 1) % 2) two asked.small),
      asked.small_row,
    );
  }
    where
      newer-long : length newer ≡ long w h k late
      newer-long = shown_long late ((k + 1) % 2) (omega arith)

      older-beside : Beside w (length older)
      older-beside = rw (shown_long (late + 1) (k % 2) (omega arith)) (none_or_long h k (late + 1) w)

      whole : length newer ≡ w
      whole = elim (none_or_long h k late w) [ inl z ↦ absurd (some z) | inr e ↦ newer-long ∙ e ]

      beside-newer : (n : ℕ) → Beside w n → Beside (length newer) n
      beside-newer n b = rw whole b

  -- where it is, the filter makes the row
  pub row_completed : (n m : ℕ) → n ≡ long w h k late → m ≡ long w h k (late + 1) → n ≢ 0 → long w h k late ≤ length out → (r : RowOutcome)
      → RowIs (take (k % 2 * w + m - k % 2 * w) (drop (k % 2 * w) two))
      (take ((k + 1) % 2 * w + n - (k + 1) % 2 * w) (drop ((k + 1) % 2 * w) two)) row out r
      → r.output ≡ completed (last_two w h k late two) row ++ drop (long w h k late) out
  unfolding completed last_two
  row_completed n m e f some room r d =
      let upper = shown_part h k (late + 1) w (k % 2) (k % 2 * w) m two refl f in
      let lower = shown_part h k late w ((k + 1) % 2) ((k + 1) % 2 * w) n two refl e in
      ap (λ (o : RowOutcome). o.output) (when_row_fits older newer row out r (fits (λ z. some (e ∙ z)) room) (rw (upper, lower) at d))
      ∙ ap (λ (l : ℕ). row_of older newer row ++ drop l out) (shown_long late ((k + 1) % 2) (omega arith))

-- ---- which the last two are then
module _ (w h k late : ℕ) (two row : List ℕ) where
  pub is_replaced : (x : List ℕ) → x ≡ over two (k % 2 * w) row → x ≡ replaced w k two row
  unfolding replaced
  is_replaced x e = e

  pub most_replaced : (b : ℕ) → AtMost b two → AtMost b row → AtMost b (replaced w k two row)
  unfolding replaced
  most_replaced b small small_row = most_over b (k % 2 * w) two row small small_row

  module _ (room : length two ≡ w + w) (row_long : length row ≡ long w h k late) where
    few : length row ≤ w
    few = rw row_long (long_most h k late w)

    inside : k % 2 * w + w ≤ length two
    inside = omega (arith, place_inside w (k % 2) (omega arith), room)

    pub length_replaced : length (replaced w k two row) ≡ w + w
    unfolding replaced
    length_replaced = length_over two (k % 2 * w) row (omega (arith, inside, few)) ∙ room

    -- the newer one is the older one now
    older_is : shown h (k + 1) (late + 1 + 1) (row_at w (over two (k % 2 * w) row) ((k + 1) % 2))
        ≡ shown h k (late + 1) (row_at w two ((k + 1) % 2))
    older_is =
        shown_next h k (late + 1) (row_at w (over two (k % 2 * w) row) ((k + 1) % 2))
        ∙ ap (shown h k (late + 1)) (row_at_other w (k % 2) two row few inside ((k + 1) % 2) (λ e. omega (arith, e)))

    -- and the one that came is the newer one
    in_place : shown h k late (row_at w (over two (k % 2 * w) row) (k % 2)) ≡ row
    in_place = elim (there_or_not h k late) [
      | inl t ↦ shown_there h k late _ t ∙ row_at_same w (k % 2) two row few inside (row_long ∙ long_there h k late w t)
      | inr n ↦ shown_not h k late _ n ∙ sym (no_elements row (row_long ∙ long_not h k late w n))
    ]

    newer_is : shown h (k + 1) (late + 1) (row_at w (over two (k % 2 * w) row) ((k + 1 + 1) % 2)) ≡ row
    newer_is =
        let again : (k + 1 + 1) % 2 ≡ k % 2 = omega arith in
        ap (λ (i : ℕ). shown h (k + 1) (late + 1) (row_at w (over two (k % 2 * w) row) i)) again
        ∙ shown_next h k late (row_at w (over two (k % 2 * w) row) (k % 2))
        ∙ in_place

    pub two_next : last_two w h (k + 1) (late + 1) (replaced w k two row) ≡ followed (last_two w h k (late + 1) two) row
    unfolding last_two replaced followed
    two_next = λ i. record { older = older_is i; newer = newer_is i }
