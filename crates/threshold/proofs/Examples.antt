-- Thresholds as one table, which antt computes, with every threshold on the way. What document 01 marks stands in
-- cases/specs/Cases.antt, and is tested by `holds` and `at_rest`. Assumes nothing.
use mathlib.Core.Path.{◌≡◌, sym, subst}
use mathlib.Core.List.{List, [], ◌∷◌}
use mathlib.Core.Logic.Dec
use mathlib.Core.Option.{Option, map, get}
use Prim.Native.Nat.{ℕ, suc, ◌+◌, ◌≤◌, zero-le}
use native.Mathlib.Nat.{pos_of_ne-zero, zero-add}
use native.Mathlib.Decide.{dec_le, ℕ_discrete}
use native.Mathlib.Omega.{arith}
use lib.ListN.{length}
use Rattle.arithmetic.specs.declared.Fraction.{Fraction}
use Rattle.arithmetic.specs.Greatest.{Least}
use Rattle.arithmetic.specs.Sums.{sum, sum_over}
use Rattle.arithmetic.specs.Fractions.{fraction}
use Rattle.arithmetic.proofs.Greatest.{not_yet}
use Rattle.arithmetic.proofs.Fractions.{one_pair_or_not}
use Rattle.answers.proofs.Refusals.{goes_on}
use Rattle.arithmetic.proofs.Computed.{when, EveryRow, every_row}
use Rattle.threshold.specs.Histogram.{total}
use Rattle.threshold.specs.TwoMeans.{level, start, round, Rests, threshold, Settled, answered, TwoMeansIs, Threshold}
use Rattle.threshold.specs.Worked.{histogram, Walk}
use Rattle.threshold.proofs.Sequence.{within_or_not, rests_or_not}
use Rattle.threshold.proofs.Demand.{RestsAt, settled}
use Rattle.threshold.proofs.Outcomes.{one_two_means}

-- ---- a walk
-- whether these are its thresholds
walks : (h : List ℕ) (T : Fraction) (l : List Fraction) (U : Fraction) → Dec (Walk h T l U)
walks h T [] U = Dec.and (rests_or_not h T) (one_pair_or_not (round h T) U)
walks h T (S ∷ l) U = Dec.and (Dec.not (rests_or_not h T)) (Dec.and (one_pair_or_not (round h T) S) (walks h S l U))

module _ (m : ℕ) (h : List ℕ) where
  -- a walk from threshold k on, where none before it rests, ends at the first that does
  first_of : (l : List Fraction) (k : ℕ) (U : Fraction) → ((j : ℕ) → RestsAt m h j → k ≤ j) → Walk h (threshold m h k) l U
      → Least (RestsAt m h) (k + length l) × (round h (threshold m h (k + length l)) ≡ U)
  unfolding threshold
  first_of [] k U from walk = let z : k + 0 ≡ k = omega arith in rw z (record { holds = walk.0; least = from }, walk.1)
  first_of (S ∷ l) k U from walk =
      let z : k + suc (length l) ≡ suc k + length l = omega arith in
      rw z (first_of l (suc k) U (not_yet from walk.0) (subst (λ (R : Fraction). Walk h R l U) (sym walk.1.0) walk.1.1))

-- ---- a row of the table: the counts as pairs of a level and how often, the start, the thresholds from it to rest, and the answer
pub record Row : Type 0 where
  pub counts : List (ℕ × ℕ)
  pub start_at : ℕ
  pub on_the_way : List Fraction
  pub answer : Threshold

abbrev row : List (ℕ × ℕ) → ℕ → List Fraction → Threshold → Row
row counts start l t = record { counts = counts; start_at = start; on_the_way = l; answer = t }

-- The row holds of a histogram: from the start v the thresholds are those of the walk; and whatever the promise permits is t.
abbrev pub Holds : List ℕ → ℕ → List Fraction → Threshold → Type 0
Holds h v l t = (start 128 h ≡ level v) × (Walk h (level v) l t.value × ((u : Threshold) → TwoMeansIs h u → u ≡ t))

-- none of 10 to 12 refuses the histogram; and an answer has number 0, and as many rounds as the walk has steps
abbrev pub Taken : List ℕ → Type 0
Taken h = (length h ≡ 256) × ((¬ (total h ≡ 0)) × (total h ≤ 1048576))

abbrev pub Stepped : List Fraction → Threshold → Type 0
Stepped l t = (t.number ≡ 0) × (length l ≡ t.rounds)

module _ (h : List ℕ) (v : ℕ) (l : List Fraction) (t : Threshold) where
  tests : Dec (Taken h × (Stepped l t × ((start 128 h ≡ level v) × Walk h (level v) l t.value)))
  tests =
      Dec.and
      (Dec.and (ℕ_discrete (length h) 256) (Dec.and (Dec.not (ℕ_discrete (total h) 0)) (dec_le (total h) 1048576)))
      (Dec.and
      (Dec.and (ℕ_discrete t.number 0) (ℕ_discrete (length l) t.rounds))
      (Dec.and (one_pair_or_not (start 128 h) (level v)) (walks h (level v) l t.value)))

  -- then the promise permits the answer
  pub permitted : Taken h → Stepped l t → start 128 h ≡ level v → Walk h (level v) l t.value → TwoMeansIs h t
  unfolding threshold
  permitted taken stepped starts walk =
      let begun : Walk h (start 128 h) l t.value = subst (λ (R : Fraction). Walk h R l t.value) (sym starts) walk in
      let walked = first_of 128 h l 0 t.value (λ j r. zero-le) begun in
      let f = rw (zero-add (length l), stepped.1) at walked in
      let reached = settled 128 h (pos_of_ne-zero taken.1.0) t.rounds f.0 in
      goes_on taken.0 (goes_on taken.1.0 (goes_on taken.1.1
      (record { number = stepped.0; settled = subst (Settled 128 h t.rounds) f.1 reached })))

  unfoldable pub holds : Option (Holds h v l t)
  unfolding dec_le ℕ_discrete Dec.and Dec.not when sum sum_over total start round within_or_not rests_or_not one_pair_or_not walks tests
  holds =
      map (λ p.
      let walk = p.1.1 in
      (walk.0, (walk.1, λ u is. one_two_means h u t is (permitted p.0 p.1.0 walk.0 walk.1))))
      (when tests)

-- the same of a row of the table
abbrev pub RowHolds : Row → Type 0
RowHolds r = Holds (histogram r.counts) r.start_at r.on_the_way r.answer

row_holds : (r : Row) → Option (RowHolds r)
row_holds r = holds (histogram r.counts) r.start_at r.on_the_way r.answer

-- the histogram of document 01's picture of all 40, and two of docs/why-it-rests.md
abbrev pub table : List Row
table =
    row ((40, 256) ∷ []) 40 [] (answered 0 0 (fraction 5242880 131072))
    ∷ row ((120, 1) ∷ (124, 1) ∷ (126, 1) ∷ []) 126 (fraction 748 6 ∷ fraction 496 4 ∷ fraction 988 8 ∷ fraction 490 4 ∷ [])
    (answered 0 4 (fraction 490 4))
    ∷ row ((68, 1) ∷ (128, 18) ∷ (130, 3) ∷ (188, 1) ∷ []) 128 (fraction 106942 836 ∷ fraction 4378 44 ∷ [])
    (answered 0 2 (fraction 4378 44))
    ∷ []

pub worked : EveryRow RowHolds table
unfolding holds row_holds every_row
worked = get (every_row RowHolds row_holds table) tt

-- ---- a threshold that rests, of which a histogram may have several
unfoldable pub at_rest : (h : List ℕ) (T : Fraction) → Option (Rests h T)
unfolding dec_le ℕ_discrete Dec.and when sum sum_over total round within_or_not rests_or_not
at_rest h T = when (rests_or_not h T)
