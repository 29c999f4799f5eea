-- Laws of counting: which values can be counted, what one value more adds to a histogram, and that its total is the number of values.
-- Assumes nothing.
use mathlib.Core.Path.{◌≡◌, refl, sym, ◌∙◌}
use mathlib.Core.Bool.{cond, Bool, true, false}
use mathlib.Core.List.{List}
use mathlib.Core.Logic.{◌≢◌, inl, inr}
use Prim.Native.Nat.{ℕ, zero, suc, ◌+◌, ◌/◌, ◌<◌, ◌≤◌}
use native.Mathlib.Numerals.{add-one}
use native.Mathlib.Decide.{ℕ_discrete}
use native.Mathlib.Omega.{arith}
use lib.Dec.{eqb}
use lib.ListN.{length, get_or, set, replicate, length-set, length-replicate, get_or-replicate}
use lib.Seq.{get_or-set_same, get_or-set_other}
use borrow.Author.Tests.{eq-eqb, ne_eqb}
use Rattle.arithmetic.specs.Sums.{sum}
use Rattle.arithmetic.specs.Lists.{AtMost}
use Rattle.arithmetic.proofs.Sums.{sum_none, sum_more, sum_most, sum_same, sum_add}
use Rattle.threshold.specs.Histogram.{added_at, count_of, total, Countable, tally, Counted}
use Rattle.threshold.specs.Asked.{added_up_to, Added}
use Rattle.answers.specs.Refusals.{Unless}
use Rattle.answers.proofs.Refusals.{stops, goes_on}

-- a value that can be counted has one of 256 levels
level_below : (values : List ℕ) (k : ℕ) → Countable values → get_or values k 0 / 8 < 256
level_below values k ok = let b : get_or values k 0 ≤ 2040 = ok.small k in omega arith

-- ---- which values can be counted
-- as many as may be can be counted if each is at most 2,040
pub countable_is : (values : List ℕ) (t : Bool) → 1 ≤ length values → length values ≤ 1048576
    → Unless (AtMost 2040 values) (t ≡ false) (t ≡ true) → Unless (Countable values) (t ≡ false) (t ≡ true)
countable_is values t some few (inl large) = stops (λ p. large.0 p.small) large.1
countable_is values t some few (inr small) = goes_on (record { some = some; few = few; small = small.0 }) small.1

-- ---- what is added
-- what a value x adds at level v
abbrev one : ℕ → ℕ → ℕ
one x v = cond (eqb (x / 8) v) 1 0

-- one at its own level
one_at : (x v : ℕ) → v ≡ x / 8 → one x v ≡ 1
one_at x v e = rw (eq-eqb (x / 8) v (sym e))

-- nothing at any other
one_elsewhere : (x v : ℕ) → v ≢ x / 8 → one x v ≡ 0
one_elsewhere x v n = rw (ne_eqb (x / 8) v (λ e. n (sym e)))

-- never more than one
one_most : (x v : ℕ) → one x v ≤ 1
one_most x v = elim (ℕ_discrete v (x / 8)) [ yes e ↦ omega (arith, one_at x v e) | no n ↦ omega (arith, one_elsewhere x v n) ]

-- nothing at n levels that are all below its own
ones_none : (x n : ℕ) → n ≤ x / 8 → sum n (one x) ≡ 0
unfolding sum
ones_none x zero h = refl
ones_none x (suc n) h = omega (arith, ones_none x n (omega arith), one_elsewhere x n (omega arith))

-- one at n levels, where its own is among them
ones : (x n : ℕ) → x / 8 < n → sum n (one x) ≡ 1
unfolding sum
ones x zero h = absurd (let z : ⊥ = omega arith in z)
ones x (suc n) h = elim (ℕ_discrete n (x / 8)) [
  | yes e ↦ omega (arith, ones_none x n (omega arith), one_at x n e)
  | no d ↦ omega (arith, ones x n (omega arith), one_elsewhere x n d)
]

module _ (values : List ℕ) where
  -- no values add nothing
  added_none : (v : ℕ) → added_up_to values 0 v ≡ 0
  unfolding added_up_to
  added_none v = sum_none (λ i. one (get_or values i 0) v)

  -- one value more adds one at its level
  added_more : (n v : ℕ) → added_up_to values (n + 1) v ≡ added_up_to values n v + one (get_or values n 0) v
  unfolding added_up_to
  added_more n v = sum_more n (λ i. one (get_or values i 0) v)

  -- n values add at most n
  added_most : (n v : ℕ) → added_up_to values n v ≤ n
  unfolding added_up_to
  added_most n v = omega (arith, sum_most 1 n (λ i. one (get_or values i 0) v) (λ i. one_most (get_or values i 0) v))

  -- at all levels together, n values that can be counted add n
  added_all : Countable values → (n : ℕ) → sum 256 (added_up_to values n) ≡ n
  added_all ok zero = omega (arith, sum_most 0 256 (added_up_to values 0) (λ v. omega (arith, added_none v)))
  added_all ok (suc n) =
      let x : ℕ = get_or values n 0 in
      omega (
        arith,
        sum_same 256 (added_up_to values (suc n)) (λ v. added_up_to values n v + one x v) (λ v h. rw (← add-one n) (added_more n v)),
        sum_add 256 (added_up_to values n) (one x),
        added_all ok n,
        ones x 256 (level_below values n ok),
      )

  -- ---- the counts, one value after the other
  -- of no values: a zero in each place
  pub counts_none : Added values 0 (replicate 256 0)
  counts_none = record { places = length-replicate {A = ℕ} 256 0; counts_are = λ v h. get_or-replicate 256 v 0 0 h ∙ sym (added_none v) }

  -- one value more
  pub counts_more : Countable values → (n : ℕ) (counts : List ℕ) → Added values n counts
      → let l = get_or values n 0 / 8 in Added values (n + 1) (set counts l (get_or counts l 0 + 1))
  counts_more ok n counts so_far = record { places = length-set counts l more ∙ so_far.places; counts_are = are }
    where
      x : ℕ
      x = get_or values n 0

      l : ℕ
      l = x / 8

      more : ℕ
      more = get_or counts l 0 + 1

      here : l < 256
      here = level_below values n ok

      at-it : count_of (set counts l more) l ≡ added_up_to values n l + one x l
      at-it =
          get_or-set_same counts l more 0 (omega (arith, so_far.places, here))
          ∙ omega (arith, so_far.counts_are l here, one_at x l refl)

      are : (v : ℕ) → v < 256 → count_of (set counts l more) v ≡ added_up_to values (n + 1) v
      are v h = rw (added_more n v) (elim (ℕ_discrete v l) [
        | yes e ↦ rw e at-it
        | no d ↦ get_or-set_other counts l v more 0 d ∙ omega (arith, so_far.counts_are v h, one_elsewhere x v d)
      ])

  -- there is room for it: its level is one of 256, and no place has more than there are values
  pub counts_room : Countable values → (n : ℕ) (counts : List ℕ) → n ≤ length values → Added values n counts
      → let l = get_or values n 0 / 8 in (l < 256) × (get_or counts l 0 ≤ 1048576)
  counts_room ok n counts part so_far =
      let l = get_or values n 0 / 8 in
      let here : l < 256 = level_below values n ok in
      (here, omega (arith, so_far.counts_are l here, added_most n l, ok.few))

-- ---- the histogram
-- what is counted and put into the histogram
pub count_done : (values counts histogram : List ℕ) → Countable values → Added values (length values) counts → histogram ≡ counts
    → Counted values (tally 0 histogram)
unfolding total added_at added_up_to
count_done values counts histogram ok all put =
    rw put
    (record {
      number = refl;
      places = all.places;
      counts = all.counts_are;
      total_is =
          rw all.places
          (sum_same 256 (count_of counts) (added_up_to values (length values)) all.counts_are ∙ added_all values ok (length values));
    })
