-- Histograms that can be counted by hand: one of equal values, and one of four values. Assumes nothing.
use mathlib.Core.Path.{◌≡◌, refl, sym, ◌∙◌}
use mathlib.Core.Bool.{cond}
use mathlib.Core.List.{List, [], ◌∷◌}
use Prim.Native.Nat.{ℕ, zero, suc, ◌*◌, ◌/◌, ◌<◌, ◌≤◌, zero-le}
use native.Mathlib.Decide.{ℕ_discrete}
use native.Mathlib.Omega.{arith}
use lib.Dec.{eqb, lit≤}
use lib.ListN.{length, set, replicate, length-set, length-replicate, get_or-replicate}
use lib.Seq.{get_or-set_same, get_or-set_other}
use borrow.Author.Tests.{eq-eqb, ne_eqb}
use Rattle.arithmetic.specs.Lists.{AtMost}
use Rattle.answers.proofs.Refusals.{goes_on}
use Rattle.arithmetic.proofs.Lists.{most_equal}
use Rattle.arithmetic.proofs.Sums.{sum_equal}
use Rattle.threshold.specs.Histogram.{count_of, Countable, Tally, tally, CountIs}
use Rattle.threshold.specs.Asked.{added_up_to, Added}
use Rattle.threshold.proofs.Histograms.{counts_none, counts_more, count_done}
use Rattle.threshold.proofs.Outcomes.{one_count}

-- the counts of values that can be counted are what counting leaves, and nothing else is
no_other : (values counts h : List ℕ) (r : Tally) → Countable values → Added values (length values) counts → length h ≡ 256
    → CountIs values h r → r ≡ tally 0 counts
no_other values counts h r ok all places is =
    one_count values h r (tally 0 counts) is (goes_on places (goes_on ok (count_done values counts counts ok all refl)))

-- ---- equal values
-- n values x add n at the level of x, and nothing elsewhere
equal_added : (n x v : ℕ) → added_up_to (replicate n x) n v ≡ n * cond (eqb (x / 8) v) 1 0
unfolding added_up_to
equal_added n x v = sum_equal (cond (eqb (x / 8) v) 1 0) n _ (λ i h. rw (get_or-replicate n i x 0 h))

-- that is what a list of m zeros has in which place l is set to n
one_place : (m n l v : ℕ) → l < m → v < m → count_of (set (replicate m 0) l n) v ≡ n * cond (eqb l v) 1 0
one_place m n l v in-it h = elim (ℕ_discrete v l) [
  | yes e ↦ rw (e, eq-eqb l l refl) (get_or-set_same (replicate m 0) l n 0 (omega (arith, length-replicate {A = ℕ} m 0)) ∙ omega arith)
  | no d ↦ rw (ne_eqb l v (λ e. d (sym e))) (get_or-set_other (replicate m 0) l v n 0 d ∙ get_or-replicate m v 0 0 h ∙ omega arith)
]

-- 1 to 1,048,576 values x, at most 2,040: as many at the level of x, and nothing elsewhere
pub all_equal : (n x : ℕ) → 1 ≤ n → n ≤ 1048576 → x ≤ 2040 → (h : List ℕ) (r : Tally) → length h ≡ 256 → CountIs (replicate n x) h r
    → r ≡ tally 0 (set (replicate 256 0) (x / 8) n)
all_equal n x some few small h r =
    no_other (replicate n x) (set (replicate 256 0) (x / 8) n) h r
    (record {
      some = rw (length-replicate n x) some;
      few = rw (length-replicate n x) few;
      small = most_equal 2040 n x small;
    })
    (rw (length-replicate n x)
    (record {
      places = length-set (replicate 256 0) (x / 8) n ∙ length-replicate {A = ℕ} 256 0;
      counts_are = λ v b. one_place 256 n (x / 8) v (omega arith) b ∙ sym (equal_added n x v);
    }))

-- 256 values of 320 eighths: 256 at level 40
pub all_forty : (h : List ℕ) (r : Tally) → length h ≡ 256 → CountIs (replicate 256 320) h r → r ≡ tally 0 (set (replicate 256 0) 40 256)
all_forty = all_equal 256 320 (lit≤ tt) (lit≤ tt) (lit≤ tt)

-- ---- four values
-- two of level 0, the first of level 1, and the greatest that can be counted
abbrev pub four : List ℕ
four = 0 ∷ 7 ∷ 8 ∷ 2040 ∷ []

-- each is at most 2,040, and there are four: they can be counted
four_small : AtMost 2040 four
four_small zero = lit≤ tt
four_small (suc zero) = lit≤ tt
four_small (suc (suc zero)) = lit≤ tt
four_small (suc (suc (suc zero))) = lit≤ tt
four_small (suc (suc (suc (suc k)))) = zero-le

four_countable : Countable four
four_countable = record { some = lit≤ tt; few = lit≤ tt; small = four_small }

-- 0 and 7 eighths are at level 0, 8 at level 1, 2,040 at level 255
pub four_values : (h : List ℕ) (r : Tally) → length h ≡ 256 → CountIs four h r
    → r ≡ tally 0 (set (set (set (replicate 256 0) 0 2) 1 1) 255 1)
four_values h r =
    no_other four _ h r four_countable
    (counts_more four four_countable 3 _
    (counts_more four four_countable 2 _
    (counts_more four four_countable 1 _
    (counts_more four four_countable 0 _ (counts_none four)))))
