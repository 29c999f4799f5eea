-- Demand 3: for every histogram that is not empty the first threshold at rest is found after at most 2·n − 1 rounds, it is the midpoint of
-- its two means, no other rests between it and the start, and there the sequence stands still; and the demand leaves one answer.
-- Assumes nothing.
use mathlib.Core.Path.{◌≡◌, refl, ap, sym, ◌∙◌}
use mathlib.Core.List.{List}
use mathlib.Core.Logic.{inl, inr}
use Prim.Native.Nat.{ℕ, zero, suc, ◌+◌, ◌-◌, ◌*◌, ◌<◌, ◌≤◌}
use native.Mathlib.Nat.{le_antisymm}
use native.Mathlib.Omega.{arith}
use lib.ListN.{length}
use Rattle.arithmetic.specs.declared.Fraction.{Fraction}
use Rattle.arithmetic.specs.Greatest.{Least}
use Rattle.arithmetic.specs.Fractions.{Equal}
use Rattle.arithmetic.proofs.Greatest.{one_least, least_found}
use Rattle.threshold.specs.Histogram.{total}
use Rattle.threshold.specs.TwoMeans.{start, round, Within, Rests, threshold, LiesBetween, Settled}
use Rattle.threshold.proofs.Rounds.{same_threshold}
use Rattle.threshold.proofs.Sequence.{round_within, threshold_within, rests_or_not, given_back, stays_above, stays_below, comes_to_rest}

-- threshold k at rest
abbrev pub RestsAt : ℕ → List ℕ → ℕ → Type 0
RestsAt m h k = Rests h (threshold m h k)

module _ (m : ℕ) (h : List ℕ) (some : 0 < total h) where
  module _ (k : ℕ) (first : Least (RestsAt m h) k) where
    abbrev T : Fraction
    T = threshold m h k

    abbrev answer : Fraction
    answer = round h T

    in_time : k ≤ 2 * length h - 1
    in_time = let r = comes_to_rest h some m in omega (arith, first.least r.0 r.2, r.1)

    within : Within h answer
    within = round_within h some T (threshold_within h some m k)

    midpoint : round h answer ≡ answer
    midpoint = same_threshold h answer T within.proper (threshold_within h some m k).proper first.holds.still

    no_other : (R : Fraction) → Rests h R → LiesBetween (start m h) answer R → Equal R answer
    unfolding threshold
    no_other R r (inl up) = le_antisymm up.1 (stays_above h some m R r up.0 (suc k))
    no_other R r (inr down) = le_antisymm (stays_below h some m R r down.1 (suc k)) down.0

    moved : (j : ℕ) → j < k → ¬ Equal (threshold m h (suc j)) (threshold m h j)
    moved j sooner still = let late : k ≤ j = first.least j (given_back h some m j still) in omega arith

    -- the first threshold at rest is all that is demanded
    pub settled : Settled m h k answer
    settled =
        record {
          first = first;
          answer = refl;
          in_time = in_time;
          rests = record { within = within; still = rw midpoint refl };
          midpoint = midpoint;
          no_other = no_other;
          moved = moved;
        }

  -- demand 3
  pub demand : (k : ℕ) × (T : Fraction) × Settled m h k T
  demand =
      let r = comes_to_rest h some m in
      let f = least_found (λ j. rests_or_not h (threshold m h j)) r.0 r.2 in
      (f.0, round h (threshold m h f.0), settled f.0 f.1)

module _ (m : ℕ) (h : List ℕ) (j k : ℕ) (T U : Fraction) (this : Settled m h j T) (that : Settled m h k U) where
  -- the demand leaves one answer
  pub one_rounds : j ≡ k
  one_rounds = one_least this.first that.first

  pub one_answer : T ≡ U
  one_answer = this.answer ∙ ap (λ (i : ℕ). round h (threshold m h i)) one_rounds ∙ sym that.answer

-- the sequence stands still for good: every threshold after the one at rest is the answer
pub stands : (m : ℕ) (h : List ℕ) (k : ℕ) (T : Fraction) → Settled m h k T → (j : ℕ) → threshold m h (suc k + j) ≡ T
unfolding threshold
stands m h k T s zero = let z : suc k + 0 ≡ suc k = omega arith in rw z (sym s.answer)
stands m h k T s (suc j) = let z : suc k + suc j ≡ suc (suc k + j) = omega arith in rw (z, stands m h k T s j) s.midpoint
