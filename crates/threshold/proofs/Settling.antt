-- Laws of the loop that goes on until the threshold rests. Assumes nothing.
use mathlib.Core.Path.{◌≡◌, refl, ap, sym, ◌∙◌}
use mathlib.Core.Bool.{Bool, true, false, not, ◌&&◌, ◌||◌}
use mathlib.Core.List.{List}
use Prim.Native.Nat.{ℕ, suc, ◌+◌, ◌-◌, ◌*◌, ◌<◌, ◌≤◌, zero-le}
use native.Mathlib.Nat.{mul-le-mul}
use native.Mathlib.Numerals.{add-one}
use native.Mathlib.Omega.{arith}
use lib.Dec.{eqb}
use lib.ListN.{length}
use Rattle.arithmetic.specs.declared.Fraction.{Fraction}
use Rattle.arithmetic.specs.Fractions.{fraction, Equal, unlike}
use Rattle.arithmetic.proofs.Fractions.{they_differ, they_agree}
use Rattle.arithmetic.proofs.Greatest.{not_yet}
use Rattle.threshold.specs.Histogram.{total}
use Rattle.threshold.specs.TwoMeans.{level, highest, start, round, Within, threshold, Settled}
use Rattle.threshold.specs.Asked.{Small}
use Rattle.threshold.proofs.Present.{highest_below}
use Rattle.threshold.proofs.Rounds.{same_pair}
use Rattle.threshold.proofs.Tables.{denominator_small}
use Rattle.threshold.proofs.Sequence.{low_some, high_some, start_within, threshold_within, given_back, comes_to_rest}
use Rattle.threshold.proofs.Demand.{RestsAt, settled}

-- ---- the test of the loop, `t != next`: it says whether the pairs differ in one of their numbers
-- as each of the two tests says it
of_both : (a b : Bool) → not (a && b) ≡ (not a || not b)
of_both true b = refl
of_both false b = refl

module _ (t next : Fraction) where
  abbrev test : Bool
  test = not (eqb t.numerator next.numerator && eqb t.denominator next.denominator)

  test_is : unlike t next ≡ test
  test_is = sym (of_both (eqb t.numerator next.numerator) (eqb t.denominator next.denominator))

  pub told_apart : test ≡ true → ¬ (t ≡ next)
  told_apart said = they_differ t next (test_is ∙ said)

  pub told_one : test ≡ false → t ≡ next
  told_one said = they_agree t next (test_is ∙ said)

-- ---- the loop
-- Before a test of the loop: `next` is the threshold after the k-th, none before the k-th rests, and `t` and `next` are one pair exactly
-- where the k-th does.
pub record Going (m : ℕ) (h : List ℕ) (k : ℕ) (t next : Fraction) : Type 0 where
  pub is_next : next ≡ threshold m h (suc k)
  pub not_before : (j : ℕ) → RestsAt m h j → k ≤ j
  pub same_rests : t ≡ next → RestsAt m h k
  pub rests_same : RestsAt m h k → t ≡ next

module _ (m : ℕ) (h : List ℕ) (some : 0 < total h) where
  -- from a level that is the start a round can be made
  pub first_within : (v : ℕ) → level v ≡ start m h → Within h (level v)
  first_within v is-start = rw is-start (start_within h some m)

  -- written over the first round's denominator, it has room
  pub first_room : Small h → (v : ℕ) (next : Fraction) → level v ≡ start m h → next ≡ round h (level v)
      → v * next.denominator ≤ 2048 * 2199023255552
  first_room small v next is-start is-round =
      let at : v * 1 ≤ highest h * 1 = (first_within v is-start).to_highest in
      let most : v ≤ 2048 = omega (arith, highest_below h some, small.levels) in
      rw is-round (mul-le-mul most (denominator_small h (level v) small))

  -- and is told from the first round by its pair
  pub going_first : (v : ℕ) (next : Fraction) → level v ≡ start m h → next ≡ round h (level v)
      → Going m h 0 (fraction (v * next.denominator) next.denominator) next
  unfolding threshold
  going_first v next is-start is-round =
      record {
        is_next = is-round ∙ ap (round h) is-start;
        not_before = λ j r. zero-le;
        same_rests = λ e. given_back h some m 0 (rw (← is-start, ← is-round) (omega (arith, ap (λ (T : Fraction). T.numerator) e)));
        rests_same = λ r.
            let still : Equal (round h (start m h)) (start m h) = r.still in
            let e : next.numerator * 1 ≡ v * next.denominator = rw (← is-start, ← is-round) at still in
            let f : v * next.denominator ≡ next.numerator = omega arith in
            λ i. fraction (f i) next.denominator;
      }

  -- from the next threshold a round can be made
  pub next_within : {k : ℕ} {t next : Fraction} → Going m h k t next → Within h next
  next_within {k} g = rw g.is_next (threshold_within h some m (suc k))

  -- one round more
  pub going_on : (k : ℕ) (t next after : Fraction) → Going m h k t next → ¬ (t ≡ next) → after ≡ round h next → Going m h (k + 1) next after
  unfolding threshold
  going_on k t next after g moved is-round =
      record {
        is_next = rw (add-one k) (is-round ∙ ap (round h) g.is_next);
        not_before = rw (add-one k) (not_yet g.not_before (λ r. moved (g.rests_same r)));
        same_rests = λ e. rw (add-one k) (given_back h some m (suc k) (rw (← g.is_next, ← is-round, e) refl));
        rests_same = λ r. g.is_next ∙ sym (same-again (rw (add-one k) at r)) ∙ ap (round h) (sym g.is_next) ∙ sym is-round;
      }
    where
      same-again : RestsAt m h (suc k) → round h (threshold m h (suc k)) ≡ round h (threshold m h k)
      same-again r =
          let w = threshold_within h some m (suc k) in
          let u = threshold_within h some m k in
          same_pair h (threshold m h (suc k)) (threshold m h k) w.proper u.proper
          (low_some h some (threshold m h (suc k)) w) (high_some h some (threshold m h (suc k)) w)
          (low_some h some (threshold m h k) u) (high_some h some (threshold m h k) u)
          r.still

  -- there is a round more to go only before the last that may come
  pub still_time : (k : ℕ) (t next : Fraction) → Going m h k t next → ¬ (t ≡ next) → k < 2 * length h - 1
  still_time k t next g moved =
      let r = comes_to_rest h some m in
      omega (arith, r.1, not_yet g.not_before (λ now. moved (g.rests_same now)) r.0 r.2)

  -- at rest
  pub going_ends : (k : ℕ) (t next : Fraction) → Going m h k t next → t ≡ next → Settled m h k next
  unfolding threshold
  going_ends k t next g e = rw g.is_next (settled m h some k (record { holds = g.same_rests e; least = g.not_before }))
