-- Laws of the thresholds one after the other: they lie from the lowest to the highest level present, they go one way, and they come to
-- rest. Assumes nothing.
use mathlib.Core.Path.{◌≡◌, refl, sym, subst}
use mathlib.Core.Bool.{Bool, true, false, cond}
use mathlib.Core.List.{List}
use mathlib.Core.Logic
use mathlib.Core.Logic.{◌⊎◌, inl, inr, ⊎_elim}
use Prim.Native.Nat.{ℕ, zero, suc, ◌+◌, ◌-◌, ◌*◌, ◌<◌, ◌≤◌}
use native.Mathlib.Nat.{mul-le-mul_right, mul-pos, eq-or-lt_of_le, le_of_eq, lt_of_lt_of_le}
use native.Mathlib.Decide.{dec_le, ℕ_discrete}
use native.Mathlib.Omega.{arith}
use lib.Dec.{ltb}
use lib.ListN.{length}
use borrow.Author.Tests.{le-leb, ltb-false}
use Rattle.arithmetic.specs.declared.Fraction.{Fraction}
use Rattle.arithmetic.specs.Fractions.{Proper, Equal, NotMore}
use Rattle.arithmetic.specs.Sums.{sum_over}
use Rattle.arithmetic.proofs.Sums.{sum_most}
use Rattle.arithmetic.proofs.Fractions.{not_more_trans, either_way}
use Rattle.threshold.specs.Histogram.{count_of, total}
use Rattle.threshold.specs.TwoMeans.{level, lowest, highest, nearest, start, low, high, level_sum, round, Within, Rests, threshold}
use Rattle.threshold.proofs.Present.{lowest_is, highest_is, lowest_below, highest_below}
use Rattle.threshold.proofs.Picks.{over_part, over_has, over_le, over_times}
use Rattle.threshold.proofs.Rounds.{low_number, high_number, round_keeps_order, low_more, high_fewer, same_split}

-- numbers above 0 that never rise, the first of them at most b, stand still within b steps
falling_still : (b : ℕ) (f : ℕ → ℕ) → ((k : ℕ) → f (suc k) ≤ f k) → ((k : ℕ) → 0 < f k) → f 0 ≤ b
    → (k : ℕ) × (k < b) × (f (suc k) ≡ f k)
falling_still zero f falls pos most = absurd (let none : ⊥ = omega (arith, pos 0) in none)
falling_still (suc b) f falls pos most =
    ⊎_elim (λ e. (0, omega arith, e))
    (λ (less : f 1 < f 0). one_later (falling_still b (λ k. f (suc k)) (λ k. falls (suc k)) (λ k. pos (suc k)) (omega arith)))
    (eq-or-lt_of_le (falls 0))
  where
    one_later : (k : ℕ) × (k < b) × (f (suc (suc k)) ≡ f (suc k)) → (k : ℕ) × (k < suc b) × (f (suc k) ≡ f k)
    one_later r = (suc r.0, omega (arith, r.1), r.2)

-- numbers from 1 to b that never fall, or never rise, stand still within b steps
stands_still : (b : ℕ) (f : ℕ → ℕ) → ((k : ℕ) → (0 < f k) × (f k ≤ b))
    → ((k : ℕ) → f k ≤ f (suc k)) ⊎ ((k : ℕ) → f (suc k) ≤ f k)
    → (k : ℕ) × (k < b) × (f (suc k) ≡ f k)
stands_still b f in-it (inl rises) =
    let r = falling_still b (λ k. suc b - f k) (λ k. omega (arith, rises k)) (λ k. omega (arith, (in-it k).1)) (omega (arith, (in-it 0).0)) in
    (r.0, r.1, omega (arith, r.2, (in-it r.0).1, (in-it (suc r.0)).1))
stands_still b f in-it (inr falls) = falling_still b f falls (λ k. (in-it k).0) (in-it 0).1

-- within the levels present or not, at rest or not
unfoldable pub within_or_not : (h : List ℕ) (T : Fraction) → Dec (Within h T)
within_or_not h T =
    let test : Dec (Proper T × (NotMore (level (lowest h)) T × NotMore T (level (highest h)))) = Logic.Dec.and (dec_le _ _) (Logic.Dec.and (dec_le _ _) (dec_le _ _)) in
    elim test [
      | yes p ↦ yes (record { proper = p.0; from_lowest = p.1.0; to_highest = p.1.1 })
      | no f ↦ no (λ w. f (w.proper, (w.from_lowest, w.to_highest)))
    ]

unfoldable pub rests_or_not : (h : List ℕ) (T : Fraction) → Dec (Rests h T)
rests_or_not h T =
    let test : Dec (Within h T × Equal (round h T) T) = Logic.Dec.and (within_or_not h T) (ℕ_discrete _ _) in
    elim test [
      | yes p ↦ yes (record { within = p.0; still = p.1 })
      | no f ↦ no (λ r. f (r.within, r.still))
    ]

-- each level once, present or not
abbrev one : ℕ → ℕ
one v = 1

-- where a threshold stands, in halves of a level: how many levels are up to it, and how many are not from it on
unfoldable position : List ℕ → Fraction → ℕ
position h T = sum_over (length h) (low T) one + (length h - sum_over (length h) (high T) one)

-- of n levels at most n are picked
at_most_all : (n : ℕ) (p : ℕ → Bool) → sum_over n p one ≤ n
at_most_all n p = omega (arith, over_part n p one, sum_most 1 n one (λ v. omega arith))

module _ (h : List ℕ) (T U : Fraction) (pT : Proper T) (pU : Proper U) where
  -- the larger the threshold, the later its position
  position_grows : NotMore T U → position h T ≤ position h U
  unfolding position
  position_grows l = omega (arith, low_more h T U pT pU l one, high_fewer h T U pT pU l one)

  -- in one position a round gives one pair: in order
  same_below : NotMore T U → position h T ≡ position h U → round h T ≡ round h U
  unfolding position
  same_below l e =
      let x = low_more h T U pT pU l one in
      let y = high_fewer h T U pT pU l one in
      let z = at_most_all (length h) (high T) in
      same_split h T U pT pU l one (λ v z. absurd (let none : ⊥ = omega (arith, z) in none)) (omega (arith, x, y, z)) (omega (arith, x, y, z))

-- and whichever of the two is larger
same_position : (h : List ℕ) (T U : Fraction) → Proper T → Proper U → position h T ≡ position h U → round h T ≡ round h U
same_position h T U pT pU e =
    ⊎_elim (λ l. same_below h T U pT pU l e) (λ l. sym (same_below h U T pU pT l (sym e))) (either_way T U)

-- m, or the nearest of two ends, lies from one end to the other
nearest_within : (m g G : ℕ) → g ≤ G → (g ≤ nearest m g G) × (nearest m g G ≤ G)
nearest_within m g G l = go (ltb m g) (ltb G m) refl refl
  where
    go : (b d : Bool) → ltb m g ≡ b → ltb G m ≡ d → (g ≤ cond b g (cond d G m)) × (cond b g (cond d G m) ≤ G)
    go true d e f = omega arith
    go false true e f = omega arith
    go false false e f = omega (arith, ltb-false m g e, ltb-false G m f)

-- c times a number that is at most another wherever c is not 0
where_some : (c x y : ℕ) → (0 < c → x ≤ y) → x * c ≤ y * c
where_some zero x y l = omega arith
where_some (suc c) x y l = mul-le-mul_right (suc c) (l (omega arith))

module _ (h : List ℕ) (some : 0 < total h) where
  -- what is picked sums up to at least the lowest level each, and at most the highest
  lowest_each : (p : ℕ → Bool) → sum_over (length h) p (count_of h) * lowest h ≤ sum_over (length h) p (level_sum h)
  lowest_each p =
      omega (
        arith,
        over_le (length h) p (λ v. count_of h v * lowest h) (level_sum h)
            (λ v t. omega (arith, where_some (count_of h v) (lowest h) v ((lowest_is h some).least v))),
        over_times (length h) p (count_of h) (lowest h),
      )

  highest_each : (p : ℕ → Bool) → sum_over (length h) p (level_sum h) ≤ sum_over (length h) p (count_of h) * highest h
  highest_each p =
      omega (
        arith,
        over_le (length h) p (level_sum h) (λ v. count_of h v * highest h)
            (λ v t. omega (arith, where_some (count_of h v) v (highest h) ((highest_is h some).most v))),
        over_times (length h) p (count_of h) (highest h),
      )

  -- the lowest level is up to T, and the highest from T on
  module _ (T : Fraction) (w : Within h T) where
    low_has : (f : ℕ → ℕ) → f (lowest h) ≤ sum_over (length h) (low T) f
    low_has f =
        over_has (length h) (low T) f (lowest h) (lowest_below h some)
        (le-leb (lowest h * T.denominator) T.numerator (omega (arith, w.from_lowest)))

    high_has : (f : ℕ → ℕ) → f (highest h) ≤ sum_over (length h) (high T) f
    high_has f =
        over_has (length h) (high T) f (highest h) (highest_below h some)
        (le-leb T.numerator (highest h * T.denominator) (omega (arith, w.to_highest)))

    -- so there are levels on both sides
    pub low_some : 0 < low_number h T
    low_some = lt_of_lt_of_le (lowest_is h some).holds (low_has (count_of h))

    pub high_some : 0 < high_number h T
    high_some = lt_of_lt_of_le (highest_is h some).holds (high_has (count_of h))

    -- and a round stays from the lowest to the highest level
    pub round_within : Within h (round h T)
    unfolding round
    round_within =
        record {
          proper = mul-pos {m = 2 * low_number h T} {n = high_number h T} (omega (arith, low_some)) high_some;
          from_lowest =
              omega (
                arith,
                mul-le-mul_right (high_number h T) (lowest_each (low T)),
                mul-le-mul_right (low_number h T) (lowest_each (high T)),
              );
          to_highest =
              omega (
                arith,
                mul-le-mul_right (high_number h T) (highest_each (low T)),
                mul-le-mul_right (low_number h T) (highest_each (high T)),
              );
        }

    -- where there are n levels, the positions are 1 to 2·n − 1
    position_within : (0 < position h T) × (position h T ≤ 2 * length h - 1)
    unfolding position
    position_within = omega (arith, low_has one, high_has one, at_most_all (length h) (low T), at_most_all (length h) (high T))

  -- the start and all that follows lie from the lowest to the highest level
  pub start_within : (m : ℕ) → Within h (start m h)
  unfolding start
  start_within m =
      let ends = nearest_within m (lowest h) (highest h) ((highest_is h some).most (lowest h) (lowest_is h some).holds) in
      record { proper = omega arith; from_lowest = omega (arith, ends.0); to_highest = omega (arith, ends.1) }

  pub threshold_within : (m k : ℕ) → Within h (threshold m h k)
  unfolding threshold
  threshold_within m zero = start_within m
  threshold_within m (suc k) = round_within (threshold m h k) (threshold_within m k)

  -- thresholds S of which each is what a round makes of the one before
  record Follows (S : ℕ → Fraction) : Type 0 where
    within : (k : ℕ) → Within h (S k)
    next : (k : ℕ) → Equal (round h (S k)) (S (suc k))

  -- two such keep the order in which they begin
  in_order : (S R : ℕ → Fraction) → Follows S → Follows R → NotMore (S 0) (R 0) → (k : ℕ) → NotMore (S k) (R k)
  in_order S R s r l zero = l
  in_order S R s r l (suc k) =
      not_more_trans (S (suc k)) (round h (S k)) (R (suc k)) (round_within (S k) (s.within k)).proper (le_of_eq (sym (s.next k)))
      (not_more_trans (round h (S k)) (round h (R k)) (R (suc k)) (round_within (R k) (r.within k)).proper
      (round_keeps_order h (S k) (R k) (s.within k).proper (r.within k).proper (in_order S R s r l k))
      (le_of_eq (r.next k)))

  -- what rests follows itself
  resting : (R : Fraction) → Rests h R → Follows (λ k. R)
  resting R r = record { within = λ k. r.within; next = λ k. r.still }

  module _ (m : ℕ) where
    -- a threshold of the sequence rests where a round gives it back
    pub given_back : (k : ℕ) → Equal (threshold m h (suc k)) (threshold m h k) → Rests h (threshold m h k)
    unfolding threshold
    given_back k e = record { within = threshold_within m k; still = e }

    -- the thresholds, and the thresholds after the start
    thresholds : Follows (threshold m h)
    unfolding threshold
    thresholds = record { within = threshold_within m; next = λ k. refl }

    later : Follows (λ k. threshold m h (suc k))
    later = record { within = λ k. thresholds.within (suc k); next = λ k. thresholds.next (suc k) }

    -- what rests above the start stays above all thresholds, and what rests below it stays below
    pub stays_above : (R : Fraction) → Rests h R → NotMore (start m h) R → (k : ℕ) → NotMore (threshold m h k) R
    unfolding threshold
    stays_above R r = in_order (threshold m h) (λ k. R) thresholds (resting R r)

    pub stays_below : (R : Fraction) → Rests h R → NotMore R (start m h) → (k : ℕ) → NotMore R (threshold m h k)
    unfolding threshold
    stays_below R r = in_order (λ k. R) (threshold m h) (resting R r) thresholds

    -- the sequence goes one way
    pub one_way : ((k : ℕ) → NotMore (threshold m h k) (threshold m h (suc k))) ⊎ ((k : ℕ) → NotMore (threshold m h (suc k)) (threshold m h k))
    one_way =
        ⊎_elim
        (λ l. inl (in_order (threshold m h) (λ k. threshold m h (suc k)) thresholds later l))
        (λ l. inr (in_order (λ k. threshold m h (suc k)) (threshold m h) later thresholds l))
        (either_way (threshold m h 0) (threshold m h 1))

    -- a round within one position ends at rest
    rests_there : (k : ℕ) → position h (threshold m h (suc k)) ≡ position h (threshold m h k) → Rests h (threshold m h (suc k))
    unfolding threshold
    rests_there k e =
        let T : Fraction = threshold m h k in
        let U : Fraction = threshold m h (suc k) in
        let w : Within h U = threshold_within m (suc k) in
        given_back (suc k) (subst (λ (R : Fraction). Equal R U) (same_position h T U (threshold_within m k).proper w.proper (sym e)) refl)

    -- the positions go one way too
    positions_one_way : ((k : ℕ) → position h (threshold m h k) ≤ position h (threshold m h (suc k)))
        ⊎ ((k : ℕ) → position h (threshold m h (suc k)) ≤ position h (threshold m h k))
    positions_one_way =
        ⊎_elim (λ up. inl (λ k. grows k (suc k) (up k))) (λ down. inr (λ k. grows (suc k) k (down k))) one_way
      where
        grows : (j k : ℕ) → NotMore (threshold m h j) (threshold m h k) → position h (threshold m h j) ≤ position h (threshold m h k)
        grows j k = position_grows h (threshold m h j) (threshold m h k) (threshold_within m j).proper (threshold_within m k).proper

    -- so the sequence comes to rest, after at most 2·n − 1 rounds
    pub comes_to_rest : (k : ℕ) × (k ≤ 2 * length h - 1) × Rests h (threshold m h k)
    comes_to_rest =
        let r = stands_still (2 * length h - 1) (λ k. position h (threshold m h k)) (λ k. position_within (threshold m h k) (threshold_within m k)) positions_one_way in
        (suc r.0, r.1, rests_there r.0 r.2)
