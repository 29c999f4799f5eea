-- The two tables of a histogram, which have for each level how many values lie below it and the sum of their levels: how they are
-- filled, and that what a round needs can be read from them. Assumes nothing.
use mathlib.Core.Path.{◌≡◌, sym, ◌∙◌}
use mathlib.Core.Bool.{Bool, true, false, cond, not}
use mathlib.Core.List.{List}
use Prim.Native.Nat.{ℕ, zero, suc, ◌+◌, ◌-◌, ◌*◌, ◌/◌, ◌<◌, ◌≤◌}
use native.Mathlib.Nat.{le_refl, le_trans, suc-mul, mul-add, mul-le-mul, mul-le-mul_right, le-div_iff_mul-le, div-lt_iff_lt-mul}
use native.Mathlib.Omega.{arith}
use Rattle.std.specs.Int.{div_ceil}
use Rattle.std.proofs.lemmas.Grind.{div_ceil_times}
use lib.ListN.{length, get_or, set, replicate, length-replicate, get_or-replicate}
use borrow.Author.Tests.{le-leb, lt-leb}
use Rattle.arithmetic.specs.declared.Fraction.{Fraction}
use Rattle.arithmetic.specs.Lists.{AtMost}
use Rattle.arithmetic.specs.Sums.{sum, sum_over}
use Rattle.arithmetic.specs.Fractions.{fraction, Proper}
use Rattle.arithmetic.proofs.Lists.{Written, written_more}
use Rattle.arithmetic.proofs.Sums.{sum_none, sum_more, sum_most, sum_same, sum_part}
use Rattle.threshold.specs.Histogram.{count_of, total}
use Rattle.threshold.specs.TwoMeans.{highest, low, high, level_sum, round, Within}
use Rattle.threshold.specs.Asked.{Filled, Tables, Small}
use Rattle.threshold.proofs.Present.{highest_below}
use Rattle.threshold.proofs.Picks.{over_rest, over_part}
use Rattle.threshold.proofs.Rounds.{low_sum, low_number, high_sum, high_number}

-- each of n levels is below n: so is their mean
sum_of_levels : (n : ℕ) (f : ℕ → ℕ) → sum n (λ v. v * f v) ≤ n * sum n f
unfolding sum
sum_of_levels zero f = omega arith
sum_of_levels (suc n) f = omega (arith, sum_of_levels n f, suc-mul n (sum n f + f n), mul-add n (sum n f) (f n))

-- ---- filling
-- the tables are right up to level v, and its two numbers are at hand
pub record Filling (h : List ℕ) (v : ℕ) (below sums : List ℕ) (number added : ℕ) : Type 0 where
  pub filled : Filled h v below sums
  pub number_is : number ≡ sum v (count_of h)
  pub added_is : added ≡ sum v (level_sum h)

-- what stands at place v of either
abbrev number_below : List ℕ → ℕ → ℕ
number_below h v = sum v (count_of h)

abbrev sum_below : List ℕ → ℕ → ℕ
sum_below h v = sum v (level_sum h)

-- the places of a table up to v are written
abbrev Table : (ℕ → ℕ) → List ℕ → List ℕ → ℕ → Type 0
Table f h table v = Written f (length h + 1) table (v + 1)

-- where those of both are, the two are right up to level v
right_up_to : {h below sums : List ℕ} {v : ℕ} → Table (number_below h) h below v → Table (sum_below h) h sums v → Filled h v below sums
right_up_to n s =
    record {
      below_long = n.places;
      sums_long = s.places;
      below_are = λ k b. n.are k (omega arith);
      sums_are = λ k b. s.are k (omega arith);
    }

-- and where the two are right, those of both are written
module _ {h below sums : List ℕ} {v : ℕ} (f : Filled h v below sums) where
  below_written : Table (number_below h) h below v
  below_written = record { places = f.below_long; are = λ k b. f.below_are k (omega arith) }

  sums_written : Table (sum_below h) h sums v
  sums_written = record { places = f.sums_long; are = λ k b. f.sums_are k (omega arith) }

-- nothing lies below level 0
pub filling_none : (h : List ℕ) {n : ℕ} → length h + 1 ≡ n → Filling h 0 (replicate n 0) (replicate n 0) 0 0
filling_none h {n} long =
    record {
      filled =
          record {
            below_long = length-replicate n 0 ∙ sym long;
            sums_long = length-replicate n 0 ∙ sym long;
            below_are = λ k b. let first : k ≡ 0 = omega arith in rw first (at-first (count_of h));
            sums_are = λ k b. let first : k ≡ 0 = omega arith in rw first (at-first (level_sum h));
          };
      number_is = sym (sum_none (count_of h));
      added_is = sym (sum_none (level_sum h));
    }
  where
    at-first : (f : ℕ → ℕ) → get_or (replicate n 0) 0 0 ≡ sum 0 f
    at-first f = get_or-replicate n 0 0 0 (omega arith) ∙ sym (sum_none f)

module _ {h below sums : List ℕ} {v number added : ℕ} (so_far : Filling h v below sums number added) where
  -- one level more
  pub filling_more : v < length h → let number' = number + count_of h v in let added' = added + level_sum h v in
      Filling h (v + 1) (set below (v + 1) number') (set sums (v + 1) added') number' added'
  filling_more turn =
      let number_is : number + count_of h v ≡ number_below h (v + 1) = omega (arith, so_far.number_is, sum_more v (count_of h)) in
      let added_is : added + level_sum h v ≡ sum_below h (v + 1) = omega (arith, so_far.added_is, sum_more v (level_sum h)) in
      record {
        filled =
            right_up_to
            (written_more (number_below h) below (v + 1) _ (omega arith) number_is (below_written so_far.filled))
            (written_more (sum_below h) sums (v + 1) _ (omega arith) added_is (sums_written so_far.filled));
        number_is = number_is;
        added_is = added_is;
      }

  -- no level is left
  pub filling_all : v ≤ length h → length h ≤ v → Tables h below sums
  filling_all up_to_lem past = let e : v ≡ length h = omega arith in rw e at so_far.filled

  -- with counts of 32 bits at 2,048 levels, what is stored fits 64 bits
  module _ (counts : AtMost 4294967295 h) (levels : length h ≤ 2048) (turn : v < length h) where
    pub number_room : number + count_of h v ≤ 8796093020160
    number_room = omega (arith, so_far.number_is, sum_most 4294967295 v (count_of h) counts, counts v)

    pub level_sum_room : level_sum h v ≤ 8796093020160
    level_sum_room = omega (arith, mul-le-mul {n₁ = v} {n₂ = 2048} (omega arith) (counts v))

    pub added_room : added + level_sum h v ≤ 18014398505287680
    added_room =
        let most : sum v (count_of h) ≤ 8796093020160 = omega (arith, sum_most 4294967295 v (count_of h) counts) in
        omega (arith, so_far.added_is, sum_of_levels v (count_of h), mul-le-mul {n₁ = v} {n₂ = 2047} (omega arith) most, level_sum_room)

-- ---- reading
-- a test that picks the levels below k
pub record Cut (p : ℕ → Bool) (k : ℕ) : Type 0 where
  pub below : (v : ℕ) → v < k → p v ≡ true
  pub past : (v : ℕ) → k ≤ v → p v ≡ false

module _ {p : ℕ → Bool} {k : ℕ} (cut : Cut p k) (f : ℕ → ℕ) where
  -- d levels more, which it does not pick
  cut_then : (d : ℕ) → sum_over (k + d) p f ≡ sum k f
  unfolding sum sum_over
  cut_then zero = let e : k + 0 ≡ k = omega arith in rw e (sum_same k (λ v. cond (p v) (f v) 0) f (λ v b. rw (cut.below v b)))
  cut_then (suc d) = let e : k + suc d ≡ suc (k + d) = omega arith in rw (e, cut.past (k + d) (omega arith)) (omega (arith, cut_then d))

  -- it sums up what lies below k
  cut_sum : {n : ℕ} → k ≤ n → sum_over n p f ≡ sum k f
  cut_sum {n} in-it = let e : n ≡ k + (n - k) = omega arith in rw e (cut_then (n - k))

-- T's whole part
abbrev pub whole : Fraction → ℕ
whole T = T.numerator / T.denominator

module _ (T : Fraction) (proper : Proper T) where
  -- a level past it is past T
  past_whole : (v : ℕ) → whole T + 1 ≤ v → T.numerator < v * T.denominator
  past_whole v h = (div-lt_iff_lt-mul proper).0 (omega arith)

  -- the levels up to T are those up to its whole part
  low_cut : Cut (low T) (whole T + 1)
  low_cut =
      record {
        below = λ v h. le-leb (v * T.denominator) T.numerator ((le-div_iff_mul-le proper).0 (omega arith));
        past = λ v h. lt-leb (v * T.denominator) T.numerator (past_whole v h);
      }

  -- the levels that are not from T on are those below it, rounded up
  high_cut : {up : ℕ} → T.numerator ≤ up * T.denominator → up * T.denominator < T.numerator + T.denominator → Cut (λ v. not (high T v)) up
  high_cut enough no-more =
      record {
        below = λ v h. rw (lt-leb T.numerator (v * T.denominator) (omega (arith, no-more, mul-le-mul_right T.denominator h)));
        past = λ v h. rw (le-leb T.numerator (v * T.denominator) (omega (arith, enough, mul-le-mul_right T.denominator h)));
      }

-- where a round reads the tables: at the first level past T, and at the first that is not below T
pub record Places (h : List ℕ) (T : Fraction) (from : ℕ) : Type 0 where
  pub up_to_in : whole T + 1 ≤ length h
  pub from_in : from ≤ length h
  pub up_to_is : Cut (low T) (whole T + 1)
  pub from_is : Cut (λ v. not (high T v)) from

module _ (h : List ℕ) (T : Fraction) (some : 0 < total h) (within : Within h T) where
  -- T's whole part is a level
  pub whole_in : whole T + 1 ≤ length h
  whole_in =
      let to_highest : whole T < highest h + 1 = (div-lt_iff_lt-mul within.proper).1 (omega (arith, within.to_highest)) in
      omega (arith, highest_below h some)

  -- T rounded up is a level, or the one past the last
  pub places : {from : ℕ} → from ≡ div_ceil T.numerator T.denominator → Places h T from
  places is =
      let rounded = div_ceil_times T.numerator T.denominator within.proper in
      record {
        up_to_in = whole_in;
        from_in = omega (arith, whole_in);
        up_to_is = low_cut T within.proper;
        from_is = high_cut T within.proper (rw is rounded.0) (rw is rounded.1);
      }

-- in tables of p places the level past T's whole part has one, and T rounded up
module _ {h : List ℕ} {T : Fraction} {p : ℕ} (levels : length h + 1 ≡ p) (within : (0 < total h) × Within h T) where
  pub whole_last : T.numerator / T.denominator + 1 < p
  whole_last = omega (arith, levels, whole_in h T within.0 within.1)

  pub rounded_last : {from : ℕ} → from ≡ div_ceil T.numerator T.denominator → from < p
  rounded_last is = let at = places h T within.0 within.1 is in omega (arith, levels, at.from_in)

-- what is read there, from either table
module _ (f : ℕ → ℕ) (h table : List ℕ) (right : (v : ℕ) → v ≤ length h → get_or table v 0 ≡ sum v f) {T : Fraction} {from : ℕ} (at : Places h T from) where
  low_read : get_or table (whole T + 1) 0 ≡ sum_over (length h) (low T) f
  low_read = right (whole T + 1) at.up_to_in ∙ sym (cut_sum at.up_to_is f at.up_to_in)

  high_read : get_or table from 0 + sum_over (length h) (high T) f ≡ get_or table (length h) 0
  high_read =
      omega (
        arith,
        right from at.from_in,
        right (length h) (le_refl (length h)),
        over_rest (length h) (high T) f,
        cut_sum at.from_is f at.from_in,
      )

-- past the last level the first table has the total
pub total_read : {h below sums : List ℕ} {n : ℕ} → length h ≡ n → Tables h below sums → get_or below n 0 ≡ total h
unfolding total
total_read {h} levels tables = rw (← levels) (tables.below_are (length h) (le_refl (length h)))

-- with at most 2,048 levels and a total of at most 1,048,576, what is read is small
module _ {h : List ℕ} (small : Small h) {k : ℕ} (in-it : k ≤ length h) where
  number_small : sum k (count_of h) ≤ 1048576
  unfolding total
  number_small = le_trans (sum_part (count_of h) in-it) small.values

  sum_small : sum k (level_sum h) ≤ 2147483648
  sum_small = omega (arith, sum_of_levels k (count_of h), mul-le-mul {n₁ = k} {n₂ = 2048} (omega (arith, small.levels)) number_small)

-- A, B, C, E of a round, and that what is made of them fits 64 bits
pub record Read (h : List ℕ) (T : Fraction) (a b c e : ℕ) : Type 0 where
  pub a_is : a ≡ low_sum h T
  pub b_is : b ≡ low_number h T
  pub c_is : c ≡ high_sum h T
  pub e_is : e ≡ high_number h T
  pub b_small : b ≤ 1048576
  pub ae_small : a * e ≤ 2251799813685248
  pub cb_small : c * b ≤ 2251799813685248
  pub be_small : b * e ≤ 1099511627776

-- as they are read from the tables
abbrev pub ReadFrom : List ℕ → List ℕ → List ℕ → Fraction → ℕ → ℕ → Type 0
ReadFrom h below sums T from levels =
    Read h T
    (get_or sums (whole T + 1) 0)
    (get_or below (whole T + 1) 0)
    (get_or sums levels 0 - get_or sums from 0)
    (get_or below levels 0 - get_or below from 0)

module _ {h below sums : List ℕ} (tables : Tables h below sums) {T : Fraction} {from levels : ℕ} (at : Places h T from) (long : length h ≡ levels) where
  -- nothing is taken from less
  pub sums_in : get_or sums from 0 ≤ get_or sums levels 0
  sums_in = rw (← long) (omega (arith, high_read (level_sum h) h sums tables.sums_are at))

  pub below_in : get_or below from 0 ≤ get_or below levels 0
  below_in = rw (← long) (omega (arith, high_read (count_of h) h below tables.below_are at))

  read_all : Small h → ReadFrom h below sums T from (length h)
  read_all small =
      let n = length h in
      let u = whole T + 1 in
      let all : n ≤ n = le_refl n in
      let a_small : get_or sums u 0 ≤ 2147483648 = omega (arith, tables.sums_are u at.up_to_in, sum_small small at.up_to_in) in
      let b_small : get_or below u 0 ≤ 1048576 = omega (arith, tables.below_are u at.up_to_in, number_small small at.up_to_in) in
      let c-small : get_or sums n 0 - get_or sums from 0 ≤ 2147483648 = omega (arith, tables.sums_are n all, sum_small small all) in
      let e-small : get_or below n 0 - get_or below from 0 ≤ 1048576 = omega (arith, tables.below_are n all, number_small small all) in
      record {
        a_is = low_read (level_sum h) h sums tables.sums_are at;
        b_is = low_read (count_of h) h below tables.below_are at;
        c_is = omega (arith, high_read (level_sum h) h sums tables.sums_are at);
        e_is = omega (arith, high_read (count_of h) h below tables.below_are at);
        b_small = b_small;
        ae_small = mul-le-mul a_small e-small;
        cb_small = mul-le-mul c-small b_small;
        be_small = mul-le-mul b_small e-small;
      }

  pub read : Small h → ReadFrom h below sums T from levels
  read small = rw (← long) (read_all small)

-- the next threshold is made of them
pub round_is : {h : List ℕ} {T : Fraction} {a b c e : ℕ} → Read h T a b c e → fraction (a * e + c * b) (2 * b * e) ≡ round h T
unfolding round
round_is r i = fraction (r.a_is i * r.e_is i + r.c_is i * r.b_is i) (2 * r.b_is i * r.e_is i)

-- and its denominator, twice the product of two numbers of values, is small
pub denominator_small : (h : List ℕ) (T : Fraction) → Small h → (round h T).denominator ≤ 2199023255552
unfolding round
denominator_small h T small = omega (arith, mul-le-mul (number-most (low T)) (number-most (high T)))
  where
    number-most : (p : ℕ → Bool) → sum_over (length h) p (count_of h) ≤ 1048576
    number-most p = le_trans (over_part (length h) p (count_of h)) (number_small small (le_refl (length h)))
