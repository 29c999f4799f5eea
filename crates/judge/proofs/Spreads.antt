-- Laws of the noise: D in natural numbers, that it is never below 0 and at most 2^62, and the sums that the loops gather for it.
-- Assumes nothing.
use mathlib.Core.Path.{◌≡◌, refl, sym, subst}
use mathlib.Core.Logic.{⊎_elim}
use mathlib.Core.List.{List}
use Prim.Native.Nat.{ℕ, zero, suc, ◌+◌, ◌-◌, ◌*◌, ◌<◌, ◌≤◌, ◌^◌}
use native.Mathlib.Nat.{mul-le-mul, le_trans, le_antisymm}
use native.Mathlib.Numerals.{add-one}
use native.Mathlib.Omega.{arith}
use lib.IntN.{pos, ◌-ℤ◌}
use Rattle.std.specs.Int.{abs_diff}
use Rattle.arithmetic.specs.Signed.{nat_of, square}
use Rattle.arithmetic.specs.Lists.{AtMost}
use Rattle.arithmetic.specs.Sums.{sum}
use Rattle.arithmetic.proofs.Order.{le_or_lt}
use Rattle.arithmetic.proofs.Differences.{pos_minus, sub_pos, sub_neg}
use Rattle.arithmetic.proofs.Sums.{sum_none, sum_more, sum_goes_on, square_of_sum}
use Rattle.arithmetic.proofs.SignedSums.{over_natural, over_minus}
use Rattle.judge.specs.Noise.{counts, inner_pixels, difference, sum_inner, spread_of}
use Rattle.judge.specs.Asked.{light, flat, inner_place, squared_at, Sums}
use Rattle.judge.proofs.Inner.{over_inner}

-- the square of a difference is the square of how far the two are apart
square_apart : (a b : ℕ) → square (pos a -ℤ pos b) ≡ pos (abs_diff a b * abs_diff a b)
square_apart a b = rw (pos_minus a b) (⊎_elim
    (λ (h : b ≤ a). let e : abs_diff a b ≡ a - b = omega arith in rw (sub_pos a b h, e))
    (λ (h : a < b). let e : abs_diff a b ≡ suc (b - suc a) = omega arith in rw (sub_neg a b h, e))
    (le_or_lt b a))

-- two sums are no farther apart than their numbers are together
sums_apart : (n : ℕ) (f g : ℕ → ℕ) → abs_diff (sum n f) (sum n g) ≤ sum n (λ k. abs_diff (f k) (g k))
unfolding sum
sums_apart zero f g = omega arith
sums_apart (suc n) f g = omega (arith, sums_apart n f g)

-- n pixels, of which l k is 8 times the level of the k-th and f k its filtered eighths
module _ (n : ℕ) (l f : ℕ → ℕ) where
  -- the sum of d²
  abbrev squares_of : ℕ
  squares_of = sum n (squared_at l f)

  -- how far the sum of d is from 0
  abbrev away_of : ℕ
  away_of = abs_diff (sum n l) (sum n f)

  -- the square of the sum is at most n times the sum of the squares
  never_wraps : away_of * away_of ≤ n * squares_of
  never_wraps =
      let apart = sums_apart n l f in
      le_trans (mul-le-mul apart apart) (square_of_sum (λ k. abs_diff (l k) (f k)) n)

-- the three sums, of any such pixels
module _ (l f : ℕ → ℕ) where
  -- of none
  pub sums_none : Sums l f 0 0 0 0
  sums_none =
      record {
        squares_is = sym (sum_none (squared_at l f));
        lights_is = sym (sum_none l);
        flats_is = sym (sum_none f);
        squares_most = omega arith;
        lights_most = omega arith;
        flats_most = omega arith;
      }

  -- with one pixel more, where a is 8 times its level, v its filtered value and d how far these are apart
  pub sums_more : {k squares lights flats a v d : ℕ} → (a ≡ l k) × (a ≤ 2040) → (v ≡ f k) × (v ≤ 2040) → d ≡ abs_diff a v
      → Sums l f k squares lights flats → Sums l f (k + 1) (squares + d * d) (lights + a) (flats + v)
  sums_more {k} {squares} {lights} {flats} {a} {v} {d} lit flat apart s =
      let near : d ≤ 2040 = omega (arith, lit.1, flat.1) in
      let is : d ≡ abs_diff (l k) (f k) = rw (lit.0, flat.0) at apart in
      record {
        squares_is = rw (sum_more k (squared_at l f), ← s.squares_is, ← is);
        lights_is = rw (sum_more k l, ← s.lights_is, ← lit.0);
        flats_is = rw (sum_more k f, ← s.flats_is, ← flat.0);
        squares_most = omega (arith, s.squares_most, mul-le-mul near near);
        lights_most = omega (arith, s.lights_most, lit.1);
        flats_most = omega (arith, s.flats_most, flat.1);
      }

  -- where a loop ends
  pub sums_done : {k n squares lights flats : ℕ} → k ≤ n → n ≤ k → Sums l f k squares lights flats → Sums l f n squares lights flats
  sums_done {k} {n} {squares} {lights} {flats} h g s = subst (λ (m : ℕ). Sums l f m squares lights flats) (le_antisymm h g) s

  -- with the next n pixels, of which the k-th has l' k and f' k
  pub sums_joined : (l' f' : ℕ → ℕ) (at n : ℕ) → ((k : ℕ) → k < n → l' k ≡ l (at + k)) → ((k : ℕ) → k < n → f' k ≡ f (at + k))
      → {squares lights flats a b c : ℕ} → Sums l f at squares lights flats → Sums l' f' n a b c
      → Sums l f (at + n) (squares + a) (lights + b) (flats + c)
  sums_joined l' f' at n lit flat {squares} {lights} {flats} {a} {b} {c} p q =
      record {
        squares_is = rw (p.squares_is, q.squares_is) (sum_goes_on at n (squared_at l f) (squared_at l' f') (λ k h. rw (lit k h, flat k h)));
        lights_is = rw (p.lights_is, q.lights_is) (sum_goes_on at n l l' lit);
        flats_is = rw (p.flats_is, q.flats_is) (sum_goes_on at n f f' flat);
        squares_most = omega (arith, p.squares_most, q.squares_most);
        lights_most = omega (arith, p.lights_most, q.lights_most);
        flats_most = omega (arith, p.flats_most, q.flats_most);
      }

  -- of all n pixels, where no number is too great
  all_sums : ((k : ℕ) → l k ≤ 2040) → ((k : ℕ) → f k ≤ 2040) → (n : ℕ) → Sums l f n (squares_of n l f) (sum n l) (sum n f)
  unfolding sum
  all_sums bytes small zero = sums_none
  all_sums bytes small (suc n) = rw add-one at (sums_more (refl, bytes n) (refl, small n) refl (all_sums bytes small n))

  -- the product has room
  pub room : {n squares lights flats : ℕ} → Sums l f n squares lights flats → n ≤ 1048576 → n * squares ≤ 2 ^ 62
  room {n} {squares} s h = let all : squares ≤ 1048576 * 4161600 = omega (arith, s.squares_most) in omega (arith, mul-le-mul h all)

  -- and the subtraction never wraps
  pub no_wrap : {n squares lights flats away : ℕ} → Sums l f n squares lights flats → away ≡ abs_diff lights flats → away * away ≤ n * squares
  no_wrap {n} s is = rw (is, s.squares_is, s.lights_is, s.flats_is) (never_wraps n l f)

-- ---- D of a picture: the pixels are those of it that count
-- 8 times the level of the k-th of them, and its filtered eighths
abbrev pub light_at : ℕ → List ℕ → ℕ → ℕ
light_at w levels k = light levels (inner_place w k)

abbrev pub flat_at : ℕ → List ℕ → ℕ → ℕ
flat_at w filtered k = flat filtered (inner_place w k)

module _ (w h : ℕ) (levels filtered : List ℕ) where
  abbrev N : ℕ
  N = inner_pixels w h

  abbrev squares_in : ℕ
  squares_in = squares_of N (light_at w levels) (flat_at w filtered)

  abbrev away_in : ℕ
  away_in = away_of N (light_at w levels) (flat_at w filtered)

  -- in natural numbers
  in_naturals : spread_of w h levels filtered ≡ pos (N * squares_in - away_in * away_in)
  unfolding spread_of sum_inner
  in_naturals =
      let l = light levels in
      let f = flat filtered in
      rw (
        over_natural (w * h) (counts w h) (λ k. square (difference levels filtered k)) (squared_at l f) (λ k. square_apart (l k) (f k)),
        over_minus (w * h) (counts w h) l f,
        over_inner w h (squared_at l f),
        over_inner w h l,
        over_inner w h f,
        square_apart (sum N (light_at w levels)) (sum N (flat_at w filtered)),
        pos_minus (N * squares_in) (away_in * away_in),
      )
      (sub_pos (N * squares_in) (away_in * away_in) (never_wraps N (light_at w levels) (flat_at w filtered)))

  -- never below 0
  pub never_negative : pos (nat_of (spread_of w h levels filtered)) ≡ spread_of w h levels filtered
  never_negative = rw in_naturals

  -- and at most 2^62
  pub spread_most : N ≤ 1048576 → AtMost 255 levels → AtMost 2040 filtered → nat_of (spread_of w h levels filtered) ≤ 2 ^ 62
  spread_most few bytes small =
      let all = all_sums (light_at w levels) (flat_at w filtered) (λ k. omega (arith, bytes (inner_place w k))) (λ k. small (inner_place w k)) N in
      rw in_naturals (omega (arith, room (light_at w levels) (flat_at w filtered) all few))

  -- it is what the code makes of the sums of all N
  pub is_spread : {squares lights flats away : ℕ} → Sums (light_at w levels) (flat_at w filtered) N squares lights flats → away ≡ abs_diff lights flats
      → pos (N * squares - away * away) ≡ spread_of w h levels filtered
  is_spread s is = rw (is, s.squares_is, s.lights_is, s.flats_is) (sym in_naturals)
