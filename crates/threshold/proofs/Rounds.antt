-- Laws of one round: it keeps the order of two thresholds, it goes by the levels on either side alone, and it gives equal thresholds as
-- equal pairs. Assumes nothing.
use mathlib.Core.Path.{◌≡◌, sym, ap}
use mathlib.Core.Bool.{Bool, true}
use mathlib.Core.List.{List}
use mathlib.Core.Logic.{⊎_elim}
use Prim.Native.Nat.{ℕ, suc, ◌+◌, ◌*◌, ◌<◌, ◌≤◌}
use native.Mathlib.Nat.{mul-le-mul_right, le_of_mul-le-mul_right, eq_of_mul-eq-mul_right, le_of_eq, le_antisymm}
use native.Mathlib.Omega.{arith}
use lib.ListN.{length}
use borrow.Author.Tests.{leb-true, leb-false, le-leb}
use Rattle.arithmetic.specs.declared.Fraction.{Fraction}
use Rattle.arithmetic.specs.Fractions.{fraction, Proper, Equal, NotMore}
use Rattle.arithmetic.specs.Sums.{sum_over}
use Rattle.arithmetic.proofs.Fractions.{not_more_trans, either_way}
use Rattle.threshold.specs.Histogram.{count_of}
use Rattle.threshold.specs.TwoMeans.{level, low, high, level_sum, mean, round}
use Rattle.threshold.proofs.Picks.{Sub, beyond, beyond_is, over_in_two, over_le, over_zero, over_times, over_add}
use Rattle.threshold.proofs.HalfSums.{half_sum_grows, low_same, high_same}

-- A, B, C and E: the sum and the number of the levels up to T, and of those from T on
abbrev pub low_sum : List ℕ → Fraction → ℕ
low_sum h T = (mean h (low T)).numerator

abbrev pub low_number : List ℕ → Fraction → ℕ
low_number h T = (mean h (low T)).denominator

abbrev pub high_sum : List ℕ → Fraction → ℕ
high_sum h T = (mean h (high T)).numerator

abbrev pub high_number : List ℕ → Fraction → ℕ
high_number h T = (mean h (high T)).denominator

-- the levels picked all lie below n/d; none of them does
abbrev Under : (ℕ → Bool) → ℕ → ℕ → Type 0
Under p n d = (v : ℕ) → p v ≡ true → v * d < n

abbrev From : (ℕ → Bool) → ℕ → ℕ → Type 0
From q n d = (v : ℕ) → q v ≡ true → n ≤ v * d

-- Levels p below n/d and levels q from there on: what their sums come to, and how far apart their means are.
module _ (h : List ℕ) (p q : ℕ → Bool) (n d : ℕ) (pos : 0 < d) (below : Under p n d) (from : From q n d) where
  sum_under : (mean h p).numerator * d + (mean h p).denominator ≤ (mean h p).denominator * n
  sum_under =
      omega (
        arith,
        over_le (length h) p (λ v. level_sum h v * d + count_of h v) (λ v. count_of h v * n) (λ v t. omega (arith, mul-le-mul_right (count_of h v) (below v t))),
        over_add (length h) p (λ v. level_sum h v * d) (count_of h),
        over_times (length h) p (level_sum h) d,
        over_times (length h) p (count_of h) n,
      )

  sum_from : (mean h q).denominator * n ≤ (mean h q).numerator * d
  sum_from =
      omega (
        arith,
        over_le (length h) q (λ v. count_of h v * n) (λ v. level_sum h v * d) (λ v t. omega (arith, mul-le-mul_right (count_of h v) (from v t))),
        over_times (length h) q (level_sum h) d,
        over_times (length h) q (count_of h) n,
      )

  gap : (mean h p).numerator * (mean h q).denominator * d + (mean h p).denominator * (mean h q).denominator ≤ (mean h q).numerator * (mean h p).denominator * d
  gap = omega (arith, mul-le-mul_right (mean h q).denominator sum_under, mul-le-mul_right (mean h p).denominator sum_from)

  -- the mean of p is not more than that of q
  apart : NotMore (mean h p) (mean h q)
  apart = le_of_mul-le-mul_right {k = d} (omega (arith, gap)) pos

  -- and the same only where there are no such levels q, or none p
  none_from : Proper (mean h p) → Equal (mean h p) (mean h q) → (mean h q).denominator ≡ 0
  none_from some e = eq_of_mul-eq-mul_right (mean h p).denominator some (mean h q).denominator 0 (omega (arith, gap, ap (λ (z : ℕ). z * d) e))

  none_under : Proper (mean h q) → Equal (mean h p) (mean h q) → (mean h p).denominator ≡ 0
  none_under some e = eq_of_mul-eq-mul_right (mean h q).denominator some (mean h p).denominator 0 (omega (arith, gap, ap (λ (z : ℕ). z * d) e))

-- where T is not more than U, a level up to T is one up to U, and a level from U on is one from T on
low_sub : (T U : Fraction) → Proper T → NotMore T U → Sub (low T) (low U)
low_sub T U proper l v t =
    le-leb (v * U.denominator) U.numerator
    (omega (arith, not_more_trans (level v) T U proper (omega (arith, leb-true (v * T.denominator) T.numerator t)) l))

high_sub : (T U : Fraction) → Proper U → NotMore T U → Sub (high U) (high T)
high_sub T U proper l v t =
    le-leb T.numerator (v * T.denominator)
    (omega (arith, not_more_trans T U (level v) proper l (omega (arith, leb-true U.numerator (v * U.denominator) t))))

module _ (h : List ℕ) (T U : Fraction) (pT : Proper T) (pU : Proper U) (l : NotMore T U) where
  -- the levels up to U that lie above T, and the levels from T on that lie below U
  abbrev above : ℕ → Bool
  above = beyond (low T) (low U)

  abbrev beneath : ℕ → Bool
  beneath = beyond (high U) (high T)

  -- so the levels on either side fall into two parts
  low_parts : (f : ℕ → ℕ) → sum_over (length h) (low U) f ≡ sum_over (length h) (low T) f + sum_over (length h) above f
  low_parts = over_in_two (low T) (low U) (low_sub T U pT l) (length h)

  high_parts : (f : ℕ → ℕ) → sum_over (length h) (high T) f ≡ sum_over (length h) (high U) f + sum_over (length h) beneath f
  high_parts = over_in_two (high U) (high T) (high_sub T U pU l) (length h)

  -- the larger the threshold, the more levels are up to it, and the fewer from it on
  pub low_more : (f : ℕ → ℕ) → sum_over (length h) (low T) f ≤ sum_over (length h) (low U) f
  low_more f = omega (arith, low_parts f)

  pub high_fewer : (f : ℕ → ℕ) → sum_over (length h) (high U) f ≤ sum_over (length h) (high T) f
  high_fewer f = omega (arith, high_parts f)

  -- where the parts lie
  low_under : Under (low T) (suc T.numerator) T.denominator
  low_under v t = omega (arith, leb-true (v * T.denominator) T.numerator t)

  above_from : From above (suc T.numerator) T.denominator
  above_from v t = leb-false (v * T.denominator) T.numerator (beyond_is (low T) (low U) v t).1

  beneath_under : Under beneath U.numerator U.denominator
  beneath_under v t = leb-false U.numerator (v * U.denominator) (beyond_is (high U) (high T) v t).1

  high_from : From (high U) U.numerator U.denominator
  high_from v = leb-true U.numerator (v * U.denominator)

  -- both means grow with the threshold
  low_grows : NotMore (mean h (low T)) (mean h (low U))
  low_grows =
      rw (low_parts (level_sum h), low_parts (count_of h))
      (omega (arith, apart h (low T) above (suc T.numerator) T.denominator pT low_under above_from))

  high_grows : NotMore (mean h (high T)) (mean h (high U))
  high_grows =
      rw (high_parts (level_sum h), high_parts (count_of h))
      (omega (arith, apart h beneath (high U) U.numerator U.denominator pU beneath_under high_from))

  -- a round keeps the order
  pub round_keeps_order : NotMore (round h T) (round h U)
  unfolding round
  round_keeps_order = half_sum_grows (mean h (low T)) (mean h (high T)) (mean h (low U)) (mean h (high U)) low_grows high_grows

  -- Where as many levels are up to T as up to U, and as many from T on as from U on, a round gives the same pair; f may count
  -- levels in any way that leaves out none that is present.
  pub same_split : (f : ℕ → ℕ) → ((v : ℕ) → f v ≡ 0 → count_of h v ≡ 0)
      → sum_over (length h) (low T) f ≡ sum_over (length h) (low U) f → sum_over (length h) (high T) f ≡ sum_over (length h) (high U) f
      → round h T ≡ round h U
  unfolding round
  same_split f z a b =
      let none_above : sum_over (length h) above f ≡ 0 = omega (arith, low_parts f) in
      let none-beneath : sum_over (length h) beneath f ≡ 0 = omega (arith, high_parts f) in
      let nothing : (v : ℕ) → f v ≡ 0 → level_sum h v ≡ 0 = λ v e. rw (z v e) (omega arith) in
      let A : low_sum h T ≡ low_sum h U = omega (arith, low_parts (level_sum h), over_zero (length h) above f (level_sum h) nothing none_above) in
      let B : low_number h T ≡ low_number h U = omega (arith, low_parts (count_of h), over_zero (length h) above f (count_of h) z none_above) in
      let C : high_sum h T ≡ high_sum h U = omega (arith, high_parts (level_sum h), over_zero (length h) beneath f (level_sum h) nothing none-beneath) in
      let E : high_number h T ≡ high_number h U = omega (arith, high_parts (count_of h), over_zero (length h) beneath f (count_of h) z none-beneath) in
      λ i. fraction (A i * E i + C i * B i) (2 * B i * E i)

  -- where the means are the same, so are the numbers of levels
  low_number_is : 0 < low_number h T → Equal (mean h (low T)) (mean h (low U)) → low_number h T ≡ low_number h U
  low_number_is some e =
      let same : Equal (mean h (low T)) (mean h above) = omega (arith, rw (low_parts (level_sum h), low_parts (count_of h)) at e) in
      omega (arith, low_parts (count_of h), none_from h (low T) above (suc T.numerator) T.denominator pT low_under above_from some same)

  high_number_is : 0 < high_number h U → Equal (mean h (high T)) (mean h (high U)) → high_number h T ≡ high_number h U
  high_number_is some e =
      let same : Equal (mean h beneath) (mean h (high U)) = omega (arith, rw (high_parts (level_sum h), high_parts (count_of h)) at e) in
      omega (arith, high_parts (count_of h), none_under h beneath (high U) U.numerator U.denominator pU beneath_under high_from some same)

  -- a round gives equal thresholds as equal pairs: in order
  pair : 0 < low_number h T → 0 < high_number h T → 0 < low_number h U → 0 < high_number h U → Equal (round h T) (round h U) → round h T ≡ round h U
  unfolding round
  pair b e b' e' s =
      same_split (count_of h) (λ v z. z)
      (low_number_is b (low_same (mean h (low T)) (mean h (high T)) (mean h (low U)) (mean h (high U)) low_grows high_grows e e' s))
      (high_number_is e' (high_same (mean h (low T)) (mean h (high T)) (mean h (low U)) (mean h (high U)) low_grows high_grows b b' s))

-- and whichever of the two is larger
pub same_pair : (h : List ℕ) (T U : Fraction) → Proper T → Proper U
    → 0 < low_number h T → 0 < high_number h T → 0 < low_number h U → 0 < high_number h U
    → Equal (round h T) (round h U) → round h T ≡ round h U
same_pair h T U pT pU b e b' e' s =
    ⊎_elim (λ l. pair h T U pT pU l b e b' e' s) (λ l. sym (pair h U T pU pT l b' e' b e (sym s))) (either_way T U)

-- equal thresholds have the same round, whatever their pairs
pub same_threshold : (h : List ℕ) (T U : Fraction) → Proper T → Proper U → Equal T U → round h T ≡ round h U
same_threshold h T U pT pU s =
    let up : NotMore T U = le_of_eq s in
    let down : NotMore U T = le_of_eq (sym s) in
    same_split h T U pT pU up (count_of h) (λ v z. z)
    (le_antisymm (low_more h T U pT pU up (count_of h)) (low_more h U T pU pT down (count_of h)))
    (le_antisymm (high_fewer h U T pU pT down (count_of h)) (high_fewer h T U pT pU up (count_of h)))
