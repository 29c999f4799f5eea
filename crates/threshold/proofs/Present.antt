-- The levels present in a histogram: `lowest` is the least of them and `highest` the greatest, where there are any. Assumes nothing.
use mathlib.Core.Path.{◌≡◌, refl, sym, ap, ◌∙◌}
use mathlib.Core.Bool.{Bool, true, false}
use mathlib.Core.List.{List, [], ◌∷◌}
use mathlib.Core.Logic.{◌≢◌, inl, inr}
use Prim.Native.Nat.{ℕ, zero, suc, ◌+◌, ◌<◌, ◌≤◌, max, min, zero-le}
use native.Mathlib.Nat.{eq-or-lt_of_le, lt_of_not-le, lt_of_lt_of_le, pos_of_ne-zero}
use native.Mathlib.Omega.{arith}
use Rattle.std.specs.Prelude.{Option, None, Some, MatchOption}
use Rattle.std.proofs.lemmas.Bool.Decides.{nat_tests}
use lib.Dec.{eqb}
use lib.ListN.{length, get_or-eq_default}
use borrow.Author.Tests.{eqb-true, eqb-false, ne_eqb}
use Rattle.arithmetic.specs.Greatest.{Greatest, Least}
use Rattle.arithmetic.specs.Sums.{sum}
use Rattle.arithmetic.proofs.Greatest.{next_least}
use Rattle.arithmetic.proofs.Sums.{sum_goes_on}
use Rattle.threshold.specs.Histogram.{count_of, total}
use Rattle.threshold.specs.TwoMeans.{level, lowest, highest, nearest, start}

-- a level is present where it was counted
abbrev pub Present : List ℕ → ℕ → Type 0
Present h v = 0 < count_of h v

-- the levels of a histogram are those below its length
present_below : (h : List ℕ) (v : ℕ) → Present h v → v < length h
present_below h v p = lt_of_not-le (λ (past : length h ≤ v). omega (arith, p, get_or-eq_default h 0 past))

-- no levels have the total 0
total_none : total [] ≡ 0
unfolding total sum
total_none = refl

-- the total is the first count and the total of the others
total_first : (c : ℕ) (cs : List ℕ) → total (c ∷ cs) ≡ c + total cs
unfolding total sum
total_first c cs =
    let next : (i : ℕ) → i < length cs → count_of cs i ≡ count_of (c ∷ cs) (1 + i) = λ i h. let e : 1 + i ≡ suc i = omega arith in rw e in
    let e : 1 + length cs ≡ suc (length cs) = omega arith in
    omega (arith, rw e at (sum_goes_on 1 (length cs) (count_of (c ∷ cs)) (count_of cs) next))

-- each count is a part of the total
count_in_total : (h : List ℕ) (v : ℕ) → count_of h v ≤ total h
count_in_total [] v = zero-le
count_in_total (c ∷ cs) zero = omega (arith, total_first c cs)
count_in_total (c ∷ cs) (suc v) = omega (arith, total_first c cs, count_in_total cs v)

-- where a level is present, the total is not 0
present_counts : (h : List ℕ) (v : ℕ) → Present h v → 0 < total h
present_counts h v p = lt_of_lt_of_le p (count_in_total h v)

-- `lowest` is the least level present
pub lowest_is : (h : List ℕ) → 0 < total h → Least (Present h) (lowest h)
lowest_is [] some = absurd (let none : ⊥ = omega (arith, some, total_none) in none)
lowest_is (zero ∷ cs) some = next_least (λ p. omega (arith, p)) (lowest_is cs (omega (arith, some, total_first 0 cs)))
lowest_is (suc c ∷ cs) some = rw (ne_eqb (suc c) 0 (λ e. omega (arith, e))) (record { holds = omega arith; least = λ k p. zero-le })

-- the greatest level present is one more behind any count
behind_one : (c : ℕ) (cs : List ℕ) {q : ℕ} → Greatest (Present cs) q → Greatest (Present (c ∷ cs)) (suc q)
behind_one c cs {q} rest = record { holds = rest.holds; most = later }
  where
    later : (k : ℕ) → Present (c ∷ cs) k → k ≤ suc q
    later zero p = zero-le
    later (suc k) p = omega (arith, rest.most k p)

-- and it is 0 where nothing else is counted
only_first : (c : ℕ) (cs : List ℕ) → 0 < c → total cs ≡ 0 → Greatest (Present (c ∷ cs)) 0
only_first c cs some nothing = record { holds = some; most = first }
  where
    first : (k : ℕ) → Present (c ∷ cs) k → k ≤ 0
    first zero p = zero-le
    first (suc k) p = absurd (let none : ⊥ = omega (arith, nothing, present_counts cs k p) in none)

-- `highest` is the greatest level present
pub highest_is : (h : List ℕ) → 0 < total h → Greatest (Present h) (highest h)
highest_is [] some = absurd (let none : ⊥ = omega (arith, some, total_none) in none)
highest_is (c ∷ cs) some = go (eqb (total cs) 0) refl (highest_is cs)
  where
    go : (b : Bool) → eqb (total cs) 0 ≡ b → (0 < total cs → Greatest (Present cs) (highest cs)) → Greatest (Present (c ∷ cs)) (highest (c ∷ cs))
    go true e rest =
        let nothing : total cs ≡ 0 = eqb-true (total cs) 0 e in
        rw e (only_first c cs (omega (arith, some, total_first c cs, nothing)) nothing)
    go false e rest = rw e (behind_one c cs (rest (pos_of_ne-zero (eqb-false (total cs) 0 e))))

-- what is found from either side is the end of the levels present there
module _ (h : List ℕ) (some : 0 < total h) where
  pub lowest_below : lowest h < length h
  lowest_below = present_below h (lowest h) (lowest_is h some).holds

  pub highest_below : highest h < length h
  highest_below = present_below h (highest h) (highest_is h some).holds

  -- what holds where no level is counted, and where i is the first that is
  abbrev pub FirstCounted : Option ℕ → Type 0
  FirstCounted r =
      MatchOption r ((k : ℕ) → k < length h → count_of h k ≡ 0)
      (λ i. (i < length h) × ((count_of h i ≢ 0) × ((k : ℕ) → k < i → count_of h k ≡ 0)))

  pub first_counted : (r : Option ℕ) → FirstCounted r → r ≡ Some (lowest h)
  first_counted None none = absurd (let no : ⊥ = omega (arith, none (lowest h) lowest_below, (lowest_is h some).holds) in no)
  first_counted (Some i) found =
      let least = (lowest_is h some).least i (pos_of_ne-zero found.1.0) in
      ap Some (elim (eq-or-lt_of_le least) [
        | inl e ↦ sym e
        | inr less ↦ absurd (let no : ⊥ = omega (arith, found.1.1 (lowest h) less, (lowest_is h some).holds) in no)
      ])

  -- and where it is the last
  abbrev pub LastCounted : Option ℕ → Type 0
  LastCounted r =
      MatchOption r ((k : ℕ) → k < length h → count_of h k ≡ 0)
      (λ i. (i < length h) × ((count_of h i ≢ 0) × ((k : ℕ) → i < k → k < length h → count_of h k ≡ 0)))

  pub last_counted : (r : Option ℕ) → LastCounted r → r ≡ Some (highest h)
  last_counted None none = absurd (let no : ⊥ = omega (arith, none (highest h) highest_below, (highest_is h some).holds) in no)
  last_counted (Some i) found =
      let most = (highest_is h some).most i (pos_of_ne-zero found.1.0) in
      ap Some (elim (eq-or-lt_of_le most) [
        | inl e ↦ e
        | inr less ↦ absurd (let no : ⊥ = omega (arith, found.1.1 (highest h) less highest_below, (highest_is h some).holds) in no)
      ])

  pub in_order : lowest h ≤ highest h
  in_order = (highest_is h some).most (lowest h) (lowest_is h some).holds

-- the start is the usual one, kept between the two ends
nearest_is : (m g G : ℕ) → g ≤ G → max g (min m G) ≡ nearest m g G
nearest_is m g G order = grind (arith, nat_tests)

pub start_is : (m : ℕ) (h : List ℕ) → 0 < total h → {v : ℕ} → v ≡ max (lowest h) (min m (highest h)) → level v ≡ start m h
unfolding start
start_is m h some is = ap level (is ∙ nearest_is m (lowest h) (highest h) (in_order h some))
