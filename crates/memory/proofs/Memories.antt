-- A scan's memory: what stands where in it, and what is told of it. Assumes nothing.
use mathlib.Core.Path.{◌≡◌, refl, ap, ◌∙◌}
use mathlib.Core.Bool.{Bool, true, false}
use mathlib.Core.List.{List, [], ◌∷◌, ◌++◌}
use mathlib.Core.Logic.{inl, inr}
use Prim.Native.Nat.{ℕ, ◌+◌, ◌-◌, ◌≤◌}
use native.Mathlib.Omega.{arith}
use lib.ListN.{length, take, drop, set, length-append, length-take, length-drop, length-replicate}
use lib.Seq.{take_at, drop-drop}
use Rattle.arithmetic.specs.Lists.{AtMost}
use Rattle.answers.specs.Refusals.{Unless}
use Rattle.answers.proofs.Refusals.{stops, goes_on}
use Rattle.picture.specs.Picture.{Side}
use Rattle.memory.specs.Memory.{width_of, height_of, rows_of, memory, zeros, two_of, Ranges, Begun}
use Rattle.memory.proofs.Places.{part_row}

-- ---- rows that are told to be in range
module _ (w : ℕ) (rows : List ℕ) where
  pub first_two : take (w + w) rows ≡ two_of w rows 0
  unfolding two_of
  first_two = let all : w + w - 0 ≡ w + w = omega arith in rw all at (part_row (w + w) 0 0 (w + w) rows (omega arith) (omega arith))

  abbrev second : List ℕ
  second = take (w + w + (w + w) - (w + w)) (drop (w + w) rows)

  abbrev third : List ℕ
  third = take (w + w + (w + w) + (w + w) - (w + w + (w + w))) (drop (w + w + (w + w)) rows)

  second_is : second ≡ two_of w rows 1
  unfolding two_of
  second_is = part_row (w + w) 1 (w + w) (w + w + (w + w)) rows (omega arith) (omega arith)

  third_is : third ≡ two_of w rows 2
  unfolding two_of
  third_is = part_row (w + w) 2 (w + w + (w + w)) (w + w + (w + w) + (w + w)) rows (omega arith) (omega arith)

  pub no_levels : ¬ (AtMost 255 (take (w + w) rows)) → ¬ (Ranges w rows)
  no_levels out r = out (rw (first_two) r.levels)

  pub no_halves : ¬ (AtMost 510 second) → ¬ (Ranges w rows)
  no_halves out r = out (rw second_is r.halves)

  pub ranges_told : (t : Bool) → AtMost 255 (take (w + w) rows) → AtMost 510 second → Unless (AtMost 1020 third) (t ≡ false) (t ≡ true)
      → Unless (Ranges w rows) (t ≡ false) (t ≡ true)
  ranges_told t levels halves (inl large) = stops (λ r. large.0 (rw third_is r.quarters)) large.1
  ranges_told t levels halves (inr quarters) =
      goes_on (record { levels = rw (first_two) at levels; halves = rw second_is at halves; quarters = rw third_is at quarters.0 })
      quarters.1

-- ---- the whole memory
pub length_rows : (held : List ℕ) → 6147 ≤ length held → length (take (6147 - 3) (drop 3 held)) ≡ 6144
length_rows held long = simp (length-take, length-drop) (omega arith)

pub begun_told : (held : List ℕ) (t : Bool) → 6147 ≤ length held → Side (width_of held) → Side (height_of held)
    → Unless (Ranges (width_of held) (take (6147 - 3) (drop 3 held))) (t ≡ false) (t ≡ true) → Unless (Begun held) (t ≡ false) (t ≡ true)
unfolding rows_of
begun_told held t long width height (inl out) = stops (λ b. out.0 b.ranges) out.1
begun_told held t long width height (inr ranges) = goes_on (record { long = long; width = width; height = height; ranges = ranges.0 }) ranges.1

-- its three numbers, set one after the other before rows that came back
all_set : (w h k : ℕ) (held rows past : List ℕ) → 3 ≤ length held
    → set (set (set (take 3 held ++ (rows ++ past)) 0 w) 1 h) 2 k ≡ memory w h k rows past
unfolding memory
all_set w h k [] rows past p = absurd (let z : ⊥ = omega arith in z)
all_set w h k (a ∷ []) rows past p = absurd (let z : ⊥ = omega arith in z)
all_set w h k (a ∷ b ∷ []) rows past p = absurd (let z : ⊥ = omega arith in z)
all_set w h k (a ∷ b ∷ c ∷ l) rows past p = refl

pub reset_is : (w h k : ℕ) (held cleared : List ℕ) → 6147 ≤ length held → cleared ≡ zeros (length (take (6147 - 3) (drop 3 held)))
    → set (set (set (take 3 held ++ (cleared ++ drop 6144 (drop 3 held))) 0 w) 1 h) 2 k ≡ memory w h k (zeros 6144) (drop 6147 held)
reset_is w h k held cleared long e =
    all_set w h k held cleared (drop 6144 (drop 3 held)) (omega arith)
    ∙ ap (λ (z : List ℕ). memory w h k z (drop 6144 (drop 3 held))) (e ∙ ap zeros (length_rows held long))
    ∙ ap (memory w h k (zeros 6144)) (drop-drop 6144 3 held)

-- what stands in it
pub rows_of_memory : (w h k : ℕ) (rows past : List ℕ) → length rows ≡ 6144 → rows_of (memory w h k rows past) ≡ rows
unfolding rows_of memory
rows_of_memory w h k rows past long = take_at rows past 6144 long

pub length_memory : (w h k : ℕ) (rows past : List ℕ) → length rows ≡ 6144 → 6147 ≤ length (memory w h k rows past)
unfolding memory
length_memory w h k rows past long = let all = length-append rows past in omega (arith, all, long)

pub length_zeros : (n : ℕ) → length (zeros n) ≡ n
unfolding zeros
length_zeros n = length-replicate n 0
