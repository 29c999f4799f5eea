-- Six rows, two by two: as they are lent one after the other, and what they are then. Assumes nothing.
use mathlib.Core.Path.{◌≡◌, refl, sym, ap, ◌∙◌}
use mathlib.Core.List.{List, [], ◌∷◌, ◌++◌, append_assoc}
use Prim.Native.Nat.{ℕ, ◌+◌, ◌-◌, ◌*◌, ◌≤◌}
use native.Mathlib.Nat.{mul-le-mul_right}
use native.Mathlib.Omega.{arith}
use lib.ListN.{length, take, drop, set, length-append}
use lib.Seq.{take_at, drop_at, drop-drop}
use Rattle.memory.specs.Memory.{width_of, height_of, memory, row_at, two_of}
use Rattle.memory.proofs.Places.{length_row_at, row_at_between, part_row}

-- ---- six rows, two by two
-- each two lie within them
two_inside : (w pass : ℕ) → pass ≤ 2 → pass * (w + w) + (w + w) ≤ 6 * w
two_inside w pass few = omega (arith, mul-le-mul_right (w + w) few)

pub length_two_of : (w pass : ℕ) (rows : List ℕ) → 6 * w ≤ length rows → pass ≤ 2 → length (two_of w rows pass) ≡ w + w
unfolding two_of
length_two_of w pass rows room few = length_row_at (w + w) pass rows (omega (arith, two_inside w pass few, room))

-- the parts that are lent one after the other, each changed before the next is lent
module _ (w : ℕ) (rows : List ℕ) where
  module _ (a : List ℕ) (long-a : length a ≡ w + w) where
    abbrev once : List ℕ
    once = a ++ drop (w + w) rows

    behind_a : drop (w + w) once ≡ drop (w + w) rows
    behind_a = drop_at a (drop (w + w) rows) (w + w) long-a

    pub second_two : take (w + w + (w + w) - (w + w)) (drop (w + w) once) ≡ two_of w rows 1
    unfolding two_of
    second_two =
        ap (take (w + w + (w + w) - (w + w))) behind_a ∙ part_row (w + w) 1 (w + w) (w + w + (w + w)) rows (omega arith) (omega arith)

    module _ (b : List ℕ) (long-b : length b ≡ w + w) where
      abbrev twice : List ℕ
      twice = take (w + w) once ++ (b ++ drop (w + w + (w + w) - (w + w)) (drop (w + w) once))

      both : twice ≡ a ++ b ++ drop (w + w + (w + w)) rows
      both =
          let back : drop (w + w + (w + w) - (w + w)) (drop (w + w) rows) ≡ drop (w + w + (w + w)) rows =
          drop-drop (w + w + (w + w) - (w + w)) (w + w) rows
          ∙ ap (λ (n : ℕ). drop n rows) (let e : w + w + (w + w + (w + w) - (w + w)) ≡ w + w + (w + w) = omega arith in e) in
          rw (take_at a (drop (w + w) rows) (w + w) long-a, behind_a, back) (sym (append_assoc a b (drop (w + w + (w + w)) rows)))

      long_ab : length (a ++ b) ≡ w + w + (w + w)
      long_ab = length-append a b ∙ omega (arith, long-a, long-b)

      behind_b : drop (w + w + (w + w)) twice ≡ drop (w + w + (w + w)) rows
      behind_b = ap (drop (w + w + (w + w))) both ∙ drop_at (a ++ b) (drop (w + w + (w + w)) rows) (w + w + (w + w)) long_ab

      pub third_two : take (w + w + (w + w) + (w + w) - (w + w + (w + w))) (drop (w + w + (w + w)) twice) ≡ two_of w rows 2
      unfolding two_of
      third_two =
          ap (take (w + w + (w + w) + (w + w) - (w + w + (w + w)))) behind_b
          ∙ part_row (w + w) 2 (w + w + (w + w)) (w + w + (w + w) + (w + w)) rows (omega arith) (omega arith)

      pub all_three : (c : List ℕ)
          → take (w + w + (w + w)) twice ++ (c ++ drop (w + w + (w + w) + (w + w) - (w + w + (w + w))) (drop (w + w + (w + w)) twice))
          ≡ a ++ b ++ c ++ drop (6 * w) rows
      all_three c =
          let front : take (w + w + (w + w)) twice ≡ a ++ b =
          ap (take (w + w + (w + w))) both ∙ take_at (a ++ b) _ (w + w + (w + w)) long_ab in
          let back : drop (w + w + (w + w) + (w + w) - (w + w + (w + w))) (drop (w + w + (w + w)) rows) ≡ drop (6 * w) rows =
          drop-drop (w + w + (w + w) + (w + w) - (w + w + (w + w))) (w + w + (w + w)) rows
          ∙ ap (λ (n : ℕ). drop n rows)
          (let e : w + w + (w + w) + (w + w + (w + w) + (w + w) - (w + w + (w + w))) ≡ 6 * w = omega arith in e) in
          rw (front, behind_b, back) (sym (append_assoc (a ++ b) c (drop (6 * w) rows)))

-- and the two by two of such six
module _ (w : ℕ) (a b c rest : List ℕ) (long-a : length a ≡ w + w) (long-b : length b ≡ w + w) (long-c : length c ≡ w + w) where
  pub two_first : two_of w (a ++ b ++ c ++ rest) 0 ≡ a
  unfolding two_of
  two_first =
      ap (λ (l : List ℕ). row_at (w + w) l 0) (append_assoc (a ++ b) c rest ∙ append_assoc a b (c ++ rest))
      ∙ row_at_between (w + w) 0 [] a (b ++ (c ++ rest)) (omega arith) long-a

  pub two_second : two_of w (a ++ b ++ c ++ rest) 1 ≡ b
  unfolding two_of
  two_second =
      ap (λ (l : List ℕ). row_at (w + w) l 1) (append_assoc (a ++ b) c rest)
      ∙ row_at_between (w + w) 1 a b (c ++ rest) (omega arith) long-b

  pub two_third : two_of w (a ++ b ++ c ++ rest) 2 ≡ c
  unfolding two_of
  two_third =
      let long_ab : length (a ++ b) ≡ 2 * (w + w) = length-append a b ∙ omega (arith, long-a, long-b) in
      row_at_between (w + w) 2 (a ++ b) c rest long_ab long-c

-- ---- the count of rows, set before rows that came back
pub count_set : (held : List ℕ) (k : ℕ) (rows past : List ℕ) → 3 ≤ length held
    → set (take 3 held ++ (rows ++ past)) 2 k ≡ memory (width_of held) (height_of held) k rows past
unfolding memory
count_set [] k rows past p = absurd (let z : ⊥ = omega arith in z)
count_set (a ∷ []) k rows past p = absurd (let z : ⊥ = omega arith in z)
count_set (a ∷ b ∷ []) k rows past p = absurd (let z : ⊥ = omega arith in z)
count_set (a ∷ b ∷ c ∷ l) k rows past p = refl

-- and set again
pub count_again : (w h k c : ℕ) (rows past : List ℕ) → set (memory w h k rows past) 2 c ≡ memory w h c rows past
unfolding memory
count_again w h k c rows past = refl
