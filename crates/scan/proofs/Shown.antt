-- Rows that are the picture's and rows that are not there: how long they are, and how large. Assumes nothing.
use mathlib.Core.Path.{◌≡◌, sym, ◌∙◌}
use mathlib.Core.List.{List, []}
use mathlib.Core.Logic.{◌⊎◌, inl, inr}
use Prim.Native.Nat.{ℕ, ◌+◌, ◌-◌, ◌*◌, ◌≤◌, ◌<◌, zero-le}
use native.Mathlib.Decide.{dec_lt, dec_le}
use native.Mathlib.Omega.{arith}
use borrow.Author.Tests.{lt-ltb, le-ltb, le-leb, lt-leb}
use lib.ListN.{length, take, drop}
use Rattle.arithmetic.specs.Lists.{AtMost}
use Rattle.memory.specs.Memory.{row_at}
use Rattle.memory.proofs.Places.{part_row}
use Rattle.scan.specs.Ring.{shown}
use Rattle.scan.specs.Asked.{long}

-- row k − late is one of the picture's h
abbrev pub There : ℕ → ℕ → ℕ → Type 0
There h k late = (late ≤ k) × (k - late < h)

pub there_or_not : (h k late : ℕ) → There h k late ⊎ (¬ (There h k late))
there_or_not h k late = elim (dec_le late k) [
  | yes p ↦ elim (dec_lt (k - late) h) [ yes q ↦ inl (p, q) | no q ↦ inr (λ t. q t.1) ]
  | no p ↦ inr (λ t. p t.0)
]

module _ (h k late : ℕ) where
  pub long_there : (w : ℕ) → There h k late → long w h k late ≡ w
  unfolding long
  long_there w t = rw (le-leb late k t.0, lt-ltb (k - late) h t.1)

  pub long_before : (w : ℕ) → k < late → long w h k late ≡ 0
  unfolding long
  long_before w p = rw (lt-leb late k p)

  pub long_past : (w : ℕ) → late ≤ k → h ≤ k - late → long w h k late ≡ 0
  unfolding long
  long_past w p q = rw (le-leb late k p, le-ltb (k - late) h q)

  pub long_not : (w : ℕ) → ¬ (There h k late) → long w h k late ≡ 0
  long_not w n = elim (dec_le late k) [
    | yes p ↦ elim (dec_lt (k - late) h) [ yes q ↦ absurd (n (p, q)) | no q ↦ long_past w p (omega arith) ]
    | no p ↦ long_before w (omega arith)
  ]

  pub shown_there : (row : List ℕ) → There h k late → shown h k late row ≡ row
  unfolding shown
  shown_there row t = rw (le-leb late k t.0, lt-ltb (k - late) h t.1)

  pub shown_not : (row : List ℕ) → ¬ (There h k late) → shown h k late row ≡ []
  unfolding shown
  shown_not row n = elim (dec_le late k) [
    | yes p ↦ elim (dec_lt (k - late) h) [
      | yes q ↦ absurd (n (p, q))
      | no q ↦ rw (le-leb late k p, le-ltb (k - late) h (let g : h ≤ k - late = omega arith in g))
    ]
    | no p ↦ rw (lt-leb late k (let g : k < late = omega arith in g))
  ]

  -- it has w numbers or none
  pub none_or_long : (w : ℕ) → (long w h k late ≡ 0) ⊎ (long w h k late ≡ w)
  none_or_long w = elim (there_or_not h k late) [ inl t ↦ inr (long_there w t) | inr n ↦ inl (long_not w n) ]

  pub long_most : (w : ℕ) → long w h k late ≤ w
  long_most w = elim (none_or_long w) [ inl e ↦ omega arith | inr e ↦ omega arith ]

  pub length_shown : (w : ℕ) (row : List ℕ) → length row ≡ w → length (shown h k late row) ≡ long w h k late
  length_shown w row e = elim (there_or_not h k late) [
    | inl t ↦ rw (shown_there row t, long_there w t) e
    | inr n ↦ rw (shown_not row n, long_not w n)
  ]

  pub most_shown : (b : ℕ) (row : List ℕ) → AtMost b row → AtMost b (shown h k late row)
  most_shown b row p i = elim (there_or_not h k late) [ inl t ↦ rw (shown_there row t) (p i) | inr n ↦ rw (shown_not row n) zero-le ]

  -- the part of the memory that the code lends: row i of it, if it is there
  pub shown_part : (w i at n : ℕ) (l : List ℕ) → at ≡ i * w → n ≡ long w h k late
      → take (at + n - at) (drop at l) ≡ shown h k late (row_at w l i)
  shown_part w i at n l e f = elim (there_or_not h k late) [
    | inl t ↦ part_row w i at (at + n) l e (rw (f, long_there w t)) ∙ sym (shown_there (row_at w l i) t)
    | inr out ↦ let none : at + n - at ≡ 0 = omega (arith, f, long_not w out) in rw (none, shown_not (row_at w l i) out)
  ]

-- one row later
pub shown_next : (h k late : ℕ) (row : List ℕ) → shown h (k + 1) (late + 1) row ≡ shown h k late row
shown_next h k late row = elim (there_or_not h k late) [
  | inl t ↦ shown_there h (k + 1) (late + 1) row (omega arith, omega arith) ∙ sym (shown_there h k late row t)
  | inr n ↦ shown_not h (k + 1) (late + 1) row (λ t. n (omega arith, omega arith)) ∙ sym (shown_not h k late row n)
]
