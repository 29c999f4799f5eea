-- The calls: what a memory that is begun and tests that are passed give the loop, and what the loop gives the caller. Assumes nothing.
use mathlib.Core.Path.{◌≡◌, refl, sym, ap, ◌∙◌, fun_ext}
use mathlib.Core.List.{List, [], ◌++◌, append_assoc}
use Prim.Native.Nat.{ℕ, zero, suc, ◌+◌, ◌-◌, ◌*◌, ◌/◌, ◌%◌, ◌≤◌, ◌<◌, zero-le, min}
use native.Mathlib.Nat.{add-zero, zero-mul, suc-mul, mul-le-mul_right, div-add-mod'}
use native.Mathlib.Decide.{dec_le}
use native.Mathlib.Omega.{arith}
use lib.ListN.{length, take, drop, set, length-append, length-take}
use lib.Seq.{drop_at, drop-drop, drop-nil, take-nil}
use Rattle.arithmetic.specs.Lists.{AtMost, joined}
use Rattle.answers.proofs.Refusals.{goes_on}
use Rattle.memory.specs.Memory.{row_at, width_of, height_of, came_of, rows_of, memory, zeros, Begun}
use Rattle.memory.proofs.Places.{length_row_at, most_row_at}
use Rattle.memory.proofs.Memories.{length_rows}
use Rattle.scan.specs.Ring.{held_in, later}
use Rattle.scan.proofs.SixRows.{count_set}
use Rattle.scan.specs.Held.{Held, pass_three_row, step, after, given, no_row}
use Rattle.scan.specs.Scan.{scanned, at_front, due, rows_given, rows_held, RowsIs, end_given, EndIs}
use Rattle.scan.specs.Asked.{long, Ready, Coming}
use Rattle.scan.proofs.Shown.{long_there, long_before, long_past}
use Rattle.scan.proofs.Turns.{length_pass_three, ready_next, held_next, length_next}

-- a call that is refused
pub refused_is : {n number rows : ℕ} {held output : List ℕ} → (number ≡ n) × (rows ≡ 0)
    → scanned number rows held output ≡ scanned n 0 held output
refused_is {held = held} {output = output} e = λ i. scanned (e.0 i) (e.1 i) held output

-- the rows due, as the code counts them
pub less_of : {a b x y : ℕ} → a ≡ x → b ≡ y → a - b ≡ x - y
less_of e f = λ i. e i - f i

-- rows that fit: each of levels, and as long as the picture's row is
abbrev pub Fitting : ℕ → ℕ → ℕ → (ℕ → List ℕ) → ℕ → Type 0
Fitting w h k f n = (i : ℕ) → i < n → (length (f i) ≡ long w h (k + i) 0) × AtMost 255 (f i)

-- ---- n rows more
module _ (w h k : ℕ) (rows : List ℕ) (f : ℕ → List ℕ) (ready : Ready w h k rows) where
  abbrev start : Held
  start = held_in w h k rows

  fewer : (n : ℕ) → Fitting w h k f (suc n) → Fitting w h k f n
  fewer n fit i h = fit i (omega arith)

  -- what the memory holds then
  pub so_far : (n : ℕ) → Fitting w h k f n → k + n ≤ 70000
      → Ready w h (k + n) (later w h k rows f n) × (held_in w h (k + n) (later w h k rows f n) ≡ after start f n)
  unfolding later after
  so_far zero fit few = rw (add-zero k) (ready, refl)
  so_far (suc n) fit few =
      let before = so_far n (fewer n fit) (omega arith) in
      let here = fit n (omega arith) in
      let one_on : k + suc n ≡ k + n + 1 = omega arith in
      rw one_on (
        ready_next w h (k + n) (later w h k rows f n) (f n) before.0 here.1 here.0 (omega arith),
        held_next w h (k + n) (later w h k rows f n) (f n) before.0 here.1 here.0
            ∙ ap (λ (held : Held). step held (f n)) before.1,
      )

  pub length_later : (n : ℕ) → Fitting w h k f n → k + n ≤ 70000 → length (later w h k rows f n) ≡ length rows
  unfolding later
  length_later zero fit few = refl
  length_later (suc n) fit few =
      let before = so_far n (fewer n fit) (omega arith) in
      let here = fit n (omega arith) in
      length_next w h (k + n) (later w h k rows f n) (f n) before.0 here.1 here.0 ∙ length_later n (fewer n fit) (omega arith)

  -- how much they give
  pub length_given : (n : ℕ) → Fitting w h k f n → ((i : ℕ) → i < n → k + i < h + 3) → k + n ≤ 70000
      → length (given start f n) ≡ due k n * w
  unfolding given joined
  length_given zero fit inside few = let none : due k 0 ≡ 0 = omega arith in rw none (sym (zero-mul w))
  length_given (suc n) fit inside few =
      let less = length_given n (fewer n fit) (λ i p. inside i (omega arith)) (omega arith) in
      let before = so_far n (fewer n fit) (omega arith) in
      let more =
      ap (λ (held : Held). length (pass_three_row held (f n))) (sym before.1)
      ∙ length_pass_three w h (k + n) (later w h k rows f n) (f n) before.0 in
      length-append (given start f n) (pass_three_row (after start f n) (f n)) ∙ elim (dec_le 3 (k + n)) [
        | yes p ↦
            let l = long_there h (k + n) 3 w (p, omega (arith, inside n (omega arith))) in
            let d : due k (suc n) ≡ due k n + 1 = omega arith in
            rw d (omega (arith, less, more, l))
        | no p ↦
            let l = long_before h (k + n) 3 w (omega arith) in
            let d : due k (suc n) ≡ due k n = omega arith in
            rw d (omega (arith, less, more, l))
      ]

-- ---- a memory that is begun
module _ (held : List ℕ) (begun : Begun held) where
  abbrev w : ℕ
  w = width_of held

  abbrev h : ℕ
  h = height_of held

  abbrev k : ℕ
  k = came_of held

  -- as the code lends them
  abbrev rows : List ℕ
  rows = take (6147 - 3) (drop 3 held)

  pub is_ready : k ≤ 65535 → Ready w h k rows
  unfolding rows_of
  is_ready few = record {
    width = begun.width;
    height = begun.height.1;
    few = omega arith;
    room = rw (length_rows held begun.long) (let width = begun.width.1 in omega arith);
    ranges = begun.ranges;
  }

  -- ---- rows
  module _ (levels output : List ℕ) (bytes : AtMost 255 levels) (few : k ≤ 65535) (whole : length levels % w ≡ 0)
      (within : length levels / w ≤ h - k) where
    abbrev n : ℕ
    n = length levels / w

    pub levels_are : length levels ≡ n * w
    levels_are = let e = div-add-mod' (length levels) w in omega (arith, e, whole)

    row_there : (i : ℕ) → i < n → long w h (k + i) 0 ≡ w
    row_there i p = long_there h (k + i) 0 w (zero-le, omega arith)

    pub rows_fit : Fitting w h k (row_at w levels) n
    rows_fit i p =
        let inside : i * w + w ≤ length levels = omega (arith, levels_are, mul-le-mul_right w p, suc-mul i w) in
        (length_row_at w i levels inside ∙ sym (row_there i p), most_row_at 255 w i levels bytes)

    pub rows_due : length (given (held_in w h k rows) (row_at w levels) n) ≡ due k n * w
    rows_due =
        let height = begun.height.1 in
        length_given w h k rows (row_at w levels) (is_ready few) n rows_fit (λ i p. omega arith) (omega arith)

    pub is_coming : due k n * w ≤ length output → Coming w h k w n rows levels output
    is_coming room =
        let height = begun.height.1 in
        record { few = omega arith; rows_are = row_there; levels_are = levels_are; room = rw rows_due room }

    -- a call that is done
    pub rows_done : (rows' out : List ℕ) (r : ℕ) → due k n * w ≤ length output → r ≡ due k n
        → rows' ≡ later w h k rows (row_at w levels) n
        → out ≡ at_front (given (held_in w h k rows) (row_at w levels) n) output
        → RowsIs held levels output (scanned 0 r (set (take 3 held ++ (rows' ++ drop 6144 (drop 3 held))) 2 (k + n)) out)
    unfolding rows_given rows_held rows_of
    rows_done rows' out r room is-r is-rows is-out =
        let long = begun.long in
        let left = count_set held (k + n) rows' (drop 6144 (drop 3 held)) (omega arith)
        ∙ ap (λ (z : List ℕ). memory w h (k + n) z (drop 6144 (drop 3 held))) is-rows
        ∙ ap (memory w h (k + n) _) (drop-drop 6144 3 held) in
        goes_on begun (goes_on whole (goes_on within (goes_on room (λ i. scanned 0 (is-r i) (left i) (is-out i)))))

-- ---- the end: three rows that are not there
no_row_at : (i : ℕ) → row_at 0 [] i ≡ []
unfolding row_at
no_row_at i = ap (drop (i * 0)) (take-nil (i * 0 + 0)) ∙ drop-nil (i * 0)

no_rows : row_at 0 [] ≡ no_row
unfolding no_row
no_rows = fun_ext no_row_at

module _ (held : List ℕ) (begun : Begun held) (last : came_of held ≡ height_of held) where
  abbrev v : ℕ
  v = width_of held

  abbrev g : ℕ
  g = height_of held

  abbrev j : ℕ
  j = came_of held

  abbrev six : List ℕ
  six = take (6147 - 3) (drop 3 held)

  past_last : (i : ℕ) → long v g (j + i) 0 ≡ 0
  past_last i = long_past g (j + i) 0 v zero-le (omega arith)

  pub end_ready : Ready v g j six
  end_ready = is_ready held begun (let height = begun.height.1 in omega (arith, height, last))

  end_fit : Fitting v g j (row_at 0 []) 3
  end_fit i p = (ap length (no_row_at i) ∙ sym (past_last i), λ z. rw (no_row_at i) zero-le)

  end_due : length (given (held_in v g j six) (row_at 0 []) 3) ≡ min 3 g * v
  end_due =
      let height = begun.height.1 in
      let d : due j 3 ≡ min 3 g = omega (arith, last) in
      length_given v g j six (row_at 0 []) end_ready 3 end_fit (λ i p. omega (arith, p, last)) (omega (arith, height, last))
      ∙ ap (λ (z : ℕ). z * v) d

  pub end_long : length (end_given held) ≡ min 3 g * v
  unfolding end_given rows_of
  end_long = ap (λ (f : ℕ → List ℕ). length (given (held_in v g j six) f 3)) (sym no_rows) ∙ end_due

  module _ (output : List ℕ) (room : min 3 g * v ≤ length output) where
    pub end_coming : Coming v g j 0 3 six [] output
    end_coming =
        let height = begun.height.1 in
        record { few = omega (arith, height, last); rows_are = λ i p. past_last i; levels_are = refl; room = rw end_due room }

    -- a call that is done
    pub end_done : (rows' left out : List ℕ) (r : ℕ) → length rows' ≡ 6144 → r ≡ min 3 g
        → left ≡ memory v g (g + 3) (zeros 6144) (drop 6147 (take 3 held ++ (rows' ++ drop 6144 (drop 3 held))))
        → out ≡ at_front (given (held_in v g j six) (row_at 0 []) 3) output
        → EndIs held output (scanned 0 r left out)
    unfolding end_given rows_of
    end_done rows' left out r rows_long is-r is-left is-out =
        let long = begun.long in
        let front : length (take 3 held ++ rows') ≡ 6147 = simp (length-append, length-take) (omega (arith, rows_long, long)) in
        let past : drop 6147 (take 3 held ++ (rows' ++ drop 6144 (drop 3 held))) ≡ drop 6147 held =
        ap (drop 6147) (sym (append_assoc (take 3 held) rows' (drop 6144 (drop 3 held))))
        ∙ drop_at (take 3 held ++ rows') (drop 6144 (drop 3 held)) 6147 front
        ∙ drop-drop 6144 3 held in
        let left_is = is-left ∙ ap (memory v g (g + 3) (zeros 6144)) past in
        let out-is = is-out ∙ ap (λ (f : ℕ → List ℕ). at_front (given (held_in v g j six) f 3) output) no_rows in
        goes_on begun (goes_on last (goes_on room (λ i. scanned 0 (is-r i) (left_is i) (out-is i))))
