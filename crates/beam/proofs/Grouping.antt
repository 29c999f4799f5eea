-- "However the rows are grouped, all rows given out together equal the whole filter's output": over any list of calls. Assumes nothing.
use mathlib.Core.Path.{◌≡◌, refl, sym, ap, ◌∙◌, subst}
use mathlib.Core.Bool.{true, false}
use mathlib.Core.List.{List, [], ◌∷◌, ◌++◌, append-nil}
use mathlib.Core.Logic.{◌≢◌}
use Prim.Native.Nat.{ℕ, ◌+◌, ◌-◌, ◌*◌, ◌/◌, ◌≤◌, zero-le}
use native.Mathlib.Nat.{zero-mul, add-mul, mul_comm}
use native.Mathlib.Decide.{ℕ_discrete}
use native.Mathlib.Omega.{arith}
use borrow.Author.Tests.{eq-eqb, ne_eqb}
use lib.ListN.{length, take, drop, length-append}
use lib.Seq.{take_at}
use Rattle.arithmetic.specs.Lists.{AtMost, joined}
use Rattle.arithmetic.proofs.Lists.{no_elements}
use Rattle.picture.specs.Picture.{Side}
use Rattle.filter.specs.Filter.{pass_three}
use Rattle.memory.specs.Memory.{row_at, width_of, height_of, came_of, rows_of, memory, zeros, Begun}
use Rattle.scan.specs.Ring.{shown, last_two, held_in, later}
use Rattle.scan.specs.Held.{Held, nothing, after, given, no_row}
use Rattle.scan.specs.Scan.{Scanned, due, rows_given, end_given}
use Rattle.scan.proofs.Calls.{levels_are}
use Rattle.beam.specs.Calls.{Call, start_call, rows_call, end_call, CallIs, Made, Calls}
use Rattle.beam.specs.Calls.{Told, told_nothing, since, given_out, tell_done, tell, told}
use Rattle.beam.proofs.Whole.{rows_give}
use Rattle.beam.proofs.Parts.{given_same, given_add, row_front, after_more, given_more, each_no_row}
use Rattle.beam.proofs.Answers.{start_refused, start_done, rows_refused, Came, rows_done, end_refused, Finished, end_done}
use Rattle.beam.proofs.Answers.{begun_zeros, left_is, left_begun, left_held, given_long, gave, end_gave}

-- ---- what a memory means
-- k rows have come since a good start, the levels x, and their rows g were given out
pub record Running (w h : ℕ) (x g held : List ℕ) : Type 0 where
  pub begun : Begun held
  pub width : width_of held ≡ w
  pub height : height_of held ≡ h
  pub few : came_of held ≤ h
  pub long : length x ≡ came_of held * w
  pub holds : held_in w h (came_of held) (rows_of held) ≡ after nothing (row_at w x) (came_of held)
  pub gave_all : g ≡ given nothing (row_at w x) (came_of held)
  pub count : length g ≡ (came_of held - 3) * w

-- the end was given: the levels are those of a picture, and all its rows were given out
pub record Ended (w h : ℕ) (x g held : List ℕ) : Type 0 where
  pub begun : Begun held
  pub width : width_of held ≡ w
  pub height : height_of held ≡ h
  pub past : came_of held ≡ h + 3
  pub picture : length x ≡ w * h
  pub whole : g ≡ pass_three w h x

-- what is true at a memory's own sides is true at sides that are equal to them
at_sides : (P : ℕ → ℕ → Type 0) {a b w h : ℕ} → a ≡ w → b ≡ h → P a b → P w h
at_sides P {a} {b} {w} {h} e f p = subst (λ (v : ℕ). P v h) e (subst (P a) f p)

-- ---- a good start
nothing_held : (w h : ℕ) (rows : List ℕ) → held_in w h 0 rows ≡ nothing
unfolding held_in last_two shown nothing
nothing_held w h rows = refl

begins : (w h : ℕ) (past : List ℕ) → Side w → Side h → Running w h [] [] (memory w h 0 (zeros 6144) past)
unfolding memory after given joined
begins w h past width height = record {
  begun = begun_zeros w h 0 past width height;
  width = refl;
  height = refl;
  few = zero-le;
  long = sym (zero-mul w);
  holds = nothing_held w h _;
  gave_all = refl;
  count = sym (zero-mul w);
}

-- ---- a call that is done
module _ (held x g output : List ℕ) (r : Scanned) where
  abbrev w : ℕ
  w = width_of held

  abbrev h : ℕ
  h = height_of held

  abbrev k : ℕ
  k = came_of held

  -- ---- rows that came
  module _ (levels : List ℕ) (bytes : AtMost 255 levels) (came : Came held levels output r) where
    abbrev n : ℕ
    n = length levels / w

    module _ (so_far : Running w h x g held) where
      few : k ≤ 65535
      few = let height = came.begun.height.1 in let l = so_far.few in omega (arith, height, l)

      in_reach : k + n ≤ h
      in_reach = let within = came.within in let l = so_far.few in omega (arith, within, l)

      new : given_out w r ≡ given (after nothing (row_at w x) k) (row_at w levels) n
      unfolding rows_given
      new = gave held levels output r few bytes came ∙ ap (λ (q : Held). given q (row_at w levels) n) so_far.holds

      grown : length g + length (given_out w r) ≡ (k + n - 3) * w
      grown =
          let a = so_far.count in
          let b = ap length (gave held levels output r few bytes came) ∙ given_long held levels output r few bytes came in
          let d : k - 3 + due k n ≡ k + n - 3 = omega arith in
          rw (a, b) (sym (add-mul (k - 3) (due k n) w) ∙ ap (λ (z : ℕ). z * w) d)

      then : Running w h (x ++ levels) (g ++ given_out w r)
          (memory w h (k + n) (later w h k (take (6147 - 3) (drop 3 held)) (row_at w levels) n) (drop 6147 held))
      unfolding memory
      then = record {
        begun = left_begun held levels output r few bytes came;
        width = refl;
        height = refl;
        few = in_reach;
        long =
            let a = so_far.long in
            let b = levels_are held came.begun levels output bytes few came.whole came.within in
            length-append x levels ∙ rw (add-mul k n w) (omega (arith, a, b));
        holds =
            left_held held levels output r few bytes came
            ∙ ap (λ (q : Held). after q (row_at w levels) n) so_far.holds
            ∙ sym (after_more w k x levels so_far.long nothing n);
        gave_all = rw (new, so_far.gave_all) (sym (given_more w k x levels so_far.long nothing n));
        count = length-append g (given_out w r) ∙ grown;
      }

      runs_on : Running w h (x ++ levels) (g ++ given_out w r) r.held
      runs_on = subst (Running w h (x ++ levels) (g ++ given_out w r)) (sym (left_is held levels output r few bytes came)) then

    -- past the end there are none
    module _ (over : Ended w h x g held) where
      few_past : k ≤ 65535
      few_past = let height = came.begun.height.1 in let p = over.past in omega (arith, height, p)

      no_rows : n ≡ 0
      no_rows = let within = came.within in let p = over.past in omega (arith, within, p)

      no_levels : levels ≡ []
      no_levels =
          let all = levels_are held came.begun levels output bytes few_past came.whole came.within in
          no_elements levels (all ∙ ap (λ (z : ℕ). z * w) no_rows ∙ zero-mul w)

      none_given : given_out w r ≡ []
      none_given =
          let none : due k n * w ≡ 0 = ap (λ (z : ℕ). z * w) (let d : due k n ≡ 0 = omega (arith, no_rows) in d) ∙ zero-mul w in
          no_elements (given_out w r)
          (ap length (gave held levels output r few_past bytes came) ∙ given_long held levels output r few_past bytes came ∙ none)

      then_past : Ended w h (x ++ levels) (g ++ given_out w r)
          (memory w h (k + n) (later w h k (take (6147 - 3) (drop 3 held)) (row_at w levels) n) (drop 6147 held))
      unfolding memory
      then_past = record {
        begun = left_begun held levels output r few_past bytes came;
        width = refl;
        height = refl;
        past = let p = over.past in omega (arith, p, no_rows);
        picture = rw (no_levels, append-nil x) over.picture;
        whole = rw (no_levels, none_given, append-nil x, append-nil g) over.whole;
      }

      stays_ended : Ended w h (x ++ levels) (g ++ given_out w r) r.held
      stays_ended = subst (Ended w h (x ++ levels) (g ++ given_out w r)) (sym (left_is held levels output r few_past bytes came)) then_past

  -- ---- the end that is given
  module _ (done : Finished held output r) where
    module _ (so_far : Running w h x g held) where
      is_picture : length x ≡ w * h
      is_picture = so_far.long ∙ ap (λ (z : ℕ). z * w) done.last ∙ mul_comm h w

      -- the rows at the end are those of three rows more of nothing
      last_rows : given_out w r ≡ given (after nothing (row_at w x) k) (row_at w []) 3
      unfolding end_given
      last_rows =
          end_gave held output r done
          ∙ ap (λ (q : Held). given q no_row 3) so_far.holds
          ∙ given_same (after nothing (row_at w x) k) no_row (row_at w []) 3 (λ i p. sym (each_no_row w i))

      all_rows : g ++ given_out w r ≡ pass_three w h x
      all_rows =
          rw (last_rows, so_far.gave_all) (sym (given_more w k x [] so_far.long nothing 3))
          ∙ ap (λ (z : List ℕ). given nothing (row_at w z) (k + 3)) (append-nil x)
          ∙ ap (λ (z : ℕ). given nothing (row_at w x) (z + 3)) done.last
          ∙ rows_give w h x is_picture

      then_ended : Ended w h x (g ++ given_out w r) (memory w h (h + 3) (zeros 6144) (drop 6147 held))
      unfolding memory
      then_ended = record {
        begun = begun_zeros w h (h + 3) (drop 6147 held) done.begun.width done.begun.height;
        width = refl;
        height = refl;
        past = refl;
        picture = is_picture;
        whole = all_rows;
      }

      ends : Ended w h x (g ++ given_out w r) r.held
      ends = subst (Ended w h x (g ++ given_out w r)) (sym done.held-is) then_ended

    -- a second one is not
    no_second : Ended w h x g held → ⊥
    no_second over = let p = over.past in let l = done.last in let no_way : ⊥ = omega (arith, p, l) in no_way

-- ---- any list of calls
-- what the memory means for what was told
abbrev pub Means : Told → List ℕ → Type 0
Means told_nothing held = Unit {0}
Means (since w h x g false) held = Running w h x g held
Means (since w h x g true) held = Ended w h x g held

-- a call that is done keeps that
means_done : (t : Told) (held : List ℕ) (c : Call) (r : Scanned) → Means t held → r.number ≡ 0 → CallIs held c r
    → Means (tell_done t c r) r.held
means_done t held (start_call w h) r m z is =
    let s = start_done held r.held w h r.number z is.0 in
    subst (Running w h [] []) (sym s.left_is) (begins w h (drop 6147 held) s.width s.height)
means_done told_nothing held (rows_call levels output) r m z is = tt
means_done (since w h x g false) held (rows_call levels output) r m z is =
    at_sides (λ a b. Running a b x g held → Running a b (x ++ levels) (g ++ given_out a r) r.held) m.width m.height
    (runs_on held x g output r levels is.0 (rows_done held levels output r z is.1)) m
means_done (since w h x g true) held (rows_call levels output) r m z is =
    at_sides (λ a b. Ended a b x g held → Ended a b (x ++ levels) (g ++ given_out a r) r.held) m.width m.height
    (stays_ended held x g output r levels is.0 (rows_done held levels output r z is.1)) m
means_done told_nothing held (end_call output) r m z is = tt
means_done (since w h x g false) held (end_call output) r m z is =
    at_sides (λ a b. Running a b x g held → Ended a b x (g ++ given_out a r) r.held) m.width m.height
    (ends held x g output r (end_done held output r z is)) m
means_done (since w h x g true) held (end_call output) r m z is =
    absurd (at_sides (λ a b. Ended a b x g held → ⊥) m.width m.height (no_second held x g output r (end_done held output r z is)) m)

-- "A refused call changes nothing held."
pub refused_keeps : (held : List ℕ) (c : Call) (r : Scanned) → r.number ≢ 0 → CallIs held c r → r.held ≡ held
refused_keeps held (start_call w h) r some is = start_refused held r.held w h r.number some is.0
refused_keeps held (rows_call levels output) r some is = rows_refused held levels output r some is.1
refused_keeps held (end_call output) r some is = end_refused held output r some is

means_call : (t : Told) (held : List ℕ) (c : Call) (r : Scanned) → Means t held → CallIs held c r → Means (tell t c r) r.held
means_call t held c r m is = elim (ℕ_discrete r.number 0) [
  | yes z ↦ rw (eq-eqb r.number 0 z) (means_done t held c r m z is)
  | no some ↦ rw (ne_eqb r.number 0 some) (subst (Means t) (sym (refused_keeps held c r some is)) m)
]

-- the memory that calls leave
abbrev left_by : List ℕ → List Made → List ℕ
left_by held [] = held
left_by held (m ∷ ms) = left_by m.left.held ms

means : (t : Told) (held : List ℕ) (ms : List Made) → Means t held → Calls held ms → Means (told t ms) (left_by held ms)
means t held [] m calls = m
means t held (one ∷ ms) m calls =
    means (tell t one.call one.left) one.left.held ms (means_call t held one.call one.left m calls.0) calls.1

-- from any memory on, and whatever calls were made: good starts and refused ones, rows in any grouping and none, refused rows and ends
module _ (held : List ℕ) (ms : List Made) (w h : ℕ) (x g : List ℕ) (calls : Calls held ms) where
  -- once the end was given since the last good start, the levels taken together are a picture, and all rows given out together are the
  -- whole filter's output
  pub rows_whole : told told_nothing ms ≡ since w h x g true → (length x ≡ w * h) × (g ≡ pass_three w h x)
  rows_whole is =
      let over : Ended w h x g (left_by held ms) = subst (λ (t : Told). Means t (left_by held ms)) is (means told_nothing held ms tt calls) in
      (over.picture, over.whole)

  -- before that, after k rows, the rows given out together are the first k − 3 of it, whatever rows y follow
  pub rows_so_far : told told_nothing ms ≡ since w h x g false
      → (k : ℕ) × (k ≤ h) × (length x ≡ k * w) × ((y : List ℕ) → length (x ++ y) ≡ w * h → g ≡ take ((k - 3) * w) (pass_three w h (x ++ y)))
  rows_so_far is =
      let so_far : Running w h x g (left_by held ms) =
      subst (λ (t : Told). Means t (left_by held ms)) is (means told_nothing held ms tt calls) in
      (came_of (left_by held ms), so_far.few, so_far.long, λ y l. first_rows so_far y l)
    where
      first_rows : Running w h x g (left_by held ms) → (y : List ℕ) → length (x ++ y) ≡ w * h
          → g ≡ take ((came_of (left_by held ms) - 3) * w) (pass_three w h (x ++ y))
      first_rows so_far y l =
          let k = came_of (left_by held ms) in
          let few = so_far.few in
          let e : k + (h + 3 - k) ≡ h + 3 = omega (arith, few) in
          let others = given (after nothing (row_at w (x ++ y)) k) (λ i. row_at w (x ++ y) (k + i)) (h + 3 - k) in
          let front = given_same nothing (row_at w (x ++ y)) (row_at w x) k (row_front w k x y so_far.long) in
          let all : pass_three w h (x ++ y) ≡ g ++ others =
          sym (rows_give w h (x ++ y) l)
          ∙ ap (given nothing (row_at w (x ++ y))) (sym e)
          ∙ given_add nothing (row_at w (x ++ y)) k (h + 3 - k)
          ∙ ap (λ (z : List ℕ). z ++ others) (front ∙ sym so_far.gave_all) in
          sym (ap (take ((k - 3) * w)) all ∙ take_at g others ((k - 3) * w) so_far.count)
