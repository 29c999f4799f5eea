-- Rows taken one after the other: what the memory holds after i of them, and what was given out. Assumes nothing.
use mathlib.Core.Path.{◌≡◌, refl, sym, ap, ◌∙◌, subst}
use mathlib.Core.List.{List, [], ◌++◌, append_assoc, append-nil}
use Prim.Native.Nat.{ℕ, zero, suc, ◌+◌, ◌-◌, ◌*◌, ◌≤◌, zero-le}
use native.Mathlib.Nat.{add-zero, le_trans}
use native.Mathlib.Numerals.{add-one}
use native.Mathlib.Decide.{dec_lt}
use native.Mathlib.Omega.{arith}
use lib.ListN.{length, take, drop, length-append, length-drop, drop_of_length-le}
use lib.Seq.{take_at, drop_at, take_all, drop-drop}
use Rattle.arithmetic.specs.Lists.{AtMost, joined}
use Rattle.memory.specs.Memory.{row_at}
use Rattle.memory.proofs.Places.{length_row_at, part_row, most_row_at}
use Rattle.scan.specs.Ring.{held_in, next, later}
use Rattle.scan.specs.Held.{Held, pass_three_row, step, after, given}
use Rattle.scan.specs.Scan.{at_front}
use Rattle.scan.specs.Asked.{long, Ready}
use Rattle.scan.proofs.Turns.{length_pass_three, ready_next, held_next}

-- rows given out only grow
joined_grows : (g : ℕ → List ℕ) (i n : ℕ) → i ≤ n → length (joined i g) ≤ length (joined n g)
unfolding joined
joined_grows g i zero h = let e : i ≡ 0 = omega arith in rw e zero-le
joined_grows g i (suc n) h = elim (dec_lt i (suc n)) [
  | yes p ↦ le_trans (joined_grows g i n (omega arith)) (rw (length-append (joined n g) (g n)) (omega arith))
  | no p ↦ let e : i ≡ suc n = omega arith in rw e (omega arith)
]

pub given_grows : (held : Held) (f : ℕ → List ℕ) (i n : ℕ) → i ≤ n → length (given held f i) ≤ length (given held f n)
unfolding given
given_grows held f i n h = joined_grows (λ j. pass_three_row (after held f j) (f j)) i n h

-- after i of the rows f 0, f 1, .. that come after k: what the rows are and hold, and what is written, of an output o₀
pub record Taken (w h k : ℕ) (rows₀ : List ℕ) (f : ℕ → List ℕ) (o₀ : List ℕ) (i done : ℕ) (rows o : List ℕ) : Type 0 where
  pub ready : Ready w h (k + i) rows
  pub are : rows ≡ later w h k rows₀ f i
  pub hold : held_in w h (k + i) rows ≡ after (held_in w h k rows₀) f i
  pub count : done ≡ length (given (held_in w h k rows₀) f i)
  pub written : o ≡ at_front (given (held_in w h k rows₀) f i) o₀

-- before the first
pub taken_none : (w h k : ℕ) (rows : List ℕ) (f : ℕ → List ℕ) (o : List ℕ) → Ready w h k rows → Taken w h k rows f o 0 0 rows o
unfolding later after given joined
taken_none w h k rows f o r = record {
  ready = rw (add-zero k) r;
  are = refl;
  hold = ap (λ (n : ℕ). held_in w h n rows) (add-zero k);
  count = refl;
  written = refl;
}

module _ (w h k : ℕ) (rows₀ : List ℕ) (f : ℕ → List ℕ) (o₀ : List ℕ) where
  abbrev start : Held
  start = held_in w h k rows₀

  given_suc : (i : ℕ) → given start f (i + 1) ≡ given start f i ++ pass_three_row (after start f i) (f i)
  unfolding given joined
  given_suc i = rw add-one

  module _ (i done : ℕ) (rows o : List ℕ) (so_far : Taken w h k rows₀ f o₀ i done rows o) where
    -- what the next row completes
    abbrev more : List ℕ
    more = pass_three_row (after start f i) (f i)

    more_is : pass_three_row (held_in w h (k + i) rows) (f i) ≡ more
    more_is = ap (λ (held : Held). pass_three_row held (f i)) so_far.hold

    more_long : length more ≡ long w h (k + i) 3
    more_long = ap length (sym more_is) ∙ length_pass_three w h (k + i) rows (f i) so_far.ready

    -- how much is written with it
    pub given_count : length (given start f (i + 1)) ≡ done + long w h (k + i) 3
    given_count =
        let c = so_far.count in
        ap length (given_suc i) ∙ length-append (given start f i) more ∙ omega (arith, c, more_long)

    -- one row more: its row of pass three is written behind those before it
    pub taken_more : (to : ℕ) (rows' o' new : List ℕ) → length (f i) ≡ long w h (k + i) 0 → AtMost 255 (f i) → k + i + 1 ≤ 70000
        → rows' ≡ next w h (k + i) rows (f i)
        → new ≡ pass_three_row (held_in w h (k + i) rows) (f i) ++ drop (long w h (k + i) 3) (drop done o)
        → o' ≡ take done o ++ new
        → to ≡ done + long w h (k + i) 3
        → Taken w h k rows₀ f o₀ (i + 1) to rows' o'
    unfolding later after
    taken_more to rows' o' new row_long levels few is-rows is-new is-o is-to =
        let one_on : k + (i + 1) ≡ k + i + 1 = omega arith in
        let g = given start f i in
        let before : take done o ≡ g = ap (take done) so_far.written ∙ take_at g (drop (length g) o₀) done (sym so_far.count) in
        let behind : drop done o ≡ drop (length g) o₀ =
        ap (drop done) so_far.written ∙ drop_at g (drop (length g) o₀) done (sym so_far.count) in
        let new_is : new ≡ more ++ drop (length more) (drop (length g) o₀) = is-new ∙ rw (more_is, behind, more_long) in
        let rest : drop (length more) (drop (length g) o₀) ≡ drop (length (g ++ more)) o₀ =
        drop-drop (length more) (length g) o₀ ∙ ap (λ (n : ℕ). drop n o₀) (sym (length-append g more)) in
        record {
          ready =
              subst (λ (n : ℕ). Ready w h n rows') (sym one_on)
              (subst (Ready w h (k + i + 1)) (sym is-rows) (ready_next w h (k + i) rows (f i) so_far.ready levels row_long few));
          are = is-rows ∙ rw (add-one i) (ap (λ (m : List ℕ). next w h (k + i) m (f i)) so_far.are);
          hold =
              ap (λ (n : ℕ). held_in w h n rows') one_on
              ∙ ap (held_in w h (k + i + 1)) is-rows
              ∙ held_next w h (k + i) rows (f i) so_far.ready levels row_long
              ∙ rw (add-one i) (ap (λ (held : Held). step held (f i)) so_far.hold);
          count = is-to ∙ sym given_count;
          written = is-o ∙ rw (before, new_is, given_suc i) (sym (append_assoc g more _) ∙ ap (λ (z : List ℕ). g ++ more ++ z) rest);
        }

  -- all n
  pub taken_all : (i n done : ℕ) (rows o : List ℕ) → i ≡ n → Taken w h k rows₀ f o₀ i done rows o
      → (rows ≡ later w h k rows₀ f n) × (o ≡ at_front (given start f n) o₀)
  taken_all i n done rows o e t = rw (← e) (t.are, t.written)

-- ---- the same, in the words of the parts that the code lends: row i of the levels, and the output from `done` on
module _ (each i at : ℕ) (levels : List ℕ) (is_at : at ≡ i * each) (inside : at + each ≤ length levels) where
  abbrev part : List ℕ
  part = take (at + each - at) (drop at levels)

  part_is_row : part ≡ row_at each levels i
  part_is_row = part_row each i at (at + each) levels is_at refl

  row_long : length (row_at each levels i) ≡ each
  row_long = length_row_at each i levels (rw (← is_at) inside)

  pub part_long : (n : ℕ) → n ≡ each → length part ≡ n
  part_long n e = ap length part_is_row ∙ row_long ∙ sym e

  pub turn : (w h k done to : ℕ) (rows₀ o₀ rows o rows' o' new : List ℕ) → Taken w h k rows₀ (row_at each levels) o₀ i done rows o
      → long w h (k + i) 0 ≡ each → AtMost 255 levels → k + i + 1 ≤ 70000
      → rows' ≡ next w h (k + i) rows part
      → new ≡ pass_three_row (held_in w h (k + i) rows) part ++ drop (long w h (k + i) 3) (take (length o - done) (drop done o))
      → o' ≡ take done o ++ (new ++ drop (length o - done) (drop done o))
      → to ≡ done + long w h (k + i) 3
      → Taken w h k rows₀ (row_at each levels) o₀ (i + 1) to rows' o'
  turn w h k done to rows₀ o₀ rows o rows' o' new so_far e bytes few is-rows is-new is-o is-to =
      let all : take (length o - done) (drop done o) ≡ drop done o =
      take_all (length o - done) (drop done o) (rw (length-drop done o) (omega arith)) in
      let none : drop (length o - done) (drop done o) ≡ [] =
      drop_of_length-le (drop done o) {i = length o - done} (rw (length-drop done o) (omega arith)) in
      taken_more w h k rows₀ (row_at each levels) o₀ i done rows o so_far to rows' o' new (row_long ∙ sym e)
      (most_row_at 255 each i levels bytes) few
      (is-rows ∙ ap (next w h (k + i) rows) part_is_row)
      (is-new ∙ rw (part_is_row, all))
      (is-o ∙ ap (λ (z : List ℕ). take done o ++ (new ++ z)) none ∙ ap (λ (z : List ℕ). take done o ++ z) (append-nil new))
      is-to
