-- Rows that come one by one, and three that are not there, give the whole filter's output. Assumes nothing.
use mathlib.Core.Path.{◌≡◌, refl, sym, ap, ◌∙◌, fun_ext}
use mathlib.Core.List.{List, [], ◌++◌}
use Prim.Native.Nat.{ℕ, zero, suc, ◌+◌, ◌-◌, ◌*◌, ◌≤◌, ◌<◌}
use native.Mathlib.Nat.{zero-mul, suc-mul, mul_comm, mul-le-mul_right}
use native.Mathlib.Decide.{dec_lt}
use native.Mathlib.Omega.{arith}
use lib.ListN.{length, take, drop, length-append, length-take, length-drop, drop_of_length-le}
use lib.Seq.{drop-nil, take-append-le, take_all, drop_at}
use Rattle.arithmetic.specs.Lists.{joined}
use Rattle.arithmetic.proofs.Order.{row_end}
use Rattle.arithmetic.proofs.Lists.{length_joined, joined_same}
use Rattle.filter.specs.Median.{row_of, pass_row, pass}
use Rattle.filter.specs.Filter.{pass_one, pass_two, pass_three}
use Rattle.filter.proofs.Blocks.{length_row}
use Rattle.filter.proofs.Drawn.{length_pass}
use Rattle.memory.specs.Memory.{row_at}
use Rattle.scan.specs.Held.{Two, Held, completed, followed, nothing, pass_one_row, pass_two_row, pass_three_row, step, after, given}

-- ---- rows f 0, f 1, .., one after the other
-- the same, one later: before the first there is none
unfoldable pub delayed : (ℕ → List ℕ) → ℕ → List ℕ
delayed f zero = []
delayed f (suc i) = f i

-- the rows of a pass over them
unfoldable pub passed : (ℕ → List ℕ) → ℕ → List ℕ
passed f i = row_of (delayed f i) (f i) (f (suc i))

-- the last two that came before row k
unfoldable pub two_before : (ℕ → List ℕ) → ℕ → Two
two_before f k = record { older = delayed (delayed f) k; newer = delayed f k }

-- row k completes the pass's row of the one above it
completes : (f : ℕ → List ℕ) (k : ℕ) → completed (two_before f k) (f k) ≡ delayed (passed f) k
unfolding completed two_before delayed passed row_of joined
completes f zero = refl
completes f (suc k) = refl

follows : (f : ℕ → List ℕ) (k : ℕ) → followed (two_before f k) (f k) ≡ two_before f (suc k)
unfolding followed two_before delayed
follows f k = refl

-- a pass over rows that come one later comes one later
passed_delayed : (f : ℕ → List ℕ) (k : ℕ) → passed (delayed f) k ≡ delayed (passed f) k
unfolding passed delayed row_of joined
passed_delayed f zero = refl
passed_delayed f (suc k) = refl

delayed_passed : (f : ℕ → List ℕ) → passed (delayed f) ≡ delayed (passed f)
delayed_passed f = fun_ext (passed_delayed f)

-- ---- what is held once k of them came
module _ (f : ℕ → List ℕ) where
  -- the rows of the three passes, as they come: one, two and three later
  abbrev ones : ℕ → List ℕ
  ones = delayed (passed f)

  abbrev twos : ℕ → List ℕ
  twos = delayed (passed ones)

  abbrev threes : ℕ → List ℕ
  threes = delayed (passed twos)

  unfoldable pub held : ℕ → Held
  held k = record { levels = two_before f k; halves = two_before ones k; quarters = two_before twos k }

  halves_is : (k : ℕ) → pass_one_row (held k) (f k) ≡ ones k
  unfolding pass_one_row held
  halves_is k = completes f k

  quarters_is : (k : ℕ) → pass_two_row (held k) (f k) ≡ twos k
  unfolding pass_two_row held
  quarters_is k = ap (completed (two_before ones k)) (halves_is k) ∙ completes ones k

  eighths_is : (k : ℕ) → pass_three_row (held k) (f k) ≡ threes k
  unfolding pass_three_row held
  eighths_is k = ap (completed (two_before twos k)) (quarters_is k) ∙ completes twos k

  step_is : (k : ℕ) → step (held k) (f k) ≡ held (suc k)
  unfolding step held
  step_is k = λ i. record {
    levels = follows f k i;
    halves = (ap (followed (two_before ones k)) (halves_is k) ∙ follows ones k) i;
    quarters = (ap (followed (two_before twos k)) (quarters_is k) ∙ follows twos k) i;
  }

  pub after_is : (k : ℕ) → after nothing f k ≡ held k
  unfolding after nothing held two_before delayed
  after_is zero = refl
  after_is (suc k) = ap (λ (m : Held). step m (f k)) (after_is k) ∙ step_is k

  -- the rows of pass three come three later
  threes_are : (k : ℕ) → threes k ≡ delayed (delayed (delayed (passed (passed (passed f))))) k
  threes_are k =
      let two : twos ≡ delayed (delayed (passed (passed f))) = ap delayed (delayed_passed (passed f)) in
      ap (λ (g : ℕ → List ℕ). delayed (passed g) k) two
      ∙ ap (λ (g : ℕ → List ℕ). delayed g k) (delayed_passed (delayed (passed (passed f))))
      ∙ ap (λ (g : ℕ → List ℕ). delayed (delayed g) k) (delayed_passed (passed (passed f)))

joined_delayed : (n : ℕ) (f : ℕ → List ℕ) → joined (suc (suc (suc n))) (delayed (delayed (delayed f))) ≡ joined n f
unfolding joined delayed
joined_delayed zero f = refl
joined_delayed (suc n) f = ap (λ (l : List ℕ). l ++ f n) (joined_delayed n f)

-- so three rows past the last, all rows of pass three have come
given_is : (f : ℕ → List ℕ) (n : ℕ) → given nothing f (suc (suc (suc n))) ≡ joined n (passed (passed (passed f)))
unfolding given
given_is f n =
    joined_same (suc (suc (suc n))) (λ i. pass_three_row (after nothing f i) (f i)) (delayed (delayed (delayed (passed (passed (passed f))))))
    (λ i. ap (λ (m : Held). pass_three_row m (f i)) (after_is f i) ∙ eighths_is f i ∙ threes_are f i)
    ∙ joined_delayed n (passed (passed (passed f)))

-- ---- the rows of a picture
-- a pass over them is the filter's
passed_row : (w : ℕ) (x : List ℕ) (i : ℕ) → passed (row_at w x) i ≡ pass_row w x i
unfolding passed delayed row_at pass_row
passed_row w x zero = let e : 1 * w ≡ 0 + w = omega arith in simp (zero-mul, e, drop-nil)
passed_row w x (suc i) = let e : i * w + w - w ≡ i * w = omega arith in simp (suc-mul, e)

-- past the last there is none
row_past : (w h : ℕ) (x : List ℕ) (i : ℕ) → length x ≡ w * h → h ≤ i → row_at w x i ≡ []
unfolding row_at
row_past w h x i l p =
    drop_of_length-le (take (i * w + w) x) {i = i * w} (simp length-take (omega (arith, mul-le-mul_right w p, mul_comm w h, l)))

passed_none : (f : ℕ → List ℕ) (i : ℕ) → f i ≡ [] → passed f i ≡ []
unfolding passed row_of joined
passed_none f i e = rw e

row_long : (w h : ℕ) (x : List ℕ) → length x ≡ w * h → (j : ℕ) → j < h → length (pass_row w x j) ≡ w
unfolding pass_row
row_long w h x l j p = length_row _ _ _ ∙ simp (length-drop, length-take) (omega (arith, row_end w h j p))

-- row i of n rows of w, joined
row_joined : (w n : ℕ) (f : ℕ → List ℕ) → ((i : ℕ) → i < n → length (f i) ≡ w) → (i : ℕ) → i < n → row_at w (joined n f) i ≡ f i
unfolding row_at joined
row_joined w zero f p i h = absurd (let z : ⊥ = omega arith in z)
row_joined w (suc n) f p i h =
    let l = length_joined n w f (λ j g. p j (omega arith)) in
    elim (dec_lt i n) [
      | yes g ↦
          let e : i * w + w ≤ length (joined n f) = omega (arith, mul-le-mul_right w g, suc-mul i w) in
          ap (drop (i * w)) (take-append-le (i * w + w) (joined n f) (f n) e) ∙ row_joined w n f (λ j q. p j (omega arith)) i g
      | no g ↦
          let e : i ≡ n = omega arith in
          let all = take_all (n * w + w) (joined n f ++ f n) (simp length-append (omega (arith, p n (omega arith)))) in
          rw e (ap (drop (n * w)) all ∙ drop_at (joined n f) (f n) (n * w) l)
    ]

row_in_pass : (w h : ℕ) (x : List ℕ) → length x ≡ w * h → (i : ℕ) → i < h → row_at w (pass w h x) i ≡ pass_row w x i
unfolding pass
row_in_pass w h x l i p = row_joined w h (pass_row w x) (row_long w h x l) i p

-- the rows of a pass are the pass over the rows
row_of_pass : (w h : ℕ) (x : List ℕ) → length x ≡ w * h → (i : ℕ) → row_at w (pass w h x) i ≡ passed (row_at w x) i
row_of_pass w h x l i = elim (dec_lt i h) [
  | yes p ↦ row_in_pass w h x l i p ∙ sym (passed_row w x i)
  | no p ↦
      row_past w h (pass w h x) i (length_pass w h x l) (omega arith)
      ∙ sym (passed_none (row_at w x) i (row_past w h x i l (omega arith)))
]

rows_of_pass : (w h : ℕ) (x : List ℕ) → length x ≡ w * h → row_at w (pass w h x) ≡ passed (row_at w x)
rows_of_pass w h x l = fun_ext (row_of_pass w h x l)

pass_is : (w h : ℕ) (x : List ℕ) → pass w h x ≡ joined h (passed (row_at w x))
unfolding pass
pass_is w h x = sym (joined_same h (passed (row_at w x)) (pass_row w x) (passed_row w x))

pass_three_is_row : (w h : ℕ) (x : List ℕ) → length x ≡ w * h → pass_three w h x ≡ joined h (passed (passed (passed (row_at w x))))
unfolding pass_three pass_two pass_one
pass_three_is_row w h x l =
    let second = rows_of_pass w h (pass w h x) (length_pass w h x l) ∙ ap passed (rows_of_pass w h x l) in
    pass_is w h (pass w h (pass w h x)) ∙ ap (λ (f : ℕ → List ℕ). joined h (passed f)) second

-- h rows, and three that are not there
pub rows_give : (w h : ℕ) (x : List ℕ) → length x ≡ w * h → given nothing (row_at w x) (h + 3) ≡ pass_three w h x
rows_give w h x l =
    let three-more : h + 3 ≡ suc (suc (suc h)) = omega arith in
    ap (given nothing (row_at w x)) three-more ∙ given_is (row_at w x) h ∙ sym (pass_three_is_row w h x l)
