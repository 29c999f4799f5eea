-- Laws of lists that are joined, how long they are and what stands where, of lists whose elements are at most b, and of lists whose places
-- are set one after the other. Assumes nothing.
use mathlib.Core.Path.{◌≡◌, refl, sym, ◌∙◌}
use mathlib.Core.List.{List, [], ◌∷◌, ◌++◌}
use Prim.Native.Nat.{ℕ, zero, suc, ◌+◌, ◌-◌, ◌*◌, ◌<◌, ◌≤◌, zero-le}
use native.Mathlib.Nat.{zero-mul, suc-mul, mul-le-mul_right, sub-zero, suc-sub-suc, le_of_suc-le-suc, not-suc-le-zero}
use native.Mathlib.Decide.{dec_lt, ℕ_discrete}
use native.Mathlib.Omega.{arith}
use lib.ListN.{length, get_or, set, take, drop, replicate, length-set, length-append, get_or-append}
use lib.Seq.{slice, take-nil, get_or-append-add, get_or-take, get_or-drop, get_or-set_same, get_or-set_other, ext_get_or}
use Rattle.arithmetic.specs.Lists.{joined, AtMost}
use Rattle.answers.proofs.Refusals.{alike}

-- n lists of w elements have n·w elements together
pub length_joined : (n w : ℕ) (f : ℕ → List ℕ) → ((k : ℕ) → k < n → length (f k) ≡ w) → length (joined n f) ≡ n * w
unfolding joined
length_joined zero w f p = sym (zero-mul w)
length_joined (suc n) w f p = simp (length-append, suc-mul) (omega (arith, length_joined n w f (λ k h. p k (omega arith)), p n (omega arith)))

at_seam : (l m : List ℕ) (n i : ℕ) → length l ≡ n → get_or (l ++ m) (n + i) 0 ≡ get_or m i 0
at_seam l m n i e = rw (← e) (get_or-append-add l m i 0)

-- at place j·w + i of lists of w elements, joined, stands what stands at place i of list j
pub joined_at : (n w : ℕ) (f : ℕ → List ℕ) → ((k : ℕ) → k < n → length (f k) ≡ w) → (j i : ℕ) → j < n → i < w → get_or (joined n f) (j * w + i) 0 ≡ get_or (f j) i 0
unfolding joined
joined_at zero w f p j i g h = absurd (let z : ⊥ = omega arith in z)
joined_at (suc n) w f p j i g h =
    let q : (k : ℕ) → k < n → length (f k) ≡ w = λ k r. p k (omega arith) in
    let l = length_joined n w f q in
    elim (dec_lt j n) [
      | yes r ↦ get_or-append (joined n f) (f n) 0 (j * w + i) (omega (arith, mul-le-mul_right w r)) ∙ joined_at n w f q j i r h
      | no r ↦ let e : j ≡ n = omega arith in rw e (at_seam (joined n f) (f n) (n * w) i l)
    ]

-- a list of no elements
pub no_elements : (l : List ℕ) → length l ≡ 0 → l ≡ []
no_elements [] e = refl
no_elements (x ∷ l) e = absurd (let z : ⊥ = omega arith in z)

-- a part as the code takes it
pub part_is : (f t : ℕ) (l : List ℕ) → f ≤ t → take (t - f) (drop f l) ≡ slice f t l
part_is zero t l h = rw sub-zero
part_is (suc f) zero l h = absurd (not-suc-le-zero h)
part_is (suc f) (suc t) [] h = take-nil (suc t - suc f)
part_is (suc f) (suc t) (x ∷ l) h = rw suc-sub-suc (part_is f t l (le_of_suc-le-suc h))

-- what stands at place k of the n elements from a on
pub part_at : (a n : ℕ) (x : List ℕ) (k : ℕ) → k < n → get_or (take n (drop a x)) k 0 ≡ get_or x (a + k) 0
part_at a n x k h = get_or-take n (drop a x) k 0 h ∙ get_or-drop a x k 0

-- Lists whose elements are at most b.
-- of an element and a list
pub most_cons : (b x : ℕ) (l : List ℕ) → x ≤ b → AtMost b l → AtMost b (x ∷ l)
most_cons b x l p q zero = p
most_cons b x l p q (suc k) = q k

-- of two lists, one after the other
pub most_append : (b : ℕ) (l m : List ℕ) → AtMost b l → AtMost b m → AtMost b (l ++ m)
most_append b [] m p q k = q k
most_append b (x ∷ l) m p q zero = p zero
most_append b (x ∷ l) m p q (suc k) = most_append b l m (λ i. p (suc i)) q k

-- of n that are all x
pub most_equal : (b n x : ℕ) → x ≤ b → AtMost b (replicate n x)
most_equal b zero x p k = zero-le
most_equal b (suc n) x p zero = p
most_equal b (suc n) x p (suc k) = most_equal b n x p k

-- of a part of a list
pub most_take : (b n : ℕ) (l : List ℕ) → AtMost b l → AtMost b (take n l)
most_take b zero l p k = zero-le
most_take b (suc n) [] p k = zero-le
most_take b (suc n) (x ∷ l) p zero = p zero
most_take b (suc n) (x ∷ l) p (suc k) = most_take b n l (λ i. p (suc i)) k

pub most_drop : (b n : ℕ) (l : List ℕ) → AtMost b l → AtMost b (drop n l)
most_drop b zero l p k = p k
most_drop b (suc n) [] p k = zero-le
most_drop b (suc n) (x ∷ l) p k = most_drop b n l (λ i. p (suc i)) k

-- of a part
pub most_slice : (b f t : ℕ) (l : List ℕ) → AtMost b l → AtMost b (slice f t l)
most_slice b f t l p = most_drop b f (take t l) (most_take b t l p)

-- of several lists, joined
pub most_joined : (b n : ℕ) (f : ℕ → List ℕ) → ((i : ℕ) → AtMost b (f i)) → AtMost b (joined n f)
unfolding joined
most_joined b zero f p k = zero-le
most_joined b (suc n) f p k = most_append b (joined n f) (f n) (most_joined b n f p) (p n) k

-- lists that are the same, joined, are the same
pub joined_same : (n : ℕ) (f g : ℕ → List ℕ) → ((k : ℕ) → f k ≡ g k) → joined n f ≡ joined n g
unfolding joined
joined_same zero f g p = refl
joined_same (suc n) f g p = rw (joined_same n f g p, p n)

-- Lists whose places are set one after the other.
-- of n places the first i have what f says
pub record Written (f : ℕ → ℕ) (n : ℕ) (l : List ℕ) (i : ℕ) : Type 0 where
  pub places : length l ≡ n
  pub are : (v : ℕ) → v < i → get_or l v 0 ≡ f v

-- before the first is set
pub written_none : (f : ℕ → ℕ) {n : ℕ} (l : List ℕ) → length l ≡ n → Written f n l 0
written_none f l long = record { places = long; are = λ v h. absurd (let z : ⊥ = omega arith in z) }

-- one place more
pub written_more : (f : ℕ → ℕ) {n : ℕ} (l : List ℕ) (i x : ℕ) → i < n → x ≡ f i → Written f n l i → Written f n (set l i x) (i + 1)
written_more f l i x here is so_far = record { places = length-set l i x ∙ so_far.places; are = are }
  where
    are : (v : ℕ) → v < i + 1 → get_or (set l i x) v 0 ≡ f v
    are v h = elim (ℕ_discrete v i) [
      | yes e ↦ rw e (get_or-set_same l i x 0 (omega (arith, so_far.places)) ∙ is)
      | no g ↦ get_or-set_other l i v x 0 g ∙ so_far.are v (omega arith)
    ]

-- all places, where f says what another list of as many has
pub written_all : (l m : List ℕ) {n : ℕ} (i : ℕ) → n ≤ i → length m ≡ n → Written (λ v. get_or m v 0) n l i → l ≡ m
written_all l m i all long so_far = ext_get_or 0 l m (alike so_far.places long) (λ v h. so_far.are v (omega (arith, so_far.places)))
