-- Laws of lists that are written over others, element by element and part by part. Assumes nothing.
use mathlib.Core.Path.{◌≡◌, refl, sym, ap, ◌∙◌}
use mathlib.Core.List.{List, [], ◌∷◌, ◌++◌, append_assoc, append-nil}
use Prim.Native.Nat.{ℕ, zero, suc, ◌+◌, ◌≤◌, ◌<◌}
use native.Mathlib.Nat.{add-zero, zero-add}
use native.Mathlib.Numerals.{add-one}
use native.Mathlib.Omega.{arith}
use lib.ListN.{length, get_or, take, drop, set, length-set, length-append, length-drop, take-append-drop}
use lib.Seq.{take-length, length-take-le, take_at, drop_at, drop-drop, take-suc, set_split, append_snoc}
use Rattle.arithmetic.specs.Lists.{joined, listed, over}
use Rattle.arithmetic.proofs.Lists.{length_joined}

-- ---- the list of f 0 to f (n − 1)
-- it has n elements
pub length_listed : (n : ℕ) (f : ℕ → ℕ) → length (listed n f) ≡ n
length_listed n f = length_joined n 1 (λ i. f i ∷ []) (λ k h. refl) ∙ omega arith

-- of the elements of a list it is the list's beginning
pub listed_take : (l : List ℕ) (n : ℕ) → n ≤ length l → listed n (λ i. get_or l i 0) ≡ take n l
unfolding joined
listed_take l zero h = refl
listed_take l (suc n) h = rw (listed_take l n (omega arith)) (sym (take-suc l n 0 (omega arith)))

-- ---- a list written over another
-- of no elements it changes nothing
pub over_none : (l : List ℕ) (at : ℕ) → over l at [] ≡ l
over_none l at = rw (add-zero at, append-nil (take at l)) (take-append-drop at l)

-- one element stored is a list of one
pub over_one : (l : List ℕ) (at x : ℕ) → at < length l → set l at x ≡ over l at (x ∷ [])
over_one l at x inside =
    set_split l at x inside
    ∙ sym (append_snoc (take at l) x (drop (suc at) l))
    ∙ ap (λ (k : ℕ). take at l ++ (x ∷ []) ++ drop k l) (sym (add-one at))

-- one list, and another where it ends, are the two as one
pub over_both : (l : List ℕ) (at : ℕ) (m more : List ℕ) → at ≤ length l → over (over l at m) (at + length m) more ≡ over l at (m ++ more)
over_both l at m more inside =
    let end : ℕ = at + length m in
    let head : length (take at l ++ m) ≡ end = simp length-append (omega (arith, length-take-le at l inside)) in
    let front : take end (over l at m) ≡ take at l ++ m = take_at (take at l ++ m) (drop end l) end head in
    let back : drop end (over l at m) ≡ drop end l = drop_at (take at l ++ m) (drop end l) end head in
    let far : end + length more ≡ at + length (m ++ more) = simp length-append (omega arith) in
    let past : drop (end + length more) (over l at m) ≡ drop (at + length (m ++ more)) l =
    sym (drop-drop (length more) end (over l at m))
    ∙ ap (drop (length more)) back
    ∙ drop-drop (length more) end l
    ∙ ap (λ (k : ℕ). drop k l) far in
    rw (front, past) (ap (λ (x : List ℕ). x ++ drop (at + length (m ++ more)) l) (append_assoc (take at l) m more))

-- it keeps the length where it has room
pub length_over : (l : List ℕ) (at : ℕ) (m : List ℕ) → at + length m ≤ length l → length (over l at m) ≡ length l
length_over l at m room = simp (length-append, length-drop) (omega (arith, length-take-le at l (omega arith)))

-- ---- a loop that stores one element after the other
-- after i turns the first i are stored
pub record Overwritten (before : List ℕ) (at : ℕ) (f : ℕ → ℕ) (l : List ℕ) (i : ℕ) : Type 0 where
  pub is : l ≡ over before at (listed i f)
  pub long : length l ≡ length before

-- before the first
pub overwritten_none : (before : List ℕ) (at : ℕ) (f : ℕ → ℕ) → Overwritten before at f before 0
unfolding joined
overwritten_none before at f = record { is = sym (over_none before at); long = refl }

-- one more
pub overwritten_more : (before : List ℕ) (at : ℕ) (f : ℕ → ℕ) (l : List ℕ) (i x : ℕ) → at + i < length before → x ≡ f i
    → Overwritten before at f l i → Overwritten before at f (set l (at + i) x) (i + 1)
unfolding joined
overwritten_more before at f l i x room is so_far = record { is = more; long = length-set l (at + i) x ∙ so_far.long }
  where
    m : List ℕ
    m = listed i f

    end : at + length m ≡ at + i
    end = omega (arith, length_listed i f)

    more : set l (at + i) x ≡ over before at (listed (i + 1) f)
    more =
        over_one l (at + i) x (omega (arith, so_far.long))
        ∙ rw (so_far.is, ← end, is, add-one i) (over_both before at m (f i ∷ []) (omega arith))

-- one more, of those from the first place on
pub overwritten_front : (before : List ℕ) (f : ℕ → ℕ) (l : List ℕ) (i x : ℕ) → i < length before → x ≡ f i → Overwritten before 0 f l i
    → Overwritten before 0 f (set l i x) (i + 1)
overwritten_front before f l i x room is so_far = rw (zero-add i) at (overwritten_more before 0 f l i x (omega arith) is so_far)

-- all of a list m
pub overwritten_all : (before : List ℕ) (at : ℕ) (m l : List ℕ) (i : ℕ) → i ≡ length m → Overwritten before at (λ k. get_or m k 0) l i
    → l ≡ over before at m
overwritten_all before at m l i all so_far =
    so_far.is ∙ ap (over before at) (ap (λ (n : ℕ). listed n (λ k. get_or m k 0)) all ∙ listed_take m (length m) (omega arith) ∙ take-length m)
