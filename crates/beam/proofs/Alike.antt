-- "Only the rows still needed may be held, never the picture": two memories with the same sides, as many rows come and the same six rows
-- answer all later calls alike. So nothing else of the picture can be told from a memory. Assumes nothing.
use mathlib.Core.Path.{◌≡◌, refl, sym, ap, ◌∙◌, subst}
use mathlib.Core.List.{List, [], ◌∷◌, map}
use mathlib.Core.Logic.{inl, inr}
use Prim.Native.Nat.{ℕ, ◌+◌, ◌-◌, ◌*◌, ◌/◌, ◌%◌, ◌≤◌, min}
use native.Mathlib.Decide.{ℕ_discrete}
use native.Mathlib.Omega.{arith}
use lib.ListN.{length, drop}
use Rattle.arithmetic.specs.Lists.{AtMost}
use Rattle.answers.specs.Refusals.{Unless}
use Rattle.answers.proofs.Refusals.{past, carried, together, alike}
use Rattle.picture.specs.Picture.{Side}
use Rattle.memory.specs.Memory.{row_at, width_of, height_of, came_of, rows_of, memory, zeros, Begun, StartIs}
use Rattle.memory.proofs.Memories.{rows_of_memory, length_zeros}
use Rattle.scan.specs.Ring.{held_in}
use Rattle.scan.specs.Held.{Held, after, given, no_row}
use Rattle.scan.specs.Scan.{Scanned, at_front, due, rows_given, RowsIs, end_given, EndIs}
use Rattle.beam.specs.Calls.{Call, start_call, rows_call, end_call, CallIs, MadeTwice, CallsTwice, Seen, seen}
use Rattle.beam.proofs.Answers.{start_done, Came, rows_done, Finished, end_done, begun_zeros, left_is, left_begun, left_held}
use Rattle.beam.proofs.Grouping.{refused_keeps}

-- what can be told from a memory of 16-bit numbers
pub record View (w h k : ℕ) (q : Held) (held : List ℕ) : Type 0 where
  pub begun : Begun held
  pub width : width_of held ≡ w
  pub height : height_of held ≡ h
  pub came : came_of held ≡ k
  pub few : k ≤ 65535
  pub holds : held_in w h k (rows_of held) ≡ q

pub record Same (one other : List ℕ) : Type 0 where
  pub w : ℕ
  pub h : ℕ
  pub k : ℕ
  pub q : Held
  pub this : View w h k q one
  pub that : View w h k q other

-- what is true of a memory's own numbers and rows is true of those that it is viewed with
in_view : (P : ℕ → ℕ → ℕ → Held → Type 0) {w h k : ℕ} {q : Held} {held : List ℕ} → View w h k q held
    → P (width_of held) (height_of held) (came_of held) (held_in (width_of held) (height_of held) (came_of held) (rows_of held)) → P w h k q
in_view P {w} {h} {k} {q} {held} v p =
    subst (P w h k) v.holds
    (subst (λ (c : ℕ). P w h c (held_in w h c (rows_of held))) v.came
    (subst (λ (b : ℕ). P w b (came_of held) (held_in w b (came_of held) (rows_of held))) v.height
    (subst (λ (a : ℕ). P a (height_of held) (came_of held) (held_in a (height_of held) (came_of held) (rows_of held))) v.width p)))

-- ---- the answers, from the view alone
abbrev answer : ℕ → ℕ → List ℕ → Seen
answer n rows output = record { number = n; rows = rows; output = output }

abbrev RowsSeen : List ℕ → List ℕ → Seen → ℕ → ℕ → ℕ → Held → Type 0
RowsSeen levels output s w h k q =
    Unless (length levels % w ≡ 0) (s ≡ answer 20 0 output)
    (Unless (length levels / w ≤ h - k) (s ≡ answer 21 0 output)
    (Unless (due k (length levels / w) * w ≤ length output) (s ≡ answer 3 0 output)
    (s ≡ answer 0 (due k (length levels / w)) (at_front (given q (row_at w levels) (length levels / w)) output))))

abbrev EndSeen : List ℕ → Seen → ℕ → ℕ → ℕ → Held → Type 0
EndSeen output s w h k q =
    Unless (k ≡ h) (s ≡ answer 22 0 output)
    (Unless (min 3 h * w ≤ length output) (s ≡ answer 3 0 output)
    (s ≡ answer 0 (min 3 h) (at_front (given q no_row 3) output)))

see : {r s : Scanned} → r ≡ s → seen r ≡ seen s
see e = ap seen e

rows_own : (held levels output : List ℕ) (r : Scanned) → Begun held → RowsIs held levels output r
    → RowsSeen levels output (seen r) (width_of held) (height_of held) (came_of held)
    (held_in (width_of held) (height_of held) (came_of held) (rows_of held))
unfolding rows_given
rows_own held levels output r begun d = carried see (carried see (carried see see)) (past begun d)

end_own : (held output : List ℕ) (r : Scanned) → Begun held → EndIs held output r
    → EndSeen output (seen r) (width_of held) (height_of held) (came_of held)
    (held_in (width_of held) (height_of held) (came_of held) (rows_of held))
unfolding end_given
end_own held output r begun d = carried see (carried see see) (past begun d)

-- ---- the memories after it, where it was done
zeros_view : (w h k : ℕ) (past : List ℕ) → Side w → Side h → k ≤ 65535
    → View w h k (held_in w h k (zeros 6144)) (memory w h k (zeros 6144) past)
unfolding memory
zeros_view w h k past width height few = record {
  begun = begun_zeros w h k past width height;
  width = refl;
  height = refl;
  came = refl;
  few = few;
  holds = ap (held_in w h k) (rows_of_memory w h k (zeros 6144) past (length_zeros 6144));
}

rows_view : (held levels output : List ℕ) (r : Scanned) → came_of held ≤ 65535 → AtMost 255 levels → Came held levels output r
    → View (width_of held) (height_of held) (came_of held + length levels / width_of held)
    (after (held_in (width_of held) (height_of held) (came_of held) (rows_of held)) (row_at (width_of held) levels) (length levels / width_of held))
    r.held
unfolding memory
rows_view held levels output r few bytes came =
    subst (View _ _ _ _) (sym (left_is held levels output r few bytes came)) (record {
      begun = left_begun held levels output r few bytes came;
      width = refl;
      height = refl;
      came = refl;
      few = let within = came.within in let height = came.begun.height.1 in omega (arith, within, height, few);
      holds = left_held held levels output r few bytes came;
    })

rows_then : {w h k : ℕ} {q : Held} (held levels output : List ℕ) (r : Scanned) → View w h k q held → AtMost 255 levels → r.number ≡ 0
    → RowsIs held levels output r
    → View w h (k + length levels / w) (after q (row_at w levels) (length levels / w)) r.held
rows_then {w} {h} {k} {q} held levels output r v bytes z d =
    in_view (λ a b c p. View a b (c + length levels / a) (after p (row_at a levels) (length levels / a)) r.held) v
    (rows_view held levels output r (rw v.came v.few) bytes (rows_done held levels output r z d))

end_view : (held output : List ℕ) (r : Scanned) → Finished held output r
    → View (width_of held) (height_of held) (height_of held + 3)
    (held_in (width_of held) (height_of held) (height_of held + 3) (zeros 6144)) r.held
end_view held output r done =
    let height = done.begun.height in
    let few : height_of held + 3 ≤ 65535 = let most = height.1 in omega (arith, most) in
    subst (View _ _ _ _) (sym done.held-is)
    (zeros_view (width_of held) (height_of held) (height_of held + 3) (drop 6147 held) done.begun.width height few)

end_then : {w h k : ℕ} {q : Held} (held output : List ℕ) (r : Scanned) → View w h k q held → r.number ≡ 0 → EndIs held output r
    → View w h (h + 3) (held_in w h (h + 3) (zeros 6144)) r.held
end_then held output r v z d =
    in_view (λ a b c p. View a b (b + 3) (held_in a b (b + 3) (zeros 6144)) r.held) v
    (end_view held output r (end_done held output r z d))

start_then : (held : List ℕ) (w h n : ℕ) (left : List ℕ) → n ≡ 0 → StartIs held w h n left → View w h 0 (held_in w h 0 (zeros 6144)) left
start_then held w h n left z d =
    let s = start_done held left w h n z d in
    subst (View _ _ _ _) (sym s.left_is) (zeros_view w h 0 (drop 6147 held) s.width s.height (omega arith))

-- ---- one call on each
one_seen : (one other : List ℕ) (c : Call) (r r' : Scanned) → Same one other → CallIs one c r → CallIs other c r' → seen r ≡ seen r'
one_seen one other (start_call w h) r r' s d d' =
    let number =
    together (λ p q. alike p.0 q.0) (λ p q. alike p.0 q.0) (start-own one w h r s.this.begun.long d.0)
    (start-own other w h r' s.that.begun.long d'.0) in
    λ i. answer (number i) (alike d.1 d'.1 i) (alike d.2 d'.2 i)
  where
    start-own : (held : List ℕ) (w h : ℕ) (r : Scanned) → 6147 ≤ length held → StartIs held w h r.number r.held
        → Unless (Side w × Side h) ((r.number ≡ 1) × (r.held ≡ held))
        ((r.number ≡ 0) × (r.held ≡ memory w h 0 (zeros 6144) (drop 6147 held)))
    start-own held w h r long (inl a) = inl (λ ok. a.0 (long, ok.0, ok.1), a.1)
    start-own held w h r long (inr a) = inr ((a.0.1, a.0.2), a.1)
one_seen one other (rows_call levels output) r r' s d d' =
    together alike (together alike (together alike alike))
    (in_view (RowsSeen levels output (seen r)) s.this (rows_own one levels output r s.this.begun d.1))
    (in_view (RowsSeen levels output (seen r')) s.that (rows_own other levels output r' s.that.begun d'.1))
one_seen one other (end_call output) r r' s d d' =
    together alike (together alike alike)
    (in_view (EndSeen output (seen r)) s.this (end_own one output r s.this.begun d))
    (in_view (EndSeen output (seen r')) s.that (end_own other output r' s.that.begun d'))

same_done : (one other : List ℕ) (c : Call) (r r' : Scanned) → Same one other → r.number ≡ 0 → r'.number ≡ 0 → CallIs one c r
    → CallIs other c r' → Same r.held r'.held
same_done one other (start_call w h) r r' s z z' d d' = record {
  w = w;
  h = h;
  k = 0;
  q = held_in w h 0 (zeros 6144);
  this = start_then one w h r.number r.held z d.0;
  that = start_then other w h r'.number r'.held z' d'.0;
}
same_done one other (rows_call levels output) r r' s z z' d d' = record {
  w = s.w;
  h = s.h;
  k = s.k + length levels / s.w;
  q = after s.q (row_at s.w levels) (length levels / s.w);
  this = rows_then one levels output r s.this d.0 z d.1;
  that = rows_then other levels output r' s.that d'.0 z' d'.1;
}
same_done one other (end_call output) r r' s z z' d d' = record {
  w = s.w;
  h = s.h;
  k = s.h + 3;
  q = held_in s.w s.h (s.h + 3) (zeros 6144);
  this = end_then one output r s.this z d;
  that = end_then other output r' s.that z' d';
}

same_then : (one other : List ℕ) (c : Call) (r r' : Scanned) → Same one other → seen r ≡ seen r' → CallIs one c r → CallIs other c r'
    → Same r.held r'.held
same_then one other c r r' s e d d' =
    let number : r.number ≡ r'.number = ap (λ (x : Seen). x.number) e in
    elim (ℕ_discrete r.number 0) [
      | yes z ↦ same_done one other c r r' s z (sym number ∙ z) d d'
      | no some ↦
          subst (λ (m : List ℕ). Same m r'.held) (sym (refused_keeps one c r some d))
          (subst (Same one) (sym (refused_keeps other c r' (λ z. some (number ∙ z)) d')) s)
    ]

-- ---- any later calls
pub answers_alike : (one other : List ℕ) (ms : List MadeTwice) → Same one other → CallsTwice one other ms
    → map (λ m. seen m.left) ms ≡ map (λ m. seen m.right) ms
answers_alike one other [] s calls = refl
answers_alike one other (m ∷ ms) s calls =
    let first = one_seen one other m.call m.left m.right s calls.0 calls.1 in
    let then = same_then one other m.call m.left m.right s first calls.0 calls.1 in
    let others = answers_alike m.left.held m.right.held ms then calls.2 in
    λ i. first i ∷ others i
