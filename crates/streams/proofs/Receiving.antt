-- What a good answer of a stream is; what came of reading: of a space that did not fail, of one that did, and of one that is filled in
-- several reads. Assumes nothing.
use mathlib.Core.Bool.{true, false, true≢false}
use mathlib.Core.Path.{◌≡◌, refl, sym, ap, subst, ◌∙◌}
use mathlib.Core.List.{List, ◌++◌}
use Prim.Native.Nat.{ℕ, ◌+◌, ◌≤◌, ◌<◌}
use native.Mathlib.Omega.{arith}
use lib.IntN.{ℤ, pos, negsuc}
use lib.ListN.{length, take}
use lib.Signed.{lt_z}
use borrow.Author.Tests.{ltb-true}
use borrow.Rule.Slice.PartMut.{put_mid, post_of}
use Rattle.std.specs.Prelude.{Option, Result, Ok, Err, is_ok}
use Rattle.std.specs.Result.{result_unwrap_or}
use Rattle.std.specs.Io.KnownBytes.{Consumes}
use Rattle.std.proofs.lemmas.List.{length-take-le, take-append-le}
use Rattle.std.proofs.Math.Seq.{take-append-add}
use Rattle.std.proofs.KnownBytes.{Consumes-trans}
use Rattle.io.specs.Counts.{clamp_len}
use Rattle.io.proofs.Counting.{prefix_len_of_le}
use Rattle.streams.specs.Streams.{Got, Received, said}

-- what is said to be good is what the stream answered
pub was_good : {A E : Type 0} (r : Result A E) (a : A) → said r ≡ Ok a → r ≡ Ok a
was_good (Ok x) a h = ap Ok (ap (λ q. result_unwrap_or q x) h)
was_good (Err e) a h = absurd (true≢false (sym (ap is_ok h)))

-- n bytes came, and no read failed
pub came : (space : List ℕ) (n : ℕ) → n ≤ length space → Received space (record { failed = false; count = n })
came space n inside = record { counts = prefix_len_of_le n space inside; none = λ failed. absurd (true≢false (sym failed)) }

-- a part of a space for which a read failed received nothing, and so did the space
pub nothing_came : (part space : List ℕ) (r : Got) → Received part r → r.failed ≡ true → Received space r
nothing_came part space r is failed =
    let zero = is.none failed in
    record { counts = prefix_len_of_le r.count space (omega arith); none = λ f. zero }

-- what a read's answer says where it is a number, as the system gives one: a negative one, that the read failed
pub told_failed : (answer : ℤ) (space : List ℕ) → lt_z answer (pos 0) ≡ true
    → Received space (record { failed = true; count = 0 }) × (true ≡ lt_z answer (pos 0)) × (0 ≡ clamp_len answer (length space))
told_failed (pos n) space negative = let no : n < 0 = ltb-true n 0 negative in absurd (let z : ⊥ = omega arith in z)
told_failed (negsuc n) space negative = (record { counts = prefix_len_of_le 0 space (omega arith); none = λ failed. refl }, refl, refl)

-- and one that is not, how many bytes came
pub told_count : (answer : ℤ) (space : List ℕ) (n : ℕ) → lt_z answer (pos 0) ≡ false → n ≤ length space
    → n ≡ clamp_len answer (length space)
    → Received space (record { failed = false; count = n }) × (false ≡ lt_z answer (pos 0)) × (n ≡ clamp_len answer (length space))
told_count answer space n not_negative inside is = (came space n inside, sym not_negative, is)

-- the front of a space, and the first bytes of what was put behind it
front_and_more : (xs ys rest : List ℕ) (at n : ℕ) → at ≤ length xs → n ≤ length ys
    → take at xs ++ take n ys ≡ take (at + n) (take at xs ++ (ys ++ rest))
front_and_more xs ys rest at n inside short =
    subst (λ (k : ℕ). take at xs ++ take n ys ≡ take (k + n) (take at xs ++ (ys ++ rest))) (length-take-le at xs inside)
    (ap (λ (l : List ℕ). take at xs ++ l) (sym (take-append-le n ys rest short)) ∙ sym (take-append-add (take at xs) (ys ++ rest) n))

-- what the input had next is at the front of a space, and what it had after that was put behind it
pub taken_more : (a b c : Option (List ℕ)) (xs ys : List ℕ) (at room n : ℕ) → at ≤ length xs → n ≤ length ys
    → Consumes a b (take at xs) → Consumes b c (take n ys) → Consumes a c (take (at + n) (put_mid at room xs ys))
taken_more a b c xs ys at room n inside short before more =
    subst (Consumes a c) (front_and_more xs ys (post_of at room xs) at n inside short) (Consumes-trans a b c _ _ before more)
