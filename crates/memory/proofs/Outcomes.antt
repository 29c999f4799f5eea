-- What the calls may answer and leave is determined: two outcomes that a promise permits are one. Assumes nothing.
use mathlib.Core.Path.{◌≡◌}
use mathlib.Core.Bool.{Bool, true, false}
use mathlib.Core.List.{List}
use Prim.Native.Nat.{ℕ, ◌≤◌}
use lib.ListN.{length, drop}
use Rattle.answers.specs.Refusals.{Unless}
use Rattle.answers.proofs.Refusals.{alike, together, past}
use Rattle.picture.specs.Picture.{Side}
use Rattle.memory.specs.Memory.{memory, zeros, Begun, StartIs}

pub one_start : (held : List ℕ) (w h n n' : ℕ) (left left' : List ℕ) → StartIs held w h n left → StartIs held w h n' left'
    → (n ≡ n') × (left ≡ left')
one_start held w h n n' left left' = together both both
  where
    both : {c : ℕ} {l : List ℕ} → (n ≡ c) × (left ≡ l) → (n' ≡ c) × (left' ≡ l) → (n ≡ n') × (left ≡ left')
    both p q = (alike p.0 q.0, alike p.1 q.1)

pub one_begun : (held : List ℕ) (a b : Bool) → Unless (Begun held) (a ≡ false) (a ≡ true) → Unless (Begun held) (b ≡ false) (b ≡ true)
    → a ≡ b
one_begun held a b = together alike alike

-- what a caller knows whose memory is long enough and whose sides are a picture's
pub when_starts : (held : List ℕ) (w h n : ℕ) (left : List ℕ) → 6147 ≤ length held → Side w → Side h → StartIs held w h n left
    → left ≡ memory w h 0 (zeros 6144) (drop 6147 held)
when_starts held w h n left long width height d = (past (long, width, height) d).1
