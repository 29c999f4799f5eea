-- What a row of the table in Cases.antt says: a call, what it is given, and the only answer that its promise permits.
use Rattle.std.specs.Prelude.{◌≡◌, List, ◌++◌, ℕ, ◌+◌, ◌*◌, ◌≤◌, ℤ, pos}
use Rattle.std.proofs.Math.ListN as ListN
use Rattle.arithmetic.specs.declared.Fraction.{Fraction}
use Rattle.units.specs.Units.{sixteenths, picometres, eighths}
use Rattle.filter.specs.Filter.{pass_one, Outcome, FilterIs}
use Rattle.judge.specs.Judge.{Verdict, JudgeIs}
use Rattle.threshold.specs.TwoMeans.{Threshold, level, start, Rests, TwoMeansIs}
use Rattle.threshold.specs.Worked.{histogram, Walk}
use Rattle.sample.specs.Cubic.{Sampled, SampleIs}
use Rattle.length.specs.Length.{Sharpness, LengthIs}

-- ---- a row
-- a call, and what it is given
pub data Call : Type 0 where
  -- a picture's width, height and levels: all three passes, and the first alone
  filter : ℕ → ℕ → List ℕ → Call
  first_pass : ℕ → ℕ → List ℕ → Call
  -- N, M, m and D
  judge : ℕ → ℕ → ℕ → ℕ → Call
  -- a histogram, as pairs of a level and how many pixels have it; and the working: the start, and T after each round
  two_means : List (ℕ × ℕ) → ℕ → List Fraction → Call
  -- a picture's width, height and levels, then x and y
  sample : ℕ → ℕ → List ℕ → ℤ → ℤ → Call
  -- s and p
  length : ℕ → ℕ → Call

-- and what comes back: eighths or halves of the levels, or what the call answers
abbrev pub Answer : Call → Type 0
Answer (filter w h levels) = List ℕ
Answer (first_pass w h levels) = List ℕ
Answer (judge N M m D) = Verdict
Answer (two_means counts v l) = Threshold
Answer (sample w h levels x y) = Sampled
Answer (length s p) = Sharpness

infix 70 ◌gives◌
infix 70 ◌rests_in◌
pub data Case : Type 0 where
  ◌gives◌ : (c : Call) → Answer c → Case
  -- a level, and a histogram
  ◌rests_in◌ : ℕ → List (ℕ × ℕ) → Case

-- "A place is x, y in sixteenths of a pixel: column i, row j and remainders k": one of the two
abbrev pub coordinate : ℕ → ℕ → ℤ
coordinate i k = pos (16 * i + k)

-- ---- what it says
-- Whatever a promise permits is this answer. (That it permits one is what the call shows, which keeps its promise for every input.)
abbrev pub Only : {A : Type 0} → (A → Type 0) → A → Type 0
Only {A} Promise answer = (a : A) → Promise a → a ≡ answer

-- The filter, lent any buffers that are long enough, gives number 0 and leaves the eighths in front of what the output had past them.
-- The working of a threshold is right too: the start; each T a round from the one before it; and the last rests, as none before it does.
abbrev pub Holds : Case → Type 0
Holds (filter w h levels gives expected) =
    (output work : List ℕ) → w * h ≤ ListN.length output → w * h ≤ ListN.length work
    → (r : Outcome) → FilterIs levels w h output work r → (r.number ≡ 0) × (r.output ≡ expected ++ ListN.drop (w * h) output)
Holds (first_pass w h levels gives expected) = pass_one w h levels ≡ expected
Holds (judge N M m D gives v) = Only (JudgeIs N (eighths M) (eighths m) D) v
Holds (two_means counts v l gives t) =
    (start 128 (histogram counts) ≡ level v)
    × (Walk (histogram counts) (level v) l t.value × Only (TwoMeansIs (histogram counts)) t)
Holds (sample w h levels x y gives s) = Only (SampleIs levels w h (sixteenths x) (sixteenths y)) s
Holds (length s p gives r) = Only (LengthIs (sixteenths (pos s)) (picometres p)) r
Holds (v rests_in counts) = Rests (histogram counts) (level v)
