-- Laws of the C door: it hands on the answer of the call below it. Assumes nothing.
use mathlib.Core.Path.{◌≡◌}
use mathlib.Core.List.{List}
use Prim.Native.Nat.{ℕ}
use lib.IntN.{ℤ}
use Rattle.units.specs.declared.Sixteenths.{Sixteenths}
use Rattle.units.specs.declared.Picometres.{Picometres}
use Rattle.units.specs.declared.Eighths.{Eighths}
use Rattle.judge.specs.Judge.{Verdict, JudgeIs}
use Rattle.sample.specs.Cubic.{Sampled, sampled, SampleIs}
use Rattle.length.specs.Length.{Sharpness, sharpness, LengthIs}

-- an answer to the units is an answer to their numbers, and its length goes out as a plain number
pub handed_on : {s s' : Sixteenths} {p p' : Picometres} {r : Sharpness} {q : ℕ} → s ≡ s' → p ≡ p' → q ≡ r.length.0 → LengthIs s p r → LengthIs s' p' (sharpness r.number q)
handed_on factor pixel length is = rw (length, ← factor, ← pixel) is

-- and a verdict on M and m in eighths is a verdict on their numbers
pub judged_on : {N D : ℕ} {M M' m m' : Eighths} {v : Verdict} → M ≡ M' → m ≡ m' → JudgeIs N M m D v → JudgeIs N M' m' D v
judged_on bright dark is = rw (← bright, ← dark) is

-- and a sample at a place in sixteenths is one at its numbers, and its value goes out as a plain number
pub sampled_on : (levels : List ℕ) (w h : ℕ) {x x' y y' : Sixteenths} (r : Sampled) {v : ℤ} → x ≡ x' → y ≡ y' → v ≡ r.value → SampleIs levels w h x y r → SampleIs levels w h x' y' (sampled r.number v)
sampled_on levels w h r column row value is = rw (value, ← column, ← row) is
