-- What the call may answer: one outcome, and where its number is 0 the sample of the definition. Assumes nothing.
use mathlib.Core.Path.{◌≡◌, sym, ap}
use mathlib.Core.List.{List}
use mathlib.Core.Logic.{inl, inr}
use Prim.Native.Nat.{ℕ, ◌*◌, ◌≤◌}
use native.Mathlib.Omega.{arith}
use lib.Dec.{lit≤}
use lib.ListN.{length}
use lib.IntN.{ℤ}
use Rattle.arithmetic.specs.Signed.{nat_of}
use Rattle.std.specs.Prelude.{Result, Ok, Err}
use Rattle.answers.specs.declared.Refusal.{Refusal}
use Rattle.answers.proofs.Numbers.{one_refusal, some_number}
use Rattle.answers.proofs.Refusals.{alike, together}
use Rattle.units.specs.declared.Sixteenths.{Sixteenths}
use Rattle.sample.specs.declared.coordinate.Coordinate.{Coordinate}
use Rattle.sample.specs.Cubic.{sample_of, pixel, sample_at, refused, SampleIs, Sampled, sampled_of}
use Rattle.sample.specs.Asked.{Surrounded, Located}
use Rattle.sample.proofs.Coordinates.{inside_surrounded, is_pixel, is_remainder}

-- the sum over the 4×4 levels around two coordinates as the code takes them apart is the sample there
pub is_sample : (levels : List ℕ) {w h : ℕ} (x y : Sixteenths) (column row : Coordinate) {z : ℤ} → Located x column → Located y row → Surrounded w column.pixel → Surrounded h row.pixel
    → z ≡ sample_of levels w column.pixel row.pixel column.remainder row.remainder → z ≡ sample_at levels w x y
is_sample levels {w} {h} x y column row at_x at_y in-x in-y is =
    rw (is_pixel x column at_x, is_remainder x column at_x w in-x, is_pixel y row at_y, is_remainder y row at_y h in-y) at is

-- any two outcomes that the promise permits are equal
pub one_sample : (levels : List ℕ) (w h : ℕ) (x y : Sixteenths) (r r' : Sampled) → SampleIs levels w h x y r → SampleIs levels w h x y r' → r ≡ r'
one_sample levels w h x y r r' = together alike (together alike (together alike alike))

-- what comes back is that of one answer only
one_sampled : (a b : Result ℤ Refusal) → sampled_of a ≡ sampled_of b → a ≡ b
one_sampled (Ok x) (Ok y) e = ap (λ (s : Sampled). Ok s.value) e
one_sampled (Ok x) (Err r) e = absurd (some_number r (sym (ap (λ (s : Sampled). s.number) e)))
one_sampled (Err r) (Ok y) e = absurd (some_number r (ap (λ (s : Sampled). s.number) e))
one_sampled (Err r) (Err q) e = ap Err (one_refusal r q (ap (λ (s : Sampled). s.number) e))

-- so any two answers that the promise permits are equal
pub one_sample_answer : (levels : List ℕ) (w h : ℕ) (x y : Sixteenths) (a b : Result ℤ Refusal) → SampleIs levels w h x y (sampled_of a) → SampleIs levels w h x y (sampled_of b) → a ≡ b
one_sample_answer levels w h x y a b is is' = one_sampled a b (one_sample levels w h x y (sampled_of a) (sampled_of b) is is')

-- what a sample rests on: the picture has all its levels, the 4×4 of them are in it, and the value is the definition's
pub record Done (levels : List ℕ) (w h : ℕ) (x y : Sixteenths) (value : ℤ) : Type 0 where
  pub all_levels : length levels ≡ w * h
  pub column : Surrounded w (nat_of (pixel x))
  pub row : Surrounded h (nat_of (pixel y))
  pub is : value ≡ sample_at levels w x y

-- a refused call does not answer 0
sample_refused : {n : ℕ} {r : Sampled} → 1 ≤ n → r ≡ refused n → ¬ (r.number ≡ 0)
sample_refused some is done = let e = ap (λ (s : Sampled). s.number) is in omega arith

-- where the number is 0
pub when_done : (levels : List ℕ) (w h : ℕ) (x y : Sixteenths) (r : Sampled) → r.number ≡ 0 → SampleIs levels w h x y r → Done levels w h x y r.value
when_done levels w h x y r z (inl a) = absurd (sample_refused (lit≤ tt) a.1 z)
when_done levels w h x y r z (inr (s, inl a)) = absurd (sample_refused (lit≤ tt) a.1 z)
when_done levels w h x y r z (inr (s, inr (l, inl a))) = absurd (sample_refused (lit≤ tt) a.1 z)
when_done levels w h x y r z (inr (s, inr (l, inr (i, e)))) =
    record { all_levels = l; column = inside_surrounded w (pixel x) i.0; row = inside_surrounded h (pixel y) i.1; is = ap (λ (s : Sampled). s.value) e }
