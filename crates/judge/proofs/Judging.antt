-- What the judge's tests say, and the verdict that follows from them; and that a picture's own numbers are always taken, and its verdict on
-- them is the picture's. Assumes nothing.
use mathlib.Core.Path.{◌≡◌, ap, ◌∙◌}
use mathlib.Core.List.{List}
use mathlib.Core.Logic.{inl, inr}
use Prim.Native.Nat.{ℕ, ◌-◌, ◌^◌, ◌≤◌}
use native.Mathlib.Omega.{arith}
use lib.IntN.{pos}
use Rattle.answers.specs.Refusals.{Unless}
use Rattle.answers.proofs.Refusals.{goes_on, carried}
use Rattle.units.specs.Units.{eighths}
use Rattle.units.specs.declared.Eighths.{Eighths}
use Rattle.judge.specs.Extremes.{maximum, minimum, bright, dark}
use Rattle.judge.specs.Noise.{inner_pixels, spread_of}
use Rattle.judge.specs.Judge.{Verdict, InRange, BrightInRange, DarkInRange, RatioIs, Tested, refused, JudgeIs}
use Rattle.judge.specs.Measure.{Judged}
use Rattle.judge.specs.Asked.{Tiled}
use Rattle.judge.proofs.Maxima.{maximum_most, minimum_most}
use Rattle.judge.proofs.Tiles.{tiles_most}
use Rattle.judge.proofs.Inner.{some_inner, few_inner}

-- no test stops the judge
pub record Past (N : ℕ) (M m : Eighths) (D : ℕ) : Type 0 where
  pub taken : InRange N M m D
  pub bright_in : BrightInRange M
  pub dark_in : DarkInRange m
  pub some : ¬ (D ≡ 0)

-- M and m as the tests are given them, and the number that they come to
module _ (N : ℕ) (M m : Eighths) (D high low n : ℕ) (is-high : high ≡ M.0) (is-low : low ≡ m.0)
    (tested : Tested N (eighths high) (eighths low) D (λ k. n ≡ k) (n ≡ 0)) where
  same : Tested N M m D (λ k. n ≡ k) (n ≡ 0)
  same = rw (is-high, is-low) at tested

  -- where it is not 0, it is the verdict's
  pub stopped : (v : Verdict) → ¬ (n ≡ 0) → v ≡ refused n → JudgeIs N M m D v
  stopped v some is = carried back (carried back (carried back (carried back (λ z. absurd (some z))))) same
    where
      back : {k : ℕ} → n ≡ k → v ≡ refused k
      back e = is ∙ ap refused e

  -- where it is 0, none of them stops the judge
  pub passed : n ≡ 0 → Past N M m D
  passed z = go same
    where
      no : {A : Type 0} (k : ℕ) → n ≡ k → 1 ≤ k → A
      no k e p = absurd (let none : ⊥ = omega arith in none)

      go : Tested N M m D (λ k. n ≡ k) (n ≡ 0) → Past N M m D
      go (inl a) = no 15 a.1 (omega arith)
      go (inr (_, inl a)) = no 6 a.1 (omega arith)
      go (inr (_, inr (_, inl a))) = no 7 a.1 (omega arith)
      go (inr (_, inr (_, inr (_, inl a)))) = no 8 a.1 (omega arith)
      go (inr (t, inr (b, inr (d, inr (s, _))))) = record { taken = t; bright_in = b; dark_in = d; some = s }

  -- and the ratio decides
  pub decided : (v : Verdict) → n ≡ 0 → RatioIs N (high - low) D v.ratio → Unless (1000 ≤ v.ratio) (v.number ≡ 9) (v.number ≡ 0) → JudgeIs N M m D v
  decided v z ratio number =
      let p = passed z in
      goes_on p.taken (goes_on p.bright_in (goes_on p.dark_in (goes_on p.some (record { ratio = rw (is-high, is-low) at ratio; number = number }))))

-- a picture's own numbers are what the judge takes, and its verdict on them is the picture's
module _ (levels x : List ℕ) (w h : ℕ) (t : Tiled w h x) (D : ℕ) (spread_is : pos D ≡ spread_of w h levels x) (small : D ≤ 2 ^ 62) where
  taken : InRange (inner_pixels w h) (bright w h x) (dark w h x) D
  taken =
      record {
        count_low = some_inner w h t.measurable;
        count_high = few_inner w h t.sides;
        bright_high = tiles_most w h x maximum 2040 (maximum_most 2040) t.small;
        dark_high = tiles_most w h x minimum 2040 (minimum_most 2040) t.small;
        spread_high = small;
      }

  pub judged : (N : ℕ) (M m : Eighths) (v : Verdict) → N ≡ inner_pixels w h → M ≡ bright w h x → m ≡ dark w h x → JudgeIs N M m D v → Judged levels x w h v
  judged N M m v count is-bright is-dark is =
      record { spread = D; spread_is = spread_is; in_range = taken; verdict_is = rw (count, is-bright, is-dark) at is }
