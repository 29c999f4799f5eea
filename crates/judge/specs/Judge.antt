-- Document 01, "Extremes and noise", and the numbers 6 to 9 and 15 of its table: the judge.
use Rattle.std.specs.Prelude.{◌≡◌, ◌⊎◌, ℕ, ◌+◌, ◌-◌, ◌*◌, ◌^◌, ◌≤◌, Result, Ok, Err}
use Rattle.answers.specs.Numbers.{number_of}
use Rattle.answers.specs.Refusals.{Unless}
use Rattle.arithmetic.specs.Greatest.{Greatest}
use Rattle.units.specs.declared.Eighths.{Eighths}
use Rattle.judge.specs.declared.Unmeasured.{Unmeasured}

-- "N 1 to 1,048,576; M, m at most 32,640; D at most 2^62"
pub record InRange (N : ℕ) (M m : Eighths) (D : ℕ) : Type 0 where
  pub count_low : 1 ≤ N
  pub count_high : N ≤ 1_048_576
  pub bright_high : M.0 ≤ 32_640
  pub dark_high : m.0 ≤ 32_640
  pub spread_high : D ≤ 2 ^ 62

-- "21,760 ≤ M ≤ 31,360 and 1,280 ≤ m ≤ 10,240"
abbrev pub BrightInRange : Eighths → Type 0
BrightInRange M = (21_760 ≤ M.0) × (M.0 ≤ 31_360)

abbrev pub DarkInRange : Eighths → Type 0
DarkInRange m = (1_280 ≤ m.0) × (m.0 ≤ 10_240)

-- "(q+138)²·256·D ≤ 10,000·(M−m)²·N²", with M − m as `span`: the ratio is q hundredths or more
abbrev pub Reaches : ℕ → ℕ → ℕ → ℕ → Type 0
Reaches N span D q = (q + 138) * (q + 138) * 256 * D ≤ 10_000 * (span * span) * (N * N)

-- "q, the greatest whole number from 0 with" that, "and 0 where there is none"
abbrev pub RatioIs : ℕ → ℕ → ℕ → ℕ → Type 0
RatioIs N span D q = Greatest (Reaches N span D) q ⊎ (((k : ℕ) → ¬ Reaches N span D k) × (q ≡ 0))

-- what comes back: the table's number, and the ratio in hundredths
pub record Verdict : Type 0 where
  pub number : ℕ
  pub ratio : ℕ

-- "9 | q < 1,000", "0 | done"; and "9 also returns q". (M and m are in range here, so that M − m is at least 11,520.)
pub record Rated (N : ℕ) (M m : Eighths) (D : ℕ) (v : Verdict) : Type 0 where
  pub ratio : RatioIs N (M.0 - m.0) D v.ratio
  pub number : Unless (1_000 ≤ v.ratio) (v.number ≡ 9) (v.number ≡ 0)

-- "15 is tested before 6 to 9 in the judge": "judge's input .. out of range", "M out of range", "m out of range", "D = 0".
-- `back n` says what holds where n comes back, `rated` what holds past all four.
abbrev pub Tested : ℕ → Eighths → Eighths → ℕ → (ℕ → Type 0) → Type 0 → Type 0
Tested N M m D back rated =
    Unless (InRange N M m D) (back 15)
    (Unless (BrightInRange M) (back 6)
    (Unless (DarkInRange m) (back 7)
    (Unless (¬ (D ≡ 0)) (back 8)
    rated)))

-- a verdict by its two numbers, and a refusal: "All other returned numbers are 0"
abbrev pub verdict : ℕ → ℕ → Verdict
verdict n q = record { number = n; ratio = q }

abbrev pub refused : ℕ → Verdict
refused n = verdict n 0

-- "a definition that gives this paper's number and values for each of the enum's cases": done, with the ratio; or refused
abbrev pub verdict_of : Result ℕ Unmeasured → Verdict
verdict_of (Ok q) = verdict 0 q
verdict_of (Err u) = verdict (number_of u.why) u.ratio

-- "Measuring, and the judge, give back the number and q."
abbrev pub JudgeIs : ℕ → Eighths → Eighths → ℕ → Verdict → Type 0
JudgeIs N M m D v = Tested N M m D (λ n. v ≡ refused n) (Rated N M m D v)
