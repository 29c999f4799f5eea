-- Why document 02, P3, leaves the rim out: "near the edge the block is lopsided, so a plain slope in the picture counts as noise there".
-- Two pictures of 12×12 that have no noise at all, a plain slope and a folded one. The filter changes only their first and their last
-- column; over the pixels that count D is 0, and over all of them it was not. Assumes nothing.
use mathlib.Core.Path.{◌≡◌, refl}
use mathlib.Core.Bool.{true, ◌||◌, not}
use mathlib.Core.List.{List, [], ◌∷◌}
use mathlib.Core.Option.{get}
use Prim.Native.Nat.{ℕ, ◌*◌, ◌<◌}
use lib.Dec.{eqb, eqb→eq}
use lib.IntN.{ℤ, pos, ◌-ℤ◌, ◌*ℤ◌}
use lib.ListN.{get_or}
use Rattle.arithmetic.specs.Lists.{joined}
use Rattle.arithmetic.specs.Signed.{square}
use Rattle.arithmetic.specs.Sums.{sumℤ, sum_overℤ}
use Rattle.arithmetic.proofs.Computed.{each}
use Rattle.units.specs.Units.{eighths}
use Rattle.filter.specs.Filter.{pass_three}
use Rattle.filter.proofs.Examples.{three_holds, row as filter_row}
use Rattle.judge.specs.Noise.{counts, difference, sum_inner, spread_of}
use Rattle.judge.specs.Judge.{Verdict, verdict, refused, JudgeIs}
use Rattle.judge.proofs.Examples.{holds as judge_holds, row as judge_row}
use Rattle.cases.proofs.Measured.{Measures, holds}

-- D as it was before the request, over all w·h pixels. It stands in this example alone.
abbrev pub spread_with_rim : ℕ → ℕ → List ℕ → List ℕ → ℤ
spread_with_rim w h levels filtered =
    (pos (w * h) *ℤ sumℤ (w * h) (λ k. square (difference levels filtered k))) -ℤ square (sumℤ (w * h) (difference levels filtered))

-- a picture of twelve rows that are all the same
abbrev pub twelve : List ℕ → List ℕ
twelve row = joined 12 (λ j. row)

-- ---- a plain slope: each column is 20 levels brighter than the one before it
abbrev pub slope : List ℕ
slope = twelve (0 ∷ 20 ∷ 40 ∷ 60 ∷ 80 ∷ 100 ∷ 120 ∷ 140 ∷ 160 ∷ 180 ∷ 200 ∷ 220 ∷ [])

-- in eighths it is 8 times that, but for the first and the last column, whose blocks have no column on the other side
abbrev pub slope_eighths : List ℕ
slope_eighths = twelve (140 ∷ 160 ∷ 320 ∷ 480 ∷ 640 ∷ 800 ∷ 960 ∷ 1120 ∷ 1280 ∷ 1440 ∷ 1600 ∷ 1620 ∷ [])

pub slope_filtered : pass_three 12 12 slope ≡ slope_eighths
unfolding joined three_holds
slope_filtered = get (three_holds (filter_row 12 12 slope slope_eighths)) tt

-- so every pixel that counts is as it was
pub slope_kept : (k : ℕ) → k < 144 → counts 12 12 k ≡ true → 8 * get_or slope k 0 ≡ get_or slope_eighths k 0
unfolding joined
slope_kept k less in-it =
    eqb→eq _ _
    (rw in-it at (each (λ k. not (counts 12 12 k) || eqb (8 * get_or slope k 0) (get_or slope_eighths k 0)) 144 tt k less))

-- no noise; but with the rim there was some
pub slope_quiet : spread_of 12 12 slope slope_eighths ≡ pos 0
unfolding joined sumℤ sum_overℤ sum_inner spread_of
slope_quiet = refl

pub slope_with_rim : spread_with_rim 12 12 slope slope_eighths ≡ pos 67737600
unfolding joined sumℤ
slope_with_rim = refl

-- measured, it is discarded by 6, before its noise is looked at: a tile has only a quarter of the slope's climb
pub slope_measured : Measures 12 12 slope (refused 6)
unfolding joined holds
slope_measured = get (holds 12 12 slope slope_eighths 6 0) tt

-- ---- a slope that is folded so that every tile has a dark and a bright column: its extremes pass
abbrev pub folded : List ℕ
folded = twelve (20 ∷ 125 ∷ 230 ∷ 230 ∷ 125 ∷ 20 ∷ 20 ∷ 125 ∷ 230 ∷ 230 ∷ 125 ∷ 20 ∷ [])

abbrev pub folded_eighths : List ℕ
folded_eighths = twelve (895 ∷ 1000 ∷ 1840 ∷ 1840 ∷ 1000 ∷ 160 ∷ 160 ∷ 1000 ∷ 1840 ∷ 1840 ∷ 1000 ∷ 895 ∷ [])

pub folded_filtered : pass_three 12 12 folded ≡ folded_eighths
unfolding joined three_holds
folded_filtered = get (three_holds (filter_row 12 12 folded folded_eighths)) tt

pub folded_quiet : spread_of 12 12 folded folded_eighths ≡ pos 0
unfolding joined sumℤ sum_overℤ sum_inner spread_of
folded_quiet = refl

pub folded_with_rim : spread_with_rim 12 12 folded folded_eighths ≡ pos 1555848000
unfolding joined sumℤ
folded_with_rim = refl

-- measured, it is discarded by 8, as a picture without noise is
pub folded_measured : Measures 12 12 folded (refused 8)
unfolding joined holds
folded_measured = get (holds 12 12 folded folded_eighths 8 0) tt

-- with the rim it was discarded by 9, at a ratio of 3.41: for noise that is not there
pub folded_was : (v : Verdict) → JudgeIs 144 (eighths 29440) (eighths 8440) 1555848000 v → v ≡ verdict 9 341
unfolding judge_holds
folded_was = get (judge_holds (judge_row 144 29440 8440 1555848000 9 341)) tt
