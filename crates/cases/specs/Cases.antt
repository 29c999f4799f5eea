-- What a student can work by hand (document 01): "Proved as one table, those marked *; the rest are run." The table follows the
-- document, whose sentence stands above its rows. A row says: for what the call is given, whatever its promise permits is this answer.
--
--   filter width height levels gives eighths        with number 0, and with any buffers that are long enough
--   first_pass width height levels gives halves
--   judge N M m D gives verdict number q
--   two_means counts start after-each-round gives answered number rounds T
--   level rests_in counts                           counts are pairs of a level and how many pixels have it
--   sample width height levels x y gives sampled number value        x and y are `coordinate i k`: pixel i, remainder k
--   length s p gives sharpness number length
--
-- Rows.antt says the same in antt; that every row holds is `worked` (proofs/Worked.antt); src/main.rt runs the rest.
use Rattle.std.specs.Prelude.{List, [], ◌∷◌, ℕ, pos}
use Rattle.arithmetic.specs.Fractions.{fraction}
use Rattle.judge.specs.Judge.{verdict}
use Rattle.threshold.specs.TwoMeans.{answered}
use Rattle.sample.specs.Cubic.{sampled}
use Rattle.length.specs.Length.{sharpness}
use Rattle.cases.specs.Rows.{Case, ◌gives◌, ◌rests_in◌, filter, first_pass, judge, two_means, sample, length, coordinate}

-- "one each at 100, 128, 156"
abbrev pub three_levels : List (ℕ × ℕ)
three_levels = (100, 1) ∷ (128, 1) ∷ (156, 1) ∷ []

-- "Four columns 0 0 255 255, four rows"
abbrev pub four_columns : List ℕ
four_columns =
    0 ∷ 0 ∷ 255 ∷ 255 ∷
    0 ∷ 0 ∷ 255 ∷ 255 ∷
    0 ∷ 0 ∷ 255 ∷ 255 ∷
    0 ∷ 0 ∷ 255 ∷ 255 ∷ []

abbrev pub table : List Case
table =
    -- "* 1×1, level 7: 56 eighths. * 1×2, 0 1: 4 4. * 1×3, 0 0 9: 0 0 9. * 2×2, 1 2 3 4: all 20."
    filter 1 1 (7 ∷ []) gives (56 ∷ [])
    ∷ filter 1 2 (0 ∷ 1 ∷ []) gives (4 ∷ 4 ∷ [])
    ∷ filter 1 3 (0 ∷ 0 ∷ 9 ∷ []) gives (0 ∷ 0 ∷ 9 ∷ [])
    ∷ filter 2 2 (1 ∷ 2 ∷ 3 ∷ 4 ∷ []) gives (20 ∷ 20 ∷ 20 ∷ 20 ∷ [])
    -- "* 3×3, 1 to 9, first pass in halves: 6 7 8, 9 10 11, 12 13 14."
    ∷ first_pass 3 3 (1 ∷ 2 ∷ 3 ∷ 4 ∷ 5 ∷ 6 ∷ 7 ∷ 8 ∷ 9 ∷ []) gives (6 ∷ 7 ∷ 8 ∷ 9 ∷ 10 ∷ 11 ∷ 12 ∷ 13 ∷ 14 ∷ [])
    -- "Judge with N = 256, M = 25,600: * m = 6,400, D = 419,430,400 gives 0 and 1,362; * D = 943,718,400 gives 9 and 862;
    -- * m = 7,392, D = 655,360,000 gives 0 and 1,000"
    ∷ judge 256 25_600 6_400 419_430_400 gives verdict 0 1_362
    ∷ judge 256 25_600 6_400 943_718_400 gives verdict 9 862
    ∷ judge 256 25_600 7_392 655_360_000 gives verdict 0 1_000
    -- "Threshold: * one pixel each at 0 and 255: 255/2, 1 round. * three at 10, one at 20: 90/6, 2 rounds. * one each at 100, 128,
    -- 156: 1024/8, 0 rounds, though 121 and 135 rest too."
    ∷ two_means ((0, 1) ∷ (255, 1) ∷ []) 128 (fraction 255 2 ∷ []) gives answered 0 1 (fraction 255 2)
    ∷ two_means ((10, 3) ∷ (20, 1) ∷ []) 20 (fraction 130 8 ∷ fraction 90 6 ∷ []) gives answered 0 2 (fraction 90 6)
    ∷ two_means three_levels 128 [] gives answered 0 0 (fraction 1024 8)
    ∷ 121 rests_in three_levels
    ∷ 135 rests_in three_levels
    -- "* Four columns 0 0 255 255, four rows, both remainders 8: 8,556,380,160 (127.5 levels) at i = j = 1."
    ∷ sample 4 4 four_columns (coordinate 1 8) (coordinate 1 8) gives sampled 0 (pos 8_556_380_160)
    -- "* s = 32, p = 800: 1,131."
    ∷ length 32 800 gives sharpness 0 1_131
    ∷ []
