-- The least length and the greatest as one table, which antt computes. What document 01 marks stands in cases/specs/Cases.antt,
-- and is tested by `holds`. Assumes nothing.
use mathlib.Core.Path.{◌≡◌}
use mathlib.Core.List.{List, [], ◌∷◌}
use mathlib.Core.Logic.Dec
use mathlib.Core.Option.{Option, map, get}
use Prim.Native.Nat.{ℕ, ◌+◌, ◌*◌, ◌<◌, ◌≤◌}
use native.Mathlib.Nat.{not-le_of_lt}
use native.Mathlib.Decide.{dec_le, dec_lt, ℕ_discrete}
use lib.IntN.{pos}
use Rattle.arithmetic.proofs.Greatest.{by_neighbours}
use Rattle.arithmetic.proofs.Computed.{when, EveryRow, every_row}
use Rattle.units.specs.Units.{sixteenths, picometres}
use Rattle.length.specs.Length.{Sharpness, sharpness, LengthIs}
use Rattle.length.proofs.Laws.{falling, Ranged, is_the_length}
use Rattle.length.proofs.Outcomes.{one_length}

-- ---- a row of the table: a factor and a pixel size, and what comes back
pub record Row : Type 0 where
  pub factor : ℕ
  pub pixel : ℕ
  pub number : ℕ
  pub length : ℕ

abbrev pub row : ℕ → ℕ → ℕ → ℕ → Row
row f p n q = record { factor = f; pixel = p; number = n; length = q }

-- the number and the length, and no other
abbrev pub Holds : Row → Type 0
Holds r = (s : Sharpness) → LengthIs (sixteenths (pos r.factor)) (picometres r.pixel) s → s ≡ sharpness r.number r.length

-- ---- and the test
module _ (f p n q : ℕ) where
  -- f and p are in range; the number is 0; 512·q² is at most (p·f)², and 512·(q+1)² is more
  abbrev pub Tests : Type 0
  Tests =
      ((1 ≤ f) × ((f ≤ 16384) × ((1 ≤ p) × (p ≤ 100000))))
      × ((n ≡ 0) × ((512 * (q * q) ≤ p * f * (p * f)) × (p * f * (p * f) < 512 * ((q + 1) * (q + 1)))))

  pub only : Tests → Holds (row f p n q)
  only t s is = one_length (sixteenths (pos f)) (picometres p) s (sharpness n q) is permitted
    where
      ranged : Ranged f p
      ranged = record { factor_low = t.0.0; factor_high = t.0.1.0; pixel_low = t.0.1.1.0; pixel_high = t.0.1.1.1 }

      permitted : LengthIs (sixteenths (pos f)) (picometres p) (sharpness n q)
      permitted =
          is_the_length (sixteenths (pos f)) (picometres p) ranged (sharpness n q) t.1.0
          (by_neighbours (falling (p * f * (p * f))) t.1.1.0 (not-le_of_lt t.1.1.1))

  tests : Dec Tests
  tests =
      Dec.and
      (Dec.and (dec_le 1 f) (Dec.and (dec_le f 16384) (Dec.and (dec_le 1 p) (dec_le p 100000))))
      (Dec.and (ℕ_discrete n 0) (Dec.and (dec_le _ _) (dec_lt _ _)))

unfoldable pub holds : (r : Row) → Option (Holds r)
unfolding dec_le dec_lt ℕ_discrete Dec.and when tests
holds r =
    map (only r.factor r.pixel r.number r.length)
    (when (tests r.factor r.pixel r.number r.length))

-- factor and pixel size, then the number and the length
abbrev pub table : List Row
table =
    row 1 1 0 0
    ∷ row 16384 100000 0 72407734
    ∷ []

pub worked : EveryRow Holds table
unfolding holds every_row
worked = get (every_row Holds holds table) tt
