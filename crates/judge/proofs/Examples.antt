-- The judge as one table, which antt computes, with the ends of its ranges; two small filtered pictures, cut into tiles; and which pixels
-- of two small pictures count. What document 01 marks stands in cases/specs/Cases.antt, and is tested by `holds`. Assumes nothing.
use mathlib.Core.Path.{◌≡◌, refl}
use mathlib.Core.Bool.{cond}
use mathlib.Core.List.{List, [], ◌∷◌}
use mathlib.Core.Logic.Dec
use mathlib.Core.Logic.{inl}
use mathlib.Core.Option.{Option, none, map, get}
use Prim.Native.Nat.{ℕ, ◌+◌, ◌-◌, ◌*◌, ◌^◌}
use native.Mathlib.Nat.{not-le_of_lt}
use native.Mathlib.Decide.{dec_le, dec_lt, ℕ_discrete}
use Rattle.arithmetic.specs.Lists.{joined}
use Rattle.arithmetic.specs.Sums.{sum}
use Rattle.arithmetic.proofs.Greatest.{by_neighbours}
use Rattle.arithmetic.proofs.Computed.{when, unless, EveryRow, every_row}
use Rattle.units.specs.Units.{eighths}
use Rattle.judge.specs.Extremes.{maximum, minimum, tile, over_tiles}
use Rattle.judge.specs.Noise.{counts}
use Rattle.judge.specs.Judge.{Verdict, InRange, Rated, verdict, refused, JudgeIs}
use Rattle.judge.proofs.Ratios.{reaches_falls}
use Rattle.judge.proofs.Outcomes.{one_judge}

-- ---- a row of the table: what the judge is given, and what comes back
pub record Row : Type 0 where
  pub count : ℕ
  pub bright : ℕ
  pub dark : ℕ
  pub spread : ℕ
  pub number : ℕ
  pub ratio : ℕ

abbrev pub row : ℕ → ℕ → ℕ → ℕ → ℕ → ℕ → Row
row N M m D n q = record { count = N; bright = M; dark = m; spread = D; number = n; ratio = q }

-- that the judge's promise permits the row, as Judge.antt says it
module _ (N M m D n q : ℕ) where
  in_range : Dec (InRange N (eighths M) (eighths m) D)
  in_range = elim (Dec.and (dec_le 1 N) (Dec.and (dec_le N 1048576) (Dec.and (dec_le M 32640) (Dec.and (dec_le m 32640) (dec_le D (2 ^ 62)))))) [
    | yes p ↦ yes (record { count_low = p.0; count_high = p.1.0; bright_high = p.1.1.0; dark_high = p.1.1.1.0; spread_high = p.1.1.1.1 })
    | no f ↦ no (λ r. f (r.count_low, (r.count_high, (r.bright_high, (r.dark_high, r.spread_high)))))
  ]

  back : (k : ℕ) → Option (verdict n q ≡ refused k)
  back k = map (λ p i. verdict (p.0 i) (p.1 i)) (when (Dec.and (ℕ_discrete n k) (ℕ_discrete q 0)))

  abbrev left : ℕ → ℕ
  left k = (k + 138) * (k + 138) * 256 * D

  abbrev right : ℕ
  right = 10000 * ((M - m) * (M - m)) * (N * N)

  rated : Option (Rated N (eighths M) (eighths m) D (verdict n q))
  rated = elim (Dec.and (dec_le (left q) right) (dec_lt right (left (q + 1)))) [
    | yes p ↦
        map (λ number. record { ratio = inl (by_neighbours (reaches_falls N (M - m) D) p.0 (not-le_of_lt p.1)); number = number })
        (unless (dec_le 1000 q) (when (ℕ_discrete n 9)) (when (ℕ_discrete n 0)))
    | no f ↦ none
  ]

  permitted : Option (JudgeIs N (eighths M) (eighths m) D (verdict n q))
  permitted =
      unless in_range (back 15)
      (unless (Dec.and (dec_le 21760 M) (dec_le M 31360)) (back 6)
      (unless (Dec.and (dec_le 1280 m) (dec_le m 10240)) (back 7)
      (unless (Dec.not (ℕ_discrete D 0)) (back 8)
      rated)))

-- what a row gives to the judge has the row's verdict, and no other
abbrev pub Holds : Row → Type 0
Holds r = (v : Verdict) → JudgeIs r.count (eighths r.bright) (eighths r.dark) r.spread v → v ≡ verdict r.number r.ratio

unfoldable pub holds : (r : Row) → Option (Holds r)
unfolding dec_le dec_lt ℕ_discrete Dec.and Dec.not when unless in_range back rated permitted
holds r =
    map (λ p v is. one_judge r.count (eighths r.bright) (eighths r.dark) r.spread v (verdict r.number r.ratio) is p)
    (permitted r.count r.bright r.dark r.spread r.number r.ratio)

-- N, M, m and D, then the number and q: the greatest q that is discarded; one that comes out otherwise where products wrap at 64
-- bits; both ends of the range of M, and of that of m, each with the number past it; no noise; and 15, which comes before 6
abbrev pub table : List Row
table =
    row 256 25600 7392 655360001 9 999
    ∷ row 65536 25600 6400 35184372088832 0 1187
    ∷ row 256 21759 6400 419430400 6 0
    ∷ row 256 21760 6400 419430400 0 1062
    ∷ row 256 31360 6400 419430400 0 1812
    ∷ row 256 31361 6400 419430400 6 0
    ∷ row 256 25600 1279 419430400 7 0
    ∷ row 256 25600 1280 419430400 0 1762
    ∷ row 256 25600 10240 419430400 0 1062
    ∷ row 256 25600 10241 419430400 7 0
    ∷ row 256 25600 6400 0 8 0
    ∷ row 256 32641 6400 419430400 15 0
    ∷ []

pub worked : EveryRow Holds table
unfolding holds every_row
worked = get (every_row Holds holds table) tt

-- ---- tiles: 1 to 32, row by row, as a picture 8 wide and 4 high, and as one 4 wide and 8 high
abbrev pub values : List ℕ
values =
    1 ∷ 2 ∷ 3 ∷ 4 ∷ 5 ∷ 6 ∷ 7 ∷ 8 ∷ 9 ∷ 10 ∷ 11 ∷ 12 ∷ 13 ∷ 14 ∷ 15 ∷ 16 ∷
    17 ∷ 18 ∷ 19 ∷ 20 ∷ 21 ∷ 22 ∷ 23 ∷ 24 ∷ 25 ∷ 26 ∷ 27 ∷ 28 ∷ 29 ∷ 30 ∷ 31 ∷ 32 ∷ []

pub tiles : (over_tiles maximum 8 4 values ≡ 272) × (over_tiles minimum 8 4 values ≡ 256) × (over_tiles maximum 4 8 values ≡ 296) × (over_tiles minimum 4 8 values ≡ 232)
unfolding joined sum maximum minimum tile over_tiles
tiles = (refl, refl, refl, refl)

-- ---- the places that count, of a picture 9 wide and 8 high, and of one 8 wide and 9 high
abbrev pub places_that_count : ℕ → ℕ → List ℕ
places_that_count w h = joined (w * h) (λ k. cond (counts w h k) (k ∷ []) [])

pub counting : (places_that_count 9 8 ≡ 30 ∷ 31 ∷ 32 ∷ 39 ∷ 40 ∷ 41 ∷ []) × (places_that_count 8 9 ≡ 27 ∷ 28 ∷ 35 ∷ 36 ∷ 43 ∷ 44 ∷ [])
unfolding joined
counting = (refl, refl)
