-- Samples as one table, which antt computes: places where columns and rows are not alike; both ends of the range; the borders; and
-- the numbers 1 and 2. What document 01 marks stands in cases/specs/Cases.antt, and is tested by `holds`. Assumes nothing.
use mathlib.Core.Path.{◌≡◌, ap}
use mathlib.Core.Bool.{Bool, true, false}
use mathlib.Core.List.{List, [], ◌∷◌}
use mathlib.Core.Logic.Dec
use mathlib.Core.Option.{Option, none, some, map, get}
use Prim.Native.Nat.{ℕ, ◌*◌}
use native.Mathlib.Decide.{dec_le, ℕ_discrete}
use lib.Dec.{T}
use lib.ListN.{length}
use lib.IntN.{ℤ, pos, negsuc, neg_ℤ, ◌-ℤ◌}
use lib.Signed.{◌≤ℤ◌, le_z}
use Rattle.arithmetic.specs.Sums.{sumℤ}
use Rattle.arithmetic.proofs.Computed.{when, unless, EveryRow, every_row}
use Rattle.picture.specs.Picture.{Side}
use Rattle.units.specs.Units.{sixteenths}
use Rattle.sample.specs.Cubic.{weight, sample_of, pixel, Inside, sample_at, sampled, SampleIs, Sampled}
use Rattle.sample.proofs.Outcomes.{one_sample}

-- ---- a row of the table: a picture, a place, and what comes back
pub record Row : Type 0 where
  pub levels : List ℕ
  pub width : ℕ
  pub height : ℕ
  pub x : ℤ
  pub y : ℤ
  pub number : ℕ
  pub value : ℤ

abbrev pub row : List ℕ → ℕ → ℕ → ℤ → ℤ → ℕ → ℤ → Row
row l w h a b n v = record { levels = l; width = w; height = h; x = a; y = b; number = n; value = v }

-- ---- that the promise permits the row, as Cubic.antt says it
ordered : (a b : ℤ) → Dec (a ≤ℤ b)
ordered a b = go (le_z a b) (λ t. record { le = t }) (λ h. h.le)
  where
    go : {P : Type 0} (t : Bool) → (T t → P) → (P → T t) → Dec P
    go true f g = yes (f tt)
    go false f g = no g

same : (v u : ℤ) → Option (v ≡ u)
same (pos a) (pos b) = map (ap pos) (when (ℕ_discrete a b))
same (pos a) (negsuc b) = none
same (negsuc a) (pos b) = none
same (negsuc a) (negsuc b) = map (ap negsuc) (when (ℕ_discrete a b))

side : (n : ℕ) → Dec (Side n)
side n = Dec.and (dec_le 1 n) (dec_le n 1024)

inside : (n : ℕ) (i : ℤ) → Dec (Inside n i)
inside n i = Dec.and (ordered (pos 1) i) (ordered i (pos n -ℤ pos 3))

back : (n : ℕ) (v : ℤ) (k : ℕ) (u : ℤ) → Option (sampled n v ≡ sampled k u)
back n v k u = elim (when (ℕ_discrete n k)) [
  | some e ↦ map (λ f i. sampled (e i) (f i)) (same v u)
  | none ↦ none
]

permitted : (l : List ℕ) (w h : ℕ) (x y : ℤ) (n : ℕ) (v : ℤ) → Option (SampleIs l w h (sixteenths x) (sixteenths y) (sampled n v))
permitted l w h x y n v =
    unless (Dec.and (side w) (side h)) (back n v 1 (pos 0))
    (unless (ℕ_discrete (length l) (w * h)) (back n v 2 (pos 0))
    (unless (Dec.and (inside w (pixel (sixteenths x))) (inside h (pixel (sixteenths y)))) (back n v 13 (pos 0))
    (back n v 0 (sample_at l w (sixteenths x) (sixteenths y)))))

-- its place in its picture has the row's number and value, and no other
abbrev pub Holds : Row → Type 0
Holds r = (s : Sampled) → SampleIs r.levels r.width r.height (sixteenths r.x) (sixteenths r.y) s → s ≡ sampled r.number r.value

unfoldable pub holds : (r : Row) → Option (Holds r)
unfolding dec_le ℕ_discrete Dec.and when unless ordered same side inside back permitted sample_of sumℤ weight
holds r =
    map (λ p s is. one_sample r.levels r.width r.height (sixteenths r.x) (sixteenths r.y) s (sampled r.number r.value) is p)
    (permitted r.levels r.width r.height r.x r.y r.number r.value)

-- ---- the pictures
-- five columns and four rows, where no exchange of the two leaves anything alone
abbrev pub odd : List ℕ
odd =
    9 ∷ 40 ∷ 7 ∷ 200 ∷ 3 ∷
    120 ∷ 60 ∷ 90 ∷ 255 ∷ 0 ∷
    30 ∷ 10 ∷ 80 ∷ 5 ∷ 250 ∷
    100 ∷ 17 ∷ 44 ∷ 99 ∷ 1 ∷ []

-- where both remainders are 8: bright where the product of the two weights is positive; and the other way round
abbrev pub brightest : List ℕ
brightest =
    255 ∷ 0 ∷ 0 ∷ 255 ∷
    0 ∷ 255 ∷ 255 ∷ 0 ∷
    0 ∷ 255 ∷ 255 ∷ 0 ∷
    255 ∷ 0 ∷ 0 ∷ 255 ∷ []

abbrev pub darkest : List ℕ
darkest =
    0 ∷ 255 ∷ 255 ∷ 0 ∷
    255 ∷ 0 ∷ 0 ∷ 255 ∷
    255 ∷ 0 ∷ 0 ∷ 255 ∷
    0 ∷ 255 ∷ 255 ∷ 0 ∷ []

-- Picture, width, height, x and y, then the number and the value. Two remainders, and the two exchanged; a pixel's own level, 90;
-- both ends of the range; the last place that has a sample; a place past each of the four borders, and farther; a side of 0; and too
-- few levels, which comes before 13
abbrev pub table : List Row
table =
    row odd 5 4 (pos 43) (pos 19) 0 (pos 13569783279)
    ∷ row odd 5 4 (pos 35) (pos 27) 0 (pos 5867775855)
    ∷ row odd 5 4 (pos 32) (pos 16) 0 (pos 6039797760)
    ∷ row brightest 4 4 (pos 24) (pos 24) 0 (pos 21925724160)
    ∷ row darkest 4 4 (pos 24) (pos 24) 0 (neg_ℤ (pos 4812963840))
    ∷ row odd 5 4 (pos 47) (pos 31) 0 (pos 533960175)
    ∷ row odd 5 4 (pos 48) (pos 31) 13 (pos 0)
    ∷ row odd 5 4 (pos 47) (pos 32) 13 (pos 0)
    ∷ row odd 5 4 (pos 15) (pos 16) 13 (pos 0)
    ∷ row odd 5 4 (pos 16) (pos 15) 13 (pos 0)
    ∷ row odd 5 4 (neg_ℤ (pos 1)) (pos 16) 13 (pos 0)
    ∷ row odd 5 4 (pos 9223372036854775807) (neg_ℤ (pos 9223372036854775808)) 13 (pos 0)
    ∷ row odd 5 0 (pos 43) (pos 19) 1 (pos 0)
    ∷ row odd 5 5 (pos 48) (pos 19) 2 (pos 0)
    ∷ []

pub worked : EveryRow Holds table
unfolding holds every_row
worked = get (every_row Holds holds table) tt
