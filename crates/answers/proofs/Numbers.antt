-- Laws of the table's numbers: each is of one refusal, and none is 0. Assumes nothing.
use Rattle.std.specs.Prelude.{Result, Ok, Err}
use mathlib.Core.Path.{◌≡◌, refl, sym, ap, ◌∙◌}
use mathlib.Core.List.{List, [], ◌∷◌}
use Prim.Native.Nat.{ℕ, ◌-◌}
use native.Mathlib.Omega.{arith}
use lib.ListN.{get_or}
use Rattle.answers.specs.declared.Refusal.{Refusal}
use Rattle.answers.specs.declared.Refusal.TheVariants.{SideOutOfRange, WrongLevels, ShortOutput, ShortWork, SideNotByFour}
use Rattle.answers.specs.declared.Refusal.TheVariants.{BrightOutOfRange, DarkOutOfRange, NoNoise, LowRatio, WrongHistogram}
use Rattle.answers.specs.declared.Refusal.TheVariants.{EmptyHistogram, LargeTotal, PlaceOutside, FactorOrPixelOutOfRange}
use Rattle.answers.specs.declared.Refusal.TheVariants.{InputOutOfRange, UnknownKind, ShortBody, LongInput, PartOfARow}
use Rattle.answers.specs.declared.Refusal.TheVariants.{RowsBeyond, NotTheEnd}
use Rattle.answers.specs.Numbers.{number_of, told}

-- the refusal of a number, and some refusal for a number that no refusal has
refusal_of : ℕ → Refusal
refusal_of n = get_or table (n - 1) SideOutOfRange
  where
    table : List Refusal
    table =
        SideOutOfRange ∷
        WrongLevels ∷
        ShortOutput ∷
        ShortWork ∷
        SideNotByFour ∷
        BrightOutOfRange ∷
        DarkOutOfRange ∷
        NoNoise ∷
        LowRatio ∷
        WrongHistogram ∷
        EmptyHistogram ∷
        LargeTotal ∷
        PlaceOutside ∷
        FactorOrPixelOutOfRange ∷
        InputOutOfRange ∷
        UnknownKind ∷
        ShortBody ∷
        LongInput ∷
        SideOutOfRange ∷  -- no refusal has 19
        PartOfARow ∷
        RowsBeyond ∷
        NotTheEnd ∷
        []

from_its_number : (r : Refusal) → refusal_of (number_of r) ≡ r
unfolding refusal_of
from_its_number SideOutOfRange = refl
from_its_number WrongLevels = refl
from_its_number ShortOutput = refl
from_its_number ShortWork = refl
from_its_number SideNotByFour = refl
from_its_number BrightOutOfRange = refl
from_its_number DarkOutOfRange = refl
from_its_number NoNoise = refl
from_its_number LowRatio = refl
from_its_number WrongHistogram = refl
from_its_number EmptyHistogram = refl
from_its_number LargeTotal = refl
from_its_number PlaceOutside = refl
from_its_number FactorOrPixelOutOfRange = refl
from_its_number InputOutOfRange = refl
from_its_number UnknownKind = refl
from_its_number ShortBody = refl
from_its_number LongInput = refl
from_its_number PartOfARow = refl
from_its_number RowsBeyond = refl
from_its_number NotTheEnd = refl

-- two refusals with one number are one
pub one_refusal : (r r' : Refusal) → number_of r ≡ number_of r' → r ≡ r'
one_refusal r r' same = sym (from_its_number r) ∙ ap refusal_of same ∙ from_its_number r'

-- no refusal has the number of what is done
pub some_number : (r : Refusal) → number_of r ≡ 0 → ⊥
some_number SideOutOfRange zero = omega arith
some_number WrongLevels zero = omega arith
some_number ShortOutput zero = omega arith
some_number ShortWork zero = omega arith
some_number SideNotByFour zero = omega arith
some_number BrightOutOfRange zero = omega arith
some_number DarkOutOfRange zero = omega arith
some_number NoNoise zero = omega arith
some_number LowRatio zero = omega arith
some_number WrongHistogram zero = omega arith
some_number EmptyHistogram zero = omega arith
some_number LargeTotal zero = omega arith
some_number PlaceOutside zero = omega arith
some_number FactorOrPixelOutOfRange zero = omega arith
some_number InputOutOfRange zero = omega arith
some_number UnknownKind zero = omega arith
some_number ShortBody zero = omega arith
some_number LongInput zero = omega arith
some_number PartOfARow zero = omega arith
some_number RowsBeyond zero = omega arith
some_number NotTheEnd zero = omega arith

-- two answers that tell one number, and have the same value where both are done, are one
pub one_answer : {A : Type 0} (a a' : Result A Refusal) → told a ≡ told a' → ((x x' : A) → a ≡ Ok x → a' ≡ Ok x' → x ≡ x') → a ≡ a'
one_answer (Ok x) (Ok x') same values = ap Ok (values x x' refl refl)
one_answer (Ok x) (Err r') same values = absurd (some_number r' (sym same))
one_answer (Err r) (Ok x') same values = absurd (some_number r same)
one_answer (Err r) (Err r') same values = ap Err (one_refusal r r' same)
