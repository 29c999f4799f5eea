-- What the functions inside the crate promise each other. No public promise cites this.
use Rattle.std.specs.Prelude.{Bool, true, false, ◌≡◌, ℕ, ◌+◌, ◌≤◌, List, ◌∷◌, length}
use Rattle.arithmetic.specs.Lists.{over}
use Rattle.text.specs.Text.{Spelled, Block, block}

-- a number in decimal, of a negative one after a minus sign, which is byte 45
abbrev pub WithSign : Bool → ℕ → List ℕ → Type 0
WithSign false n text = Spelled n text
WithSign true n text = (rest : List ℕ) × ((text ≡ 45 ∷ rest) × Spelled n rest)

-- a text that says what it should, of at most so many bytes
pub record Digits (Says : List ℕ → Type 0) (most : ℕ) (before : List ℕ) (at : ℕ) (r : Block) : Type 0 where
  pub text : List ℕ
  pub says : Says text
  pub short : length text ≤ most
  pub put : r ≡ block (at + length text) (over before at text)
