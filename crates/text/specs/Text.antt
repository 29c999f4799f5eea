-- Numbers as text in a block of bytes: in decimal, with a minus sign before negative ones.
use Rattle.std.specs.Prelude.{◌≡◌, ℕ, suc, ◌+◌, ◌≤◌, List, [], ◌∷◌, ◌++◌, length, ℤ, pos, negsuc}
use Rattle.io.specs.Digits.{last_digits, IsDigitCount}
use Rattle.arithmetic.specs.Lists.{over}
use Rattle.answers.specs.Refusals.{Unless}

-- a number in decimal: its digits, the most significant first, and no more of them than hold it
pub record Spelled (n : ℕ) (text : List ℕ) : Type 0 where
  pub fewest : IsDigitCount 10 1 n (length text)
  pub digits_are : text ≡ last_digits 10 (length text) n

-- a signed number: of a negative one a minus sign, which is byte 45, and how far it is below 0
abbrev pub SpelledSigned : ℤ → List ℕ → Type 0
SpelledSigned (pos n) text = Spelled n text
SpelledSigned (negsuc n) text = (rest : List ℕ) × ((text ≡ 45 ∷ rest) × Spelled (suc n) rest)

-- what putting a text into a block leaves: where it ends, and the bytes of the block
pub record Block : Type 0 where
  pub end : ℕ
  pub bytes : List ℕ

abbrev pub block : ℕ → List ℕ → Block
block end bytes = record { end = end; bytes = bytes }

-- a text that says what it should, and one byte after it, written over what the block had from a place on, and all in the block
pub record Put (Says : List ℕ → Type 0) (before : List ℕ) (at after : ℕ) (r : Block) : Type 0 where
  pub text : List ℕ
  pub says : Says text
  pub inside : r.end ≤ length before
  pub put : r ≡ block (at + length text + 1) (over before at (text ++ (after ∷ [])))

-- nothing is put unless 22 bytes are left: a sign, 20 digits, which no number of 64 bits outgrows, and the byte after them
abbrev pub PutIs : (List ℕ → Type 0) → List ℕ → ℕ → ℕ → Block → Type 0
PutIs Says before at after r = Unless (at + 22 ≤ length before) (r ≡ block at before) (Put Says before at after r)
