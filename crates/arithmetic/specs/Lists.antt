-- Lists made of several, lists written over others, and lists of small numbers.
use Rattle.std.specs.Prelude.{List, [], ◌∷◌, ◌++◌, ℕ, zero, suc, ◌+◌, ◌≤◌, length, get_or, take, drop}

-- f 0, f 1, .. f (n − 1), joined
unfoldable pub joined : ℕ → (ℕ → List ℕ) → List ℕ
joined zero f = []
joined (suc n) f = joined n f ++ f n

-- the list of f 0, f 1, .. f (n − 1)
abbrev pub listed : ℕ → (ℕ → ℕ) → List ℕ
listed n f = joined n (λ i. f i ∷ [])

-- a list with another written over what it had from a place on
abbrev pub over : List ℕ → ℕ → List ℕ → List ℕ
over l at m = take at l ++ m ++ drop (at + length m) l

-- every element of a list is at most b (what lies past its end reads as 0)
abbrev pub AtMost : ℕ → List ℕ → Type 0
AtMost b l = (k : ℕ) → get_or l k 0 ≤ b
