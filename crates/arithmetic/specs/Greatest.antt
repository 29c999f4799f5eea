-- The greatest of a kind ("the greatest whole q with .."), the least ("the least k for which .."), and the interval that halving
-- narrows.
use Rattle.std.specs.Prelude.{ℕ, ◌<◌, ◌≤◌}

-- q has the property, and no number that has it is greater
pub record Greatest (P : ℕ → Type 0) (q : ℕ) : Type 0 where
  pub holds : P q
  pub most : (k : ℕ) → P k → k ≤ q

-- q has the property, and no number that has it is less
pub record Least (P : ℕ → Type 0) (q : ℕ) : Type 0 where
  pub holds : P q
  pub least : (k : ℕ) → P k → q ≤ k

-- lo has the property, and every number that has it is below hi
pub record Between (P : ℕ → Type 0) (lo hi : ℕ) : Type 0 where
  pub low : P lo
  pub high : (k : ℕ) → P k → k < hi
