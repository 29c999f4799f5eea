-- Document 02, P1: what is held while rows come, and what one row more does. A row that is not there is [].
use Rattle.std.specs.Prelude.{List, [], ℕ, zero, suc}
use Rattle.arithmetic.specs.Lists.{joined}
use Rattle.filter.specs.Median.{row_of}

-- the last two rows of the levels or of a pass, one below the other
pub record Two : Type 0 where
  pub older : List ℕ
  pub newer : List ℕ

abbrev pub no_rows : Two
no_rows = record { older = []; newer = [] }

-- what a row r below them completes: the row of the next pass that is made from the newer one and the rows above and below it
unfoldable pub completed : Two → List ℕ → List ℕ
completed two r = row_of two.older two.newer r

-- the last two once r has come
unfoldable pub followed : Two → List ℕ → Two
followed two r = record { older = two.newer; newer = r }

-- "Only the rows still needed may be held, never the picture": the last two of the levels, of pass one and of pass two
pub record Held : Type 0 where
  pub levels : Two
  pub halves : Two
  pub quarters : Two

unfoldable pub nothing : Held
nothing = record { levels = no_rows; halves = no_rows; quarters = no_rows }

-- what a row r of levels completes: a row of pass one, with that a row of pass two, and with that a row of pass three, which so is
-- the row three above r ("with the call that brings the third row below it")
unfoldable pub pass_one_row : Held → List ℕ → List ℕ
pass_one_row held r = completed held.levels r

unfoldable pub pass_two_row : Held → List ℕ → List ℕ
pass_two_row held r = completed held.halves (pass_one_row held r)

unfoldable pub pass_three_row : Held → List ℕ → List ℕ
pass_three_row held r = completed held.quarters (pass_two_row held r)

-- what is held once r has come
unfoldable pub step : Held → List ℕ → Held
step held r = record {
  levels = followed held.levels r;
  halves = followed held.halves (pass_one_row held r);
  quarters = followed held.quarters (pass_two_row held r);
}

-- what is held once n rows f 0, f 1, .. have come, and the rows of pass three that they complete, one after the other
unfoldable pub after : Held → (ℕ → List ℕ) → ℕ → Held
after held f zero = held
after held f (suc n) = step (after held f n) (f n)

unfoldable pub given : Held → (ℕ → List ℕ) → ℕ → List ℕ
given held f n = joined n (λ i. pass_three_row (after held f i) (f i))

-- no row, again and again
unfoldable pub no_row : ℕ → List ℕ
no_row i = []
