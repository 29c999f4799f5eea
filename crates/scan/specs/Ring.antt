-- Document 02, P1: the six rows of a scan's memory, of which two are of the levels, two of pass one and two of pass two, as a ring: row k
-- takes the first place of its two where k is even, and the second where it is odd. So it takes that of the older one, and no other is
-- moved.
use Rattle.std.specs.Prelude.{cond, List, [], ◌++◌, ℕ, zero, suc, ◌+◌, ◌-◌, ◌*◌, ◌%◌, leb, ltb, drop}
use Rattle.arithmetic.specs.Lists.{over}
use Rattle.memory.specs.Memory.{row_at, two_of}
use Rattle.scan.specs.Held.{Two, Held, pass_one_row, pass_two_row}

-- ---- what they hold once k rows came
-- a row, if row k − late is one of the picture's h; above the first and below the last there is none
unfoldable pub shown : ℕ → ℕ → ℕ → List ℕ → List ℕ
shown h k late row = cond (leb late k) (cond (ltb (k - late) h) row []) []

-- two rows of which the newer one is row k − late, and the older one the row above it
unfoldable pub last_two : ℕ → ℕ → ℕ → ℕ → List ℕ → Two
last_two w h k late two = record {
  older = shown h k (late + 1) (row_at w two (k % 2));
  newer = shown h k late (row_at w two ((k + 1) % 2));
}

-- a pass is one row behind the one before it: the last row that came is k − 1, and the last that pass two has is k − 3
unfoldable pub held_in : ℕ → ℕ → ℕ → List ℕ → Held
held_in w h k rows = record {
  levels = last_two w h k 1 (two_of w rows 0);
  halves = last_two w h k 2 (two_of w rows 1);
  quarters = last_two w h k 3 (two_of w rows 2);
}

-- ---- what one row more does
-- r in the place of the older of two rows
unfoldable pub replaced : ℕ → ℕ → List ℕ → List ℕ → List ℕ
replaced w k two r = over two (k % 2 * w) r

-- the six rows, and what lies past them, once r has come, which is row k
unfoldable pub next : ℕ → ℕ → ℕ → List ℕ → List ℕ → List ℕ
next w h k rows r =
    replaced w k (two_of w rows 0) r
    ++ replaced w k (two_of w rows 1) (pass_one_row (held_in w h k rows) r)
    ++ replaced w k (two_of w rows 2) (pass_two_row (held_in w h k rows) r)
    ++ drop (6 * w) rows

-- and once n rows f 0, f 1, .. have come after k
unfoldable pub later : ℕ → ℕ → ℕ → List ℕ → (ℕ → List ℕ) → ℕ → List ℕ
later w h k rows f zero = rows
later w h k rows f (suc n) = next w h (k + n) (later w h k rows f n) (f n)
