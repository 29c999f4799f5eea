-- Document 02, P1: what rows and the end answer and leave, for every memory and everything lent.
use Rattle.std.specs.Prelude.{◌≡◌, List, ◌++◌, ℕ, ◌+◌, ◌-◌, ◌*◌, ◌/◌, ◌%◌, ◌≤◌, min, length, drop}
use Rattle.answers.specs.Refusals.{Unless}
use Rattle.memory.specs.Memory.{width_of, height_of, came_of, rows_of, memory, zeros, row_at, Begun}
use Rattle.scan.specs.Held.{given, no_row}
use Rattle.scan.specs.Ring.{held_in, later}

-- what a call answers and leaves: the number, how many rows it gave out, the memory and the output
pub record Scanned : Type 0 where
  pub number : ℕ
  pub rows : ℕ
  pub held : List ℕ
  pub output : List ℕ

abbrev pub scanned : ℕ → ℕ → List ℕ → List ℕ → Scanned
scanned n rows held output = record { number = n; rows = rows; held = held; output = output }

-- "output past the rows given out never changes": rows at the front of an output
abbrev pub at_front : List ℕ → List ℕ → List ℕ
at_front rows output = rows ++ drop (length rows) output

-- "A third-pass row comes out with the call that brings the third row below it": how many are due from n rows, where k came before
abbrev pub due : ℕ → ℕ → ℕ
due k n = k + n - 3 - (k - 3)

-- the rows given out for the rows of levels that come, and what is held then
unfoldable pub rows_given : List ℕ → List ℕ → List ℕ
rows_given held levels =
    given (held_in (width_of held) (height_of held) (came_of held) (rows_of held)) (row_at (width_of held) levels) (length levels / width_of held)

unfoldable pub rows_held : List ℕ → List ℕ → List ℕ
rows_held held levels =
    memory (width_of held) (height_of held) (came_of held + length levels / width_of held)
    (later (width_of held) (height_of held) (came_of held) (rows_of held) (row_at (width_of held) levels) (length levels / width_of held))
    (drop 6_147 held)

-- "Refusals: 1, also before a good start, then 20 for a number of levels that is no whole number of rows, 21 for rows beyond the
-- height, .. then 3 where the output is shorter than the rows due from this call." "A refused call changes nothing held."
-- (height − came is 0 where more rows count as come, as after the end.)
abbrev pub RowsIs : List ℕ → List ℕ → List ℕ → Scanned → Type 0
RowsIs held levels output r =
    Unless (Begun held) (r ≡ scanned 1 0 held output)
    (Unless (length levels % width_of held ≡ 0) (r ≡ scanned 20 0 held output)
    (Unless (length levels / width_of held ≤ height_of held - came_of held) (r ≡ scanned 21 0 held output)
    (Unless (due (came_of held) (length levels / width_of held) * width_of held ≤ length output) (r ≡ scanned 3 0 held output)
    (r ≡ scanned 0 (due (came_of held) (length levels / width_of held)) (rows_held held levels)
    (at_front (rows_given held levels) output)))))

-- "the rest with the end": what three rows more complete that are not there
unfoldable pub end_given : List ℕ → List ℕ
end_given held = given (held_in (width_of held) (height_of held) (came_of held) (rows_of held)) no_row 3

-- "Refusals: 1, also before a good start, .. 22 for an end before the last row or a second end, then 3". Once the end was given,
-- three rows more than the height count as come, and none is held.
abbrev pub EndIs : List ℕ → List ℕ → Scanned → Type 0
EndIs held output r =
    Unless (Begun held) (r ≡ scanned 1 0 held output)
    (Unless (came_of held ≡ height_of held) (r ≡ scanned 22 0 held output)
    (Unless (min 3 (height_of held) * width_of held ≤ length output) (r ≡ scanned 3 0 held output)
    (r ≡ scanned 0 (min 3 (height_of held))
    (memory (width_of held) (height_of held) (height_of held + 3) (zeros 6_144) (drop 6_147 held))
    (at_front (end_given held) output))))
