-- Document 02, P1: any list of calls on one memory, and what they tell together.
use Rattle.std.specs.Prelude.{◌≡◌, Bool, true, false, cond, List, [], ◌∷◌, ◌++◌, ℕ, ◌*◌, eqb, take}
use Rattle.arithmetic.specs.Lists.{AtMost}
use Rattle.memory.specs.Memory.{StartIs}
use Rattle.scan.specs.Scan.{Scanned, RowsIs, EndIs}

-- ---- any list of calls
-- a call, with what it is given: width and height, levels and an output, an output
pub data Call : Type 0 where
  start_call : ℕ → ℕ → Call
  rows_call : List ℕ → List ℕ → Call
  end_call : List ℕ → Call

-- what a call on a memory may answer and leave, as promised; levels have 8 bits, and a start has neither rows nor an output
abbrev pub CallIs : List ℕ → Call → Scanned → Type 0
CallIs held (start_call w h) r = StartIs held w h r.number r.held × (r.rows ≡ 0) × (r.output ≡ [])
CallIs held (rows_call levels output) r = AtMost 255 levels × RowsIs held levels output r
CallIs held (end_call output) r = EndIs held output r

-- a call that was made, and what it answered and left
pub record Made : Type 0 where
  pub call : Call
  pub left : Scanned

-- calls made one after the other, the first on this memory, each on what the one before it left
abbrev pub Calls : List ℕ → List Made → Type 0
Calls held [] = Unit {0}
Calls held (m ∷ ms) = CallIs held m.call m.left × Calls m.left.held ms

-- ---- what they tell
-- before a good start nothing; since the last one, its sides, the levels taken together, the rows given out together, and whether the
-- end was given
pub data Told : Type 0 where
  told_nothing : Told
  since : ℕ → ℕ → List ℕ → List ℕ → Bool → Told

-- the rows that a call gave out
abbrev pub given_out : ℕ → Scanned → List ℕ
given_out w r = take (r.rows * w) r.output

-- "A good start drops what is held and begins anew."
abbrev pub tell_start : ℕ → ℕ → Told
tell_start w h = since w h [] [] false

abbrev pub tell_rows : Told → List ℕ → Scanned → Told
tell_rows told_nothing levels r = told_nothing
tell_rows (since w h taken given ended) levels r = since w h (taken ++ levels) (given ++ given_out w r) ended

abbrev pub tell_end : Told → Scanned → Told
tell_end told_nothing r = told_nothing
tell_end (since w h taken given ended) r = since w h taken (given ++ given_out w r) true

abbrev pub tell_done : Told → Call → Scanned → Told
tell_done t (start_call w h) r = tell_start w h
tell_done t (rows_call levels output) r = tell_rows t levels r
tell_done t (end_call output) r = tell_end t r

-- a call that was refused tells nothing
abbrev pub tell : Told → Call → Scanned → Told
tell t c r = cond (eqb r.number 0) (tell_done t c r) t

abbrev pub told : Told → List Made → Told
told t [] = t
told t (m ∷ ms) = told (tell t m.call m.left) ms

-- ---- the same calls on two memories
-- what is seen of an answer from outside: all but the memory
pub record Seen : Type 0 where
  pub number : ℕ
  pub rows : ℕ
  pub output : List ℕ

abbrev pub seen : Scanned → Seen
seen r = record { number = r.number; rows = r.rows; output = r.output }

pub record MadeTwice : Type 0 where
  pub call : Call
  pub left : Scanned
  pub right : Scanned

abbrev pub CallsTwice : List ℕ → List ℕ → List MadeTwice → Type 0
CallsTwice one other [] = Unit {0}
CallsTwice one other (m ∷ ms) =
    CallIs one m.call m.left × CallIs other m.call m.right × CallsTwice m.left.held m.right.held ms
