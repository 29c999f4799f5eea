-- What one call tells: where its number is 0, what it gave and left; and else that it left the memory as it was. Assumes nothing.
use mathlib.Core.Path.{◌≡◌, sym, ap, ◌∙◌, subst}
use mathlib.Core.List.{List}
use mathlib.Core.Logic.{◌≢◌, inl, inr}
use Prim.Native.Nat.{ℕ, ◌+◌, ◌-◌, ◌*◌, ◌/◌, ◌%◌, ◌≤◌, min}
use native.Mathlib.Omega.{arith}
use lib.ListN.{length, take, drop}
use lib.Seq.{take_at}
use Rattle.arithmetic.specs.Lists.{AtMost}
use Rattle.arithmetic.proofs.Lists.{most_equal, most_slice}
use Rattle.picture.specs.Picture.{Side}
use Rattle.memory.specs.Memory.{row_at, width_of, height_of, came_of, rows_of, memory, zeros, two_of, Ranges, Begun, StartIs}
use Rattle.memory.proofs.Memories.{length_rows, rows_of_memory, length_memory, length_zeros}
use Rattle.scan.specs.Ring.{held_in, later}
use Rattle.scan.specs.Held.{after}
use Rattle.scan.specs.Scan.{Scanned, scanned, at_front, due, rows_given, rows_held, RowsIs, end_given, EndIs}
use Rattle.scan.specs.Asked.{Ready}
use Rattle.scan.proofs.Calls.{Fitting, so_far, length_later, is_ready, rows_fit, rows_due, end_long}

-- ---- a start
pub start_refused : (held left : List ℕ) (w h n : ℕ) → n ≢ 0 → StartIs held w h n left → left ≡ held
start_refused held left w h n some (inl out) = out.1.1
start_refused held left w h n some (inr is) = absurd (some is.1.0)

pub record Started (held left : List ℕ) (w h : ℕ) : Type 0 where
  pub width : Side w
  pub height : Side h
  pub left_is : left ≡ memory w h 0 (zeros 6144) (drop 6147 held)

pub start_done : (held left : List ℕ) (w h n : ℕ) → n ≡ 0 → StartIs held w h n left → Started held left w h
start_done held left w h n z (inl out) = absurd (let one = out.1.0 in let no_way : ⊥ = omega (arith, z, one) in no_way)
start_done held left w h n z (inr is) = record { width = is.0.1; height = is.0.2; left_is = is.1.1 }

-- ---- rows
refused_with : {r : Scanned} {n : ℕ} {held output : List ℕ} → r ≡ scanned n 0 held output → r.held ≡ held
refused_with e = ap (λ (z : Scanned). z.held) e

number_of : {r : Scanned} {n rows : ℕ} {held output : List ℕ} → r ≡ scanned n rows held output → r.number ≡ n
number_of e = ap (λ (z : Scanned). z.number) e

-- a call that answers another number than 0 was not done
not_done : {r : Scanned} (n : ℕ) {rows : ℕ} {held output : List ℕ} → n ≢ 0 → r.number ≡ 0 → r ≡ scanned n rows held output → ⊥
not_done n other z is = other (sym (number_of is) ∙ z)

module _ (held levels output : List ℕ) (r : Scanned) where
  pub rows_refused : r.number ≢ 0 → RowsIs held levels output r → r.held ≡ held
  rows_refused some (inl a) = refused_with a.1
  rows_refused some (inr (b, inl a)) = refused_with a.1
  rows_refused some (inr (b, inr (c, inl a))) = refused_with a.1
  rows_refused some (inr (b, inr (c, inr (d, inl a)))) = refused_with a.1
  rows_refused some (inr (b, inr (c, inr (d, inr (e, is))))) = absurd (some (number_of is))

  pub record Came : Type 0 where
    pub begun : Begun held
    pub whole : length levels % width_of held ≡ 0
    pub within : length levels / width_of held ≤ height_of held - came_of held
    pub count : r.rows ≡ due (came_of held) (length levels / width_of held)
    pub held-is : r.held ≡ rows_held held levels
    pub output-is : r.output ≡ at_front (rows_given held levels) output

  pub rows_done : r.number ≡ 0 → RowsIs held levels output r → Came
  rows_done z (inl a) = absurd (not_done 1 (λ e. omega (arith, e)) z a.1)
  rows_done z (inr (b, inl a)) = absurd (not_done 20 (λ e. omega (arith, e)) z a.1)
  rows_done z (inr (b, inr (c, inl a))) = absurd (not_done 21 (λ e. omega (arith, e)) z a.1)
  rows_done z (inr (b, inr (c, inr (d, inl a)))) = absurd (not_done 3 (λ e. omega (arith, e)) z a.1)
  rows_done z (inr (b, inr (c, inr (d, inr (e, is))))) = record {
    begun = b;
    whole = c;
    within = d;
    count = ap (λ (s : Scanned). s.rows) is;
    held-is = ap (λ (s : Scanned). s.held) is;
    output-is = ap (λ (s : Scanned). s.output) is;
  }

-- ---- the end
module _ (held output : List ℕ) (r : Scanned) where
  pub end_refused : r.number ≢ 0 → EndIs held output r → r.held ≡ held
  end_refused some (inl a) = refused_with a.1
  end_refused some (inr (b, inl a)) = refused_with a.1
  end_refused some (inr (b, inr (c, inl a))) = refused_with a.1
  end_refused some (inr (b, inr (c, inr (d, is)))) = absurd (some (number_of is))

  pub record Finished : Type 0 where
    pub begun : Begun held
    pub last : came_of held ≡ height_of held
    pub count : r.rows ≡ min 3 (height_of held)
    pub held-is : r.held ≡ memory (width_of held) (height_of held) (height_of held + 3) (zeros 6144) (drop 6147 held)
    pub output-is : r.output ≡ at_front (end_given held) output

  pub end_done : r.number ≡ 0 → EndIs held output r → Finished
  end_done z (inl a) = absurd (not_done 1 (λ e. omega (arith, e)) z a.1)
  end_done z (inr (b, inl a)) = absurd (not_done 22 (λ e. omega (arith, e)) z a.1)
  end_done z (inr (b, inr (c, inl a))) = absurd (not_done 3 (λ e. omega (arith, e)) z a.1)
  end_done z (inr (b, inr (c, inr (d, is)))) = record {
    begun = b;
    last = c;
    count = ap (λ (s : Scanned). s.rows) is;
    held-is = ap (λ (s : Scanned). s.held) is;
    output-is = ap (λ (s : Scanned). s.output) is;
  }

-- ---- the memory that is left
-- one of zeros holds nothing that is out of range
zero_ranges : (w n : ℕ) → Ranges w (zeros n)
unfolding zeros two_of row_at
zero_ranges w n = record { levels = small 255 0; halves = small 510 1; quarters = small 1020 2 }
  where
    small : (b pass : ℕ) → AtMost b (row_at (w + w) (zeros n) pass)
    small b pass = most_slice b (pass * (w + w)) (pass * (w + w) + (w + w)) (zeros n) (most_equal b n 0 (omega arith))

pub begun_zeros : (w h k : ℕ) (past : List ℕ) → Side w → Side h → Begun (memory w h k (zeros 6144) past)
unfolding memory
begun_zeros w h k past width height =
    let rows = rows_of_memory w h k (zeros 6144) past (length_zeros 6144) in
    record {
      long = length_memory w h k (zeros 6144) past (length_zeros 6144);
      width = width;
      height = height;
      ranges = subst (Ranges w) (sym rows) (zero_ranges w 6144);
    }

-- rows that came are held, and their rows given out
module _ (held levels output : List ℕ) (r : Scanned) (few : came_of held ≤ 65535) (bytes : AtMost 255 levels)
    (came : Came held levels output r) where
  abbrev w : ℕ
  w = width_of held

  abbrev h : ℕ
  h = height_of held

  abbrev k : ℕ
  k = came_of held

  abbrev n : ℕ
  n = length levels / w

  abbrev rows : List ℕ
  rows = take (6147 - 3) (drop 3 held)

  fit : Fitting w h k (row_at w levels) n
  fit = rows_fit held came.begun levels output bytes few came.whole came.within

  short : k + n ≤ 70000
  short = let height = came.begun.height.1 in let within = came.within in omega (arith, height, within, few)

  then : Ready w h (k + n) (later w h k rows (row_at w levels) n)
      × (held_in w h (k + n) (later w h k rows (row_at w levels) n) ≡ after (held_in w h k rows) (row_at w levels) n)
  then = so_far w h k rows (row_at w levels) (is_ready held came.begun few) n fit short

  rows_long : length (later w h k rows (row_at w levels) n) ≡ 6144
  rows_long = length_later w h k rows (row_at w levels) (is_ready held came.begun few) n fit short ∙ length_rows held came.begun.long

  abbrev left : List ℕ
  left = memory w h (k + n) (later w h k rows (row_at w levels) n) (drop 6147 held)

  pub left_is : r.held ≡ left
  unfolding rows_held rows_of
  left_is = came.held-is

  left_rows : rows_of left ≡ later w h k rows (row_at w levels) n
  left_rows = rows_of_memory w h (k + n) (later w h k rows (row_at w levels) n) (drop 6147 held) rows_long

  pub left_begun : Begun left
  unfolding memory
  left_begun = record {
    long = length_memory w h (k + n) (later w h k rows (row_at w levels) n) (drop 6147 held) rows_long;
    width = came.begun.width;
    height = came.begun.height;
    ranges = subst (Ranges w) (sym left_rows) then.0.ranges;
  }

  pub left_held : held_in w h (k + n) (rows_of left) ≡ after (held_in w h k (rows_of held)) (row_at w levels) n
  unfolding rows_of
  left_held = ap (held_in w h (k + n)) left_rows ∙ then.1

  pub given_long : length (rows_given held levels) ≡ due k n * w
  unfolding rows_given rows_of
  given_long = rows_due held came.begun levels output bytes few came.whole came.within

  pub gave : take (r.rows * w) r.output ≡ rows_given held levels
  gave =
      ap (take (r.rows * w)) came.output-is
      ∙ take_at (rows_given held levels) (drop (length (rows_given held levels)) output) (r.rows * w)
      (given_long ∙ ap (λ (z : ℕ). z * w) (sym came.count))

-- and so at the end
pub end_gave : (held output : List ℕ) (r : Scanned) → (f : Finished held output r)
    → take (r.rows * width_of held) r.output ≡ end_given held
end_gave held output r f =
    ap (take (r.rows * width_of held)) f.output-is
    ∙ take_at (end_given held) (drop (length (end_given held)) output) (r.rows * width_of held)
    (end_long held f.begun f.last ∙ ap (λ (z : ℕ). z * width_of held) (sym f.count))
