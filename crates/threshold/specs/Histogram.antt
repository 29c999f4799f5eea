-- Document 01, "Two means", its first paragraph, and the numbers 10 and 15 of its table: the histogram of a filtered picture.
use Rattle.std.specs.Prelude.{◌≡◌, cond, List, ℕ, ◌/◌, ◌<◌, ◌≤◌, eqb, length, get_or}
use Rattle.answers.specs.Refusals.{Unless}
use Rattle.arithmetic.specs.Lists.{AtMost}
use Rattle.arithmetic.specs.Sums.{sum}

-- "each filtered value adds one at its eighths divided by 8, rounded down": what the values add at level v
unfoldable pub added_at : List ℕ → ℕ → ℕ
added_at values v = sum (length values) (λ i. cond (eqb (get_or values i 0 / 8) v) 1 0)

-- A histogram is the list of its counts, from that of level 0 on.
abbrev pub count_of : List ℕ → ℕ → ℕ
count_of h v = get_or h v 0

-- "Its total"
unfoldable pub total : List ℕ → ℕ
total h = sum (length h) (count_of h)

-- "It takes 1 to 1,048,576 values, each at most 2,040."
pub record Countable (values : List ℕ) : Type 0 where
  pub some : 1 ≤ length values
  pub few : length values ≤ 1_048_576
  pub small : AtMost 2_040 values

-- what counting answers and leaves: the number, and the lent histogram
pub record Tally : Type 0 where
  pub number : ℕ
  pub histogram : List ℕ

abbrev pub tally : ℕ → List ℕ → Tally
tally n h = record { number = n; histogram = h }

-- "0 | done": "starts with a zero in each of its 256 places", so that each has just what was added there, whatever it held before;
-- and "Its total equals the number of values."
pub record Counted (values : List ℕ) (r : Tally) : Type 0 where
  pub number : r.number ≡ 0
  pub places : length r.histogram ≡ 256
  pub counts : (v : ℕ) → v < 256 → count_of r.histogram v ≡ added_at values v
  pub total_is : total r.histogram ≡ length values

-- "histogram not 256 long", "the values to be counted, out of range", and "nothing written" in both cases
abbrev pub CountIs : List ℕ → List ℕ → Tally → Type 0
CountIs values histogram r =
    Unless (length histogram ≡ 256) (r ≡ tally 10 histogram)
    (Unless (Countable values) (r ≡ tally 15 histogram)
    (Counted values r))
