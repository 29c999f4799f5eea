-- What the two calls may answer and leave: each answer is determined, what a caller reads off the number, and that a histogram which was
-- counted is never refused a threshold. Assumes nothing.
use mathlib.Core.Path.{◌≡◌, sym, ap}
use mathlib.Core.List.{List}
use mathlib.Core.Logic.{inl, inr}
use Prim.Native.Nat.{ℕ, ◌*◌, ◌<◌, ◌≤◌}
use native.Mathlib.Nat.{pos_of_ne-zero, mul-le-mul}
use native.Mathlib.Omega.{arith}
use lib.Dec.{lit≤}
use lib.ListN.{length}
use lib.Seq.{ext_get_or}
use Rattle.std.specs.Prelude.{Result, Ok, Err}
use Rattle.answers.specs.declared.Refusal.{Refusal}
use Rattle.answers.proofs.Numbers.{one_refusal, some_number}
use Rattle.arithmetic.specs.declared.Fraction.{Fraction}
use Rattle.threshold.specs.declared.Resting.{Resting}
use Rattle.answers.proofs.Refusals.{past, alike, together}
use Rattle.threshold.specs.Histogram.{Countable, Tally, tally, Counted, CountIs}
use Rattle.threshold.specs.TwoMeans.{highest, threshold, answered, refused, Done, TwoMeansIs, Threshold, threshold_of}
use Rattle.threshold.proofs.Present.{highest_below}
use Rattle.threshold.proofs.Tables.{denominator_small}
use Rattle.threshold.proofs.Demand.{one_rounds, one_answer}

-- ---- counting
-- two histograms of the same values are one
pub one_histogram : (values : List ℕ) (a b : Tally) → Counted values a → Counted values b → a.histogram ≡ b.histogram
one_histogram values a b p q =
    ext_get_or 0 a.histogram b.histogram (alike p.places q.places)
    (λ v h. let here : v < 256 = omega (arith, p.places) in alike (p.counts v here) (q.counts v here))

-- the answer is determined: two outcomes that the promise permits are one
pub one_count : (values histogram : List ℕ) (a b : Tally) → CountIs values histogram a → CountIs values histogram b → a ≡ b
one_count values histogram a b =
    together alike (together alike (λ p q i. tally (alike p.number q.number i) (one_histogram values a b p q i)))

-- a refused call does not answer 0
count_refused : {n : ℕ} {histogram : List ℕ} {r : Tally} → 1 ≤ n → r ≡ tally n histogram → ¬ (r.number ≡ 0)
count_refused some is done = let e = ap (λ (t : Tally). t.number) is in omega arith

-- 0 says that the values were counted
pub when_counted : (values histogram : List ℕ) (r : Tally) → r.number ≡ 0 → CountIs values histogram r → Countable values × Counted values r
when_counted values histogram r done (inl a) = absurd (count_refused (lit≤ tt) a.1 done)
when_counted values histogram r done (inr (places, inl a)) = absurd (count_refused (lit≤ tt) a.1 done)
when_counted values histogram r done (inr (places, inr counted)) = counted

-- and any other that nothing was written
pub when_refused : (values histogram : List ℕ) (r : Tally) → (r.number ≡ 0 → ⊥) → CountIs values histogram r → r.histogram ≡ histogram
when_refused values histogram r some (inl a) = ap (λ (t : Tally). t.histogram) a.1
when_refused values histogram r some (inr (places, inl a)) = ap (λ (t : Tally). t.histogram) a.1
when_refused values histogram r some (inr (places, inr counted)) = absurd (some counted.1.number)

-- ---- the two means
-- the answer is determined: two thresholds that the promise permits are one
pub one_two_means : (h : List ℕ) (a b : Threshold) → TwoMeansIs h a → TwoMeansIs h b → a ≡ b
one_two_means h a b =
    together alike (together alike (together alike
    (λ p q.
    let number = alike p.number q.number in
    let rounds = one_rounds 128 h a.rounds b.rounds a.value b.value p.settled q.settled in
    let value = one_answer 128 h a.rounds b.rounds a.value b.value p.settled q.settled in
    λ i. answered (number i) (rounds i) (value i))))

-- a threshold that rests, by its rounds and its value
abbrev resting : ℕ → Fraction → Result Resting Refusal
resting k T = Ok (record { rounds = k; value = T })

-- what comes back is that of one answer only
one_threshold : (a b : Result Resting Refusal) → threshold_of a ≡ threshold_of b → a ≡ b
one_threshold (Ok x) (Ok y) e = ap (λ (s : Threshold). resting s.rounds s.value) e
one_threshold (Ok x) (Err r) e = absurd (some_number r (sym (ap (λ (s : Threshold). s.number) e)))
one_threshold (Err r) (Ok y) e = absurd (some_number r (ap (λ (s : Threshold). s.number) e))
one_threshold (Err r) (Err q) e = ap Err (one_refusal r q (ap (λ (s : Threshold). s.number) e))

-- so any two answers that the promise permits are one
pub one_two_means_answer : (h : List ℕ) (a b : Result Resting Refusal) → TwoMeansIs h (threshold_of a) → TwoMeansIs h (threshold_of b) → a ≡ b
one_two_means_answer h a b is is' = one_threshold a b (one_two_means h (threshold_of a) (threshold_of b) is is')

-- a refused call does not answer 0
threshold_refused : {n : ℕ} {r : Threshold} → 1 ≤ n → r ≡ refused n → ¬ (r.number ≡ 0)
threshold_refused some is done = let e = ap (λ (t : Threshold). t.number) is in omega arith

-- 0 says that the threshold is settled
pub when_settled : (h : List ℕ) (r : Threshold) → r.number ≡ 0 → TwoMeansIs h r → (length h ≡ 256) × Done 128 h r
when_settled h r done (inl a) = absurd (threshold_refused (lit≤ tt) a.1 done)
when_settled h r done (inr (levels, inl a)) = absurd (threshold_refused (lit≤ tt) a.1 done)
when_settled h r done (inr (levels, inr (some, inl a))) = absurd (threshold_refused (lit≤ tt) a.1 done)
when_settled h r done (inr (levels, inr (some, inr (few, d)))) = (levels, d)

-- in at most 511 rounds
pub in_511 : (h : List ℕ) (r : Threshold) → r.number ≡ 0 → TwoMeansIs h r → r.rounds ≤ 511
in_511 h r done is = let d = when_settled h r done is in omega (arith, d.0, d.1.settled.in_time)

-- with a numerator below 2^49 and a denominator of at most 2^41
pub value_small : (h : List ℕ) (r : Threshold) → r.number ≡ 0 → TwoMeansIs h r
    → (r.value.numerator < 562949953421312) × (r.value.denominator ≤ 2199023255552)
value_small h r done (inl a) = absurd (threshold_refused (lit≤ tt) a.1 done)
value_small h r done (inr (levels, inl a)) = absurd (threshold_refused (lit≤ tt) a.1 done)
value_small h r done (inr (levels, inr (some, inl a))) = absurd (threshold_refused (lit≤ tt) a.1 done)
value_small h r done (inr (levels, inr (some, inr (few, d)))) =
    let s = d.settled in
    let small : r.value.denominator ≤ 2199023255552 =
    rw s.answer (denominator_small h (threshold 128 h r.rounds) (record { levels = omega (arith, levels); values = few })) in
    let top : highest h ≤ 255 = omega (arith, levels, highest_below h (pos_of_ne-zero some)) in
    let under : r.value.numerator * 1 ≤ highest h * r.value.denominator = s.rests.within.to_highest in
    (omega (arith, mul-le-mul top small), small)

-- a histogram that was counted has a threshold
pub counted_has_one : (values : List ℕ) (counts : Tally) (r : Threshold) → Countable values → Counted values counts
    → TwoMeansIs counts.histogram r → Done 128 counts.histogram r
counted_has_one values counts r ok counted is =
    past (omega (arith, counted.total_is, ok.few)) (past (λ none. omega (arith, counted.total_is, ok.some, none)) (past counted.places is))
