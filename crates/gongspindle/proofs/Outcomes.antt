-- What the program's functions find is determined: the line of a picture, what is found at an offset, and what a run that wrote all its
-- lines comes to. Assumes nothing.
use mathlib.Core.Path.{◌≡◌, refl, ap, subst}
use mathlib.Core.List.{List}
use Prim.Native.Nat.{ℕ}
use Rattle.std.specs.Prelude.{Option, None, Some, Result, Ok, Err}
use Rattle.answers.specs.declared.Refusal.{Refusal}
use Rattle.records.specs.declared.Faulty.{Faulty as Faulty-record}
use Rattle.records.specs.declared.Record.TheVariants.{Picture as Record-as-Picture, Pixel as Record-as-Pixel}
use Rattle.records.specs.Records.{Reply, RecordIs, Last}
use Rattle.records.proofs.Outcomes.{one_record_at}
use Rattle.records.proofs.Reading.{not_both, one_reading}
use Rattle.gongspindle.specs.declared.levels.Line.{Line}
use Rattle.gongspindle.specs.declared.look.Said.{Said}
use Rattle.gongspindle.specs.declared.look.Said.TheVariants.{Picture, Pixel}
use Rattle.gongspindle.specs.declared.look.Good.{Good}
use Rattle.gongspindle.specs.declared.Stopped.{Stopped}
use Rattle.gongspindle.specs.declared.Stopped.TheVariants.{Faulty, Unwritten}
use Rattle.gongspindle.specs.Line.{LineIs}
use Rattle.gongspindle.specs.Program.{part, SaidIs, FoundIs, OutcomeIs}
use Rattle.filter.specs.Filter.{pass_three}
use Rattle.judge.specs.Judge.{verdict_of}
use Rattle.judge.proofs.Outcomes.{one_judged, one_verdict}
use Rattle.threshold.specs.declared.Resting.{Resting}
use Rattle.threshold.specs.Histogram.{tally}
use Rattle.threshold.specs.TwoMeans.{threshold_of, TwoMeansIs}
use Rattle.threshold.proofs.Outcomes.{one_histogram, one_two_means_answer}
use Rattle.gongspindle.proofs.Findings.{said_of}

one_resting : (x y : Resting) → ◌≡◌ {A = Result Resting Refusal} (Ok x) (Ok y) → x ≡ y
one_resting x y e = cc

-- a picture has one line
pub one_line_of : (levels : List ℕ) (side : ℕ) (a b : Line) → LineIs levels side a → LineIs levels side b → a ≡ b
one_line_of levels side a b p q = λ i. record { verdict = v i; threshold = t i }
  where
    v : a.verdict ≡ b.verdict
    v =
        one_verdict a.verdict b.verdict
        (one_judged levels (pass_three side side levels) side side (verdict_of a.verdict) (verdict_of b.verdict) p.judged q.judged)

    h : p.histogram ≡ q.histogram
    h = one_histogram (pass_three side side levels) (tally 0 p.histogram) (tally 0 q.histogram) p.counted q.counted

    t : a.threshold ≡ b.threshold
    t =
        one_resting a.threshold b.threshold
        (one_two_means_answer q.histogram (Ok a.threshold) (Ok b.threshold)
        (subst (λ (x : List ℕ). TwoMeansIs x (threshold_of (Ok a.threshold))) h p.rests)
        q.rests)

-- a good record, by what its line says and where the next one begins
abbrev found : Said → ℕ → Result (Option Good) Faulty-record
found said next = Ok (Some (record { said = said; next = next }))

module _ (input : List ℕ) (at : ℕ) where
  -- a record that ends the reading is no good one
  not_good : {C : Type 0} (said : Said) (next : ℕ) (last : Reply) → SaidIs input at said next → RecordIs input at last → Last last → C
  not_good said next last is last-is over =
      let of = said_of input at said next is in
      absurd (not_both of.0 last next (one_record_at input at of.0 last of.1.0 last-is) of.1.1 over)

  -- a line is that of a picture
  abbrev LineOf : Line → Reply → Type 0
  LineOf line (Ok (Some (Record-as-Picture side start end))) = LineIs (part input start end) side line
  LineOf line (Ok (Some (Record-as-Pixel size end))) = ⊥
  LineOf line (Ok None) = ⊥
  LineOf line (Err f) = ⊥

  one_said : (a b : Said) (n m : ℕ) → SaidIs input at a n → SaidIs input at b m → found a n ≡ found b m
  one_said (Picture side line) (Picture side' line') n m p q =
      let e = one_record_at input at (Ok (Some (Record-as-Picture side p.0 n))) (Ok (Some (Record-as-Picture side' q.0 m))) p.1.0 q.1.0 in
      let same_line = one_line_of (part input q.0 m) side' line line' (subst (LineOf line) e p.1.1) q.1.1 in
      cc
  one_said (Picture side line) (Pixel size) n m p q =
      let e = one_record_at input at (Ok (Some (Record-as-Picture side p.0 n))) (Ok (Some (Record-as-Pixel size m))) p.1.0 q in
      cc
  one_said (Pixel size) (Picture side line) n m p q =
      let e = one_record_at input at (Ok (Some (Record-as-Picture side q.0 m))) (Ok (Some (Record-as-Pixel size n))) q.1.0 p in
      cc
  one_said (Pixel size) (Pixel size') n m p q =
      let e = one_record_at input at (Ok (Some (Record-as-Pixel size n))) (Ok (Some (Record-as-Pixel size' m))) p q in
      cc

  -- any two findings that the promise permits at an offset are one
  pub one_look : (a b : Result (Option Good) Faulty-record) → FoundIs input at a → FoundIs input at b → a ≡ b
  one_look (Ok (Some r)) (Ok (Some r')) p q = one_said r.said r'.said r.next r'.next p q
  one_look (Ok (Some r)) (Ok None) p q = not_good r.said r.next (Ok None) p q tt
  one_look (Ok (Some r)) (Err f) p q = not_good r.said r.next (Err f) p q tt
  one_look (Ok None) (Ok (Some r)) p q = not_good r.said r.next (Ok None) q p tt
  one_look (Ok None) (Ok None) p q = refl
  one_look (Ok None) (Err f) p q = let e = one_record_at input at (Ok None) (Err f) p q in cc
  one_look (Err f) (Ok (Some r)) p q = not_good r.said r.next (Err f) q p tt
  one_look (Err f) (Ok None) p q = let e = one_record_at input at (Ok None) (Err f) q p in cc
  one_look (Err f) (Err f') p q = let e = one_record_at input at (Err f) (Err f') p q in cc

-- a run that could not write a line
abbrev unwritten : Result ℕ Stopped
unwritten = Err (Unwritten (record {}))

-- any two outcomes of one input are one, where all lines were written
pub one_report : (input : List ℕ) (a b : Result ℕ Stopped) → ¬ (a ≡ unwritten) → ¬ (b ≡ unwritten) → OutcomeIs input a → OutcomeIs input b → a ≡ b
one_report input (Err (Unwritten failed)) b wrote wrote' p q = absurd (wrote refl)
one_report input (Ok good) (Err (Unwritten failed)) wrote wrote' p q = absurd (wrote' refl)
one_report input (Err (Faulty f)) (Err (Unwritten failed)) wrote wrote' p q = absurd (wrote' refl)
one_report input (Ok good) (Ok good') wrote wrote' p q = ap Ok (one_reading input good good' 0 (Ok None) (Ok None) p q).0
one_report input (Ok good) (Err (Faulty f)) wrote wrote' p q =
    let e = (one_reading input good q.0 0 (Ok None) (Err f) p q.1).1 in cc
one_report input (Err (Faulty f)) (Ok good) wrote wrote' p q =
    let e = (one_reading input good p.0 0 (Ok None) (Err f) q p.1).1 in cc
one_report input (Err (Faulty f)) (Err (Faulty f')) wrote wrote' p q =
    let e = (one_reading input p.0 q.0 0 (Err f) (Err f') p.1 q.1).1 in cc
