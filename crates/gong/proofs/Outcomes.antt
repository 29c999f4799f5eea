-- What each function of the C door may return and write is determined, as the call below it is. Assumes nothing.
use mathlib.Core.Path.{◌≡◌, ap}
use mathlib.Core.List.{List}
use Prim.Native.Nat.{ℕ}
use lib.IntN.{ℤ}
use Rattle.arithmetic.specs.Fractions.{fraction}
use Rattle.units.specs.Units.{sixteenths, picometres, eighths}
use Rattle.scan.specs.Scan.{Scanned, scanned, RowsIs, EndIs}
use Rattle.scan.proofs.Outcomes.{one_rows, one_end}
use Rattle.judge.specs.Judge.{Verdict, verdict, JudgeIs}
use Rattle.judge.specs.Measure.{Measurement, measurement, MeasureIs}
use Rattle.judge.proofs.Outcomes.{one_judge, one_measure}
use Rattle.threshold.specs.TwoMeans.{Threshold, answered, TwoMeansIs}
use Rattle.threshold.proofs.Outcomes.{one_two_means}
use Rattle.sample.specs.Cubic.{Sampled, sampled, SampleIs}
use Rattle.sample.proofs.Outcomes.{one_sample}
use Rattle.length.specs.Length.{Sharpness, sharpness, LengthIs}
use Rattle.length.proofs.Outcomes.{one_length}

-- any two outcomes that `gong_judge` is permitted, the number that it returns and the ratio that it writes, are equal
module _ (N M m D n q n' q' : ℕ) (this : JudgeIs N (eighths M) (eighths m) D (verdict n q)) (that : JudgeIs N (eighths M) (eighths m) D (verdict n' q')) where
  same_verdict : verdict n q ≡ verdict n' q'
  same_verdict = one_judge N (eighths M) (eighths m) D (verdict n q) (verdict n' q') this that

  pub one_gong_judge : (n ≡ n') × (q ≡ q')
  one_gong_judge = (ap (λ (v : Verdict). v.number) same_verdict, ap (λ (v : Verdict). v.ratio) same_verdict)

-- any two outcomes that `gong_measure` is permitted, the number that it returns, the ratio that it writes and both buffers, are equal
module _ (levels : List ℕ) (w h : ℕ) (output work : List ℕ) (n q n' q' : ℕ) (o k o' k' : List ℕ) (this : MeasureIs levels w h output work (measurement (verdict n q) o k)) (that : MeasureIs levels w h output work (measurement (verdict n' q') o' k')) where
  same_measurement : measurement (verdict n q) o k ≡ measurement (verdict n' q') o' k'
  same_measurement = one_measure levels w h output work (measurement (verdict n q) o k) (measurement (verdict n' q') o' k') this that

  pub one_gong_measure : (n ≡ n') × (q ≡ q') × (o ≡ o') × (k ≡ k')
  one_gong_measure = (
    ap (λ (m : Measurement). m.verdict.number) same_measurement,
    ap (λ (m : Measurement). m.verdict.ratio) same_measurement,
    ap (λ (m : Measurement). m.output) same_measurement,
    ap (λ (m : Measurement). m.work) same_measurement,
  )

-- any two outcomes that `gong_scan_rows` is permitted, the number that it returns, the rows that it writes, the memory and the output, are equal;
-- and those of `gong_scan_end`
parts : {n q n' q' : ℕ} {held output held' output' : List ℕ} → scanned n q held output ≡ scanned n' q' held' output'
    → (n ≡ n') × (q ≡ q') × (held ≡ held') × (output ≡ output')
parts e = (ap (λ (r : Scanned). r.number) e, ap (λ (r : Scanned). r.rows) e, ap (λ (r : Scanned). r.held) e, ap (λ (r : Scanned). r.output) e)

module _ (n q n' q' : ℕ) (left out left' out' : List ℕ) where
  pub one_gong_scan_rows : (held levels output : List ℕ) → RowsIs held levels output (scanned n q left out) → RowsIs held levels output (scanned n' q' left' out')
      → (n ≡ n') × (q ≡ q') × (left ≡ left') × (out ≡ out')
  one_gong_scan_rows held levels output this that = parts (one_rows held levels output (scanned n q left out) (scanned n' q' left' out') this that)

  pub one_gong_scan_end : (held output : List ℕ) → EndIs held output (scanned n q left out) → EndIs held output (scanned n' q' left' out')
      → (n ≡ n') × (q ≡ q') × (left ≡ left') × (out ≡ out')
  one_gong_scan_end held output this that = parts (one_end held output (scanned n q left out) (scanned n' q' left' out') this that)

-- any two outcomes that `gong_two_means` is permitted, the number that it returns and the three that it writes, are equal
module _ (h : List ℕ) (n k a b n' k' a' b' : ℕ) (this : TwoMeansIs h (answered n k (fraction a b))) (that : TwoMeansIs h (answered n' k' (fraction a' b'))) where
  same_threshold : answered n k (fraction a b) ≡ answered n' k' (fraction a' b')
  same_threshold = one_two_means h (answered n k (fraction a b)) (answered n' k' (fraction a' b')) this that

  pub one_gong_two_means : (n ≡ n') × (k ≡ k') × (a ≡ a') × (b ≡ b')
  one_gong_two_means = (
    ap (λ (t : Threshold). t.number) same_threshold,
    ap (λ (t : Threshold). t.rounds) same_threshold,
    ap (λ (t : Threshold). t.value.numerator) same_threshold,
    ap (λ (t : Threshold). t.value.denominator) same_threshold,
  )

-- any two outcomes that `gong_sample` is permitted, the number that it returns and the value that it writes, are equal
module _ (levels : List ℕ) (w h : ℕ) (x y : ℤ) (n n' : ℕ) (v v' : ℤ) (this : SampleIs levels w h (sixteenths x) (sixteenths y) (sampled n v)) (that : SampleIs levels w h (sixteenths x) (sixteenths y) (sampled n' v')) where
  same_sample : sampled n v ≡ sampled n' v'
  same_sample = one_sample levels w h (sixteenths x) (sixteenths y) (sampled n v) (sampled n' v') this that

  pub one_gong_sample : (n ≡ n') × (v ≡ v')
  one_gong_sample = (ap (λ (r : Sampled). r.number) same_sample, ap (λ (r : Sampled). r.value) same_sample)

-- any two outcomes that `gong_length` is permitted, the number that it returns and the length that it writes, are equal
module _ (factor : ℤ) (pixel : ℕ) (n q n' q' : ℕ) (this : LengthIs (sixteenths factor) (picometres pixel) (sharpness n q)) (that : LengthIs (sixteenths factor) (picometres pixel) (sharpness n' q')) where
  same : sharpness n q ≡ sharpness n' q'
  same = one_length (sixteenths factor) (picometres pixel) (sharpness n q) (sharpness n' q') this that

  pub one_gong_length : (n ≡ n') × (q ≡ q')
  one_gong_length = (ap (λ (r : Sharpness). r.number) same, ap (λ (r : Sharpness). r.length.0) same)
