-- Laws of the kinds: which there are, and how long their bodies are. Assumes nothing.
use mathlib.Core.Path.{◌≡◌, ap, ◌∙◌}
use mathlib.Core.Logic.{inl, inr}
use Prim.Native.Nat.{ℕ, ◌+◌, ◌≤◌}
use native.Mathlib.Omega.{arith}
use lib.Dec.{lit≤}
use Rattle.answers.specs.Refusals.{Unless}
use Rattle.records.specs.Records.{Known, body_length}

module _ {kind : ℕ} where
  -- a kind that is neither 1 nor 2 nor 3 is not known
  pub unknown : ¬ (kind ≡ 1) → ¬ (kind ≡ 2) → ¬ (kind ≡ 3) → ¬ Known kind
  unknown one two three (inl e) = one e
  unknown one two three (inr (inl e)) = two e
  unknown one two three (inr (inr e)) = three e

  -- a known one that is neither 1 nor 2 is 3
  pub third : Known kind → ¬ (kind ≡ 1) → ¬ (kind ≡ 2) → kind ≡ 3
  third (inl e) one two = absurd (one e)
  third (inr (inl e)) one two = absurd (two e)
  third (inr (inr e)) one two = e

  -- no body is empty
  pub some : Known kind → 1 ≤ body_length kind
  some (inl e) = rw e (lit≤ tt)
  some (inr (inl e)) = rw e (lit≤ tt)
  some (inr (inr e)) = rw e (lit≤ tt)

  -- so a length of 0 says that the kind is not known
  pub told_unknown : {n : ℕ} → Unless (Known kind) (n ≡ 0) (n ≡ body_length kind) → n ≡ 0 → ¬ Known kind
  told_unknown (inl a) z ok = a.0 ok
  told_unknown (inr b) z ok = let is = b.1 in let one = some ok in omega arith

  -- and any other that it is, and how long its body is
  pub told_known : {n : ℕ} → Unless (Known kind) (n ≡ 0) (n ≡ body_length kind) → ¬ (n ≡ 0) → Known kind × (n ≡ body_length kind)
  told_known (inl a) more = absurd (more a.1)
  told_known (inr b) more = b

-- where a body ends, of a kind that is told
pub ends_by : {kind k end : ℕ} (start : ℕ) → kind ≡ k → end ≡ start + body_length kind → end ≡ start + body_length k
ends_by start e ends = ends ∙ ap (λ (k : ℕ). start + body_length k) e
