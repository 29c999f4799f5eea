-- what each pass is given is a picture, small enough to be doubled.
use Rattle.std.specs.Prelude.{ℕ, List, ◌≡◌}
use Rattle.filter.specs.Filter.{pass_one, pass_two, pass_three}
use Rattle.filter.specs.Median.{pass}
use Rattle.arithmetic.specs.Lists.{AtMost}
use mathlib.Core.Path.{ap, ◌∙◌}
use native.Mathlib.Omega.{arith}
use lib.Dec.{lit≤}
use Rattle.filter.proofs.Ranges.{most_pass_one, most_pass_two, picture_of}
use Rattle.filter.proofs.passes.three_passes.Goals as goal

-- what a pass is given is a picture, small enough to be doubled: what each pass gives is what the document calls it
one_is : (w h : ℕ) (levels wide out : List ℕ) → wide ≡ levels → out ≡ pass w h wide → out ≡ pass_one w h levels
unfolding pass_one
one_is w h levels wide out e is = is ∙ ap (pass w h) e

two_is : (w h : ℕ) (levels one out : List ℕ) → one ≡ pass_one w h levels → out ≡ pass w h one → out ≡ pass_two w h levels
unfolding pass_two
two_is w h levels one out e is = is ∙ ap (pass w h) e

three_is : (w h : ℕ) (levels two out : List ℕ) → two ≡ pass_two w h levels → out ≡ pass w h two → out ≡ pass_three w h levels
unfolding pass_three
three_is w h levels two out e is = is ∙ ap (pass w h) e

pub one_pass-requires-2 : goal.one_pass-requires-2
one_pass-requires-2 c =
    let w = c.args.width in
    let h = c.args.height in
    let levels = c.args.levels.now in
    let small : AtMost 255 levels = λ k. omega (arith, c.type_inv.levels k) in
    let is = one_is w h levels _ _ c.widen.ensures c.one_pass.ensures in
    let long = c.widen.auto.out ∙ c.requires.levels_len.2 in
    let output_long = c.one_pass.auto.out ∙ c.requires.levels_len.1 in
    (picture_of 510 w h _ _ c.requires.side output_long is (most_pass_one w h levels small) (lit≤ tt), long)

pub one_pass-requires-3 : goal.one_pass-requires-3
one_pass-requires-3 c =
    let w = c.args.width in
    let h = c.args.height in
    let levels = c.args.levels.now in
    let small : AtMost 255 levels = λ k. omega (arith, c.type_inv.levels k) in
    let is = two_is w h levels _ _ (one_is w h levels _ _ c.widen.ensures c.one_pass.ensures) c.one_pass-2.ensures in
    let work_long = c.widen.auto.out ∙ c.requires.levels_len.2 in
    let output_long = c.one_pass.auto.out ∙ c.requires.levels_len.1 in
    (picture_of 1020 w h _ _ c.requires.side (c.one_pass-2.auto.out ∙ work_long) is (most_pass_two w h levels small) (lit≤ tt), output_long)

pub returns : goal.returns
returns c =
    let w = c.args.width in
    let h = c.args.height in
    let levels = c.args.levels.now in
    let two = two_is w h levels _ _ (one_is w h levels _ _ c.widen.ensures c.one_pass.ensures) c.one_pass-2.ensures in
    (three_is w h levels _ _ two c.one_pass-3.ensures, two)
