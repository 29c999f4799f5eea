-- rows that are not there are dropped (`first_makes` and so on).
use Rattle.std.proofs.Common.{◌≡◌, ◌∙◌, sym, refl, List, ℕ, Bool, true, length}
use Rattle.std.specs.Bool.{◌==◌}
use Rattle.std.proofs.lemmas.Bool.{eqb-true}
use Rattle.arithmetic.proofs.Lists.{no_elements}
use Rattle.filter.proofs.RowOutcomes.{none_here}
use Rattle.filter.proofs.Blocks.{first_makes, last_makes, three_make}
use Rattle.filter.proofs.rows.any_row.Goals as goal

empty : (l : List ℕ) (t : Bool) → t ≡ (length l == 0) → t ≡ true → length l ≡ 0
empty l t is holds = eqb-true (length l) 0 (sym is ∙ holds)

pub returns-then-is_empty : goal.returns-then-is_empty
returns-then-is_empty c =
    let none = empty _ _ c.is_empty.ensures c.if-is_empty.true in
    none_here c.args.above.now c.args.here.now c.args.below.now c.args.out.now none c.requires.out_len

pub returns-then-is_empty-3 : goal.returns-then-is_empty-3
returns-then-is_empty-3 c =
    let none_above = no_elements c.args.above.now (empty _ _ c.is_empty-2.ensures c.if-is_empty-2.true) in
    let none_below = no_elements c.args.below.now (empty _ _ c.is_empty-then-is_empty-2.ensures c.if-is_empty-3.true) in
    c.only_row.ensures ∙ rw (none_above, none_below) refl

pub returns-then-is_empty-2 : goal.returns-then-is_empty-2
returns-then-is_empty-2 c =
    c.make.ensures ∙ rw c.requires.out_len (first_makes c.args.above.now c.args.here.now c.args.below.now
    (empty _ _ c.is_empty-2.ensures c.if-is_empty-2.true))

pub returns-then-is_empty-4 : goal.returns-then-is_empty-4
returns-then-is_empty-4 c =
    c.make-then-is_empty-4.ensures ∙ rw c.requires.out_len (last_makes c.args.above.now c.args.here.now c.args.below.now
    (empty _ _ c.is_empty-3.ensures c.if-is_empty-4.true))

pub returns : goal.returns
returns c = c.make-2.ensures ∙ rw c.requires.out_len (three_make c.args.above.now c.args.here.now c.args.below.now)
