-- after j rows their columns stand at the front of t, one row after the other.
use Rattle.std.proofs.Common.{◌≡◌, ◌*◌, ◌<◌, length, take, List, ℕ, Bor, get_or, [], ap, sym, ◌∙◌, arith}
use Rattle.std.proofs.Math.ListN.{get_or-map, length-take}
use Rattle.std.proofs.Math.Seq.{get_or-take}
use Rattle.arithmetic.proofs.Order.{row_end}
use Rattle.arithmetic.specs.Lists.{AtMost}
use Rattle.filter.specs.Median.{twice_median}
use Rattle.filter.specs.Asked.{lists}
use Rattle.filter.proofs.Blocks.{gathered_more, nine_most, most_columns}
use Rattle.filter.proofs.Counts.{rows_times_columns}
use Rattle.filter.proofs.block.of_rows.Goals as goal

lent : (rows : List (Bor (List ℕ))) (j : ℕ) → get_or (lists rows) j [] ≡ (get_or rows j (record { ref_ptr = (0, 0); now = [] })).now
lent rows j = get_or-map (λ (r : Bor (List ℕ)). r.now) rows j (record { ref_ptr = (0, 0); now = [] })

pub gather-requires : goal.gather-requires
gather-requires g c =
    let j = c.loop-j.j in
    let columns = c.requires.columns in
    let inside = (columns.3 j (omega arith)).0 in
    (omega (arith, row_end c.args.count 3 j (omega arith)), rw (lent c.args.rows j) at inside)

pub loop-j-preserved : goal.loop-j-preserved
loop-j-preserved g c =
    let j = c.loop-j.j in
    let there : j < length (lists c.args.rows) = omega (arith, c.requires.columns.2) in
    gathered_more (lists c.args.rows) c.args.first c.args.count j _ c.loop-j.t c.gather.new.t there (sym (lent c.args.rows j))
    c.loop-j.invariant c.gather.ensures

pub twice-requires : goal.twice-requires
twice-requires g c =
    let n = g.row.N in
    let columns = c.requires.columns in
    let rows = lists c.args.rows in
    let few = rows_times_columns n c.args.count c.requires.some.0 c.requires.some.1 columns.0 columns.1 in
    let all : c.loop-j.j ≡ n = omega arith in
    let is = rw all at c.loop-j.invariant in
    let each : (k : ℕ) → k < length (take n rows) → AtMost 1020 (get_or (take n rows) k []) =
    λ k h.
    let here : k < n = omega (arith, length-take {A = List ℕ}) in
    rw (get_or-take n rows k [] here) (columns.3 k here).1 in
    let most = nine_most n c.args.count c.requires.some.0 c.requires.some.1 columns.0 columns.1 in
    let long : length (take (n * c.args.count) c.loop-j.t) ≡ n * c.args.count = simp length-take (omega (arith, most)) in
    (rw long few, rw is (most_columns 1020 c.args.first _ (take n rows) each))

pub returns : goal.returns
returns g c =
    let all : c.loop-j.j ≡ g.row.N = omega arith in
    c.twice.ensures ∙ ap twice_median (rw all at c.loop-j.invariant)
