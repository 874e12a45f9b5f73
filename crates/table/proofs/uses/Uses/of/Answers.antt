use Rattle.std.proofs.Common.{ℕ, arith, rules, ◌≡◌, ◌+◌, ap, sym, ◌∙◌, replicate}
use Rattle.std.proofs.lemmas.List.{get_or-replicate}
use Rattle.table.specs.First.{sum_to}
use Rattle.table.specs.Rows.{row_at}
use Rattle.table.specs.Uses.{one_if, root_use, uses_in_row, uses_of}
use Rattle.table.proofs.Laws.Runs.{sum_next, sum_start}
use Rattle.table.proofs.UseLaws.{counted_none, counted_then, counted_same}
use Rattle.table.proofs.uses.Uses.of.Goals as goal

pub loop-node-init : goal.loop-node-init
loop-node-init c = counted_same (counted_none (replicate 64 0) (search rules)) (λ j. sum_start _)

pub loop-node-preserved : goal.loop-node-preserved
loop-node-preserved c = counted_same (counted_then c.loop-node.invariant c.add_row.ensures)
    (λ j. (λ i. sum_to (λ k. uses_in_row (row_at c.args.table.now k) j) c.loop-node.node + uses_in_row (c.row_at.ensures i) j) ∙ sym (sum_next _ _))

pub loop-property-init : goal.loop-property-init
loop-property-init c = let e : c.loop-node.node ≡ c.args.counts.nodes = omega arith in
    counted_same c.loop-node.invariant
    (λ j. omega (arith, ap (sum_to (λ k. uses_in_row (row_at c.args.table.now k) j)) e, sum_start (root_use c.args.table.now c.args.counts.nodes j)))

pub loop-property-preserved : goal.loop-property-preserved
unfolding root_use
loop-property-preserved c = counted_same (counted_then c.loop-property.invariant c.add.ensures)
    (λ j. omega (arith, sum_next (root_use c.args.table.now c.args.counts.nodes j) c.loop-property.property, ap (λ v. one_if v j) c.root_at.ensures))

pub returns : goal.returns
unfolding uses_of
returns c = let e : c.loop-property.property ≡ c.args.counts.properties = omega arith in
    record { each = λ j l. omega (arith, get_or-replicate {A = ℕ} 64 j 0 0 l, c.loop-property.invariant.each j l, ap (sum_to (root_use c.args.table.now c.args.counts.nodes j)) e) }
