use Rattle.std.proofs.Common.{◌≡◌, length, arith}
use Rattle.table.specs.Uses.{one_if}
use Rattle.table.proofs.UseLaws.{counted_one, counted_full, counted_past, counted_same}
use Rattle.table.proofs.uses.Uses.add.Goals as goal

pub returns-then-self-i-lt2 : goal.returns-then-self-i-lt2
returns-then-self-i-lt2 c = let size : length c.args.self.now.of_node ≡ 64 = omega arith in
    counted_same (counted_one _ size c.from-i.result (omega arith) c.if-self-i-lt2.true) (λ j i. one_if (c.from-i.ensures i) j)

pub returns-else-self-i-lt2 : goal.returns-else-self-i-lt2
returns-else-self-i-lt2 c = let size : length c.args.self.now.of_node ≡ 64 = omega arith in
    counted_same (counted_full _ size c.from-i.result c.if-self-i-lt2.false) (λ j i. one_if (c.from-i.ensures i) j)

pub returns-else-node-lt-NODES : goal.returns-else-node-lt-NODES
returns-else-node-lt-NODES c = let size : length c.args.self.now.of_node ≡ 64 = omega arith in
    counted_past _ size _ c.if-node-lt-NODES.false
