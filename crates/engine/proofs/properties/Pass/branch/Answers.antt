use Rattle.std.proofs.Common.{sym, ◌∙◌}
use Rattle.table.proofs.Laws.Choices.{yes_so, no_so}
use Rattle.engine.proofs.properties.Pass.branch.Goals as goal

pub returns-then-bit : goal.returns-then-bit
returns-then-bit c = yes_so _ _ _ (sym (rw c.a.ensures at c.bit.ensures) ∙ c.if-bit.true) (rw c.b.ensures at c.begun.ensures)

pub returns-else-bit : goal.returns-else-bit
returns-else-bit c = no_so _ _ _ (sym (rw c.a.ensures at c.bit.ensures) ∙ c.if-bit.false) (rw c.c.ensures at c.begun-else-bit.ensures)
