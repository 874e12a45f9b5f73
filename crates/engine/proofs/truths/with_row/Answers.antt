use Rattle.table.proofs.Laws.Choices.{said_eq}
use Rattle.engine.proofs.TruthLaws.{signal_row}
use Rattle.engine.proofs.truths.with_row.Goals as goal

pub returns-then-kind-eq-SIGNAL : goal.returns-then-kind-eq-SIGNAL
returns-then-kind-eq-SIGNAL c = signal_row _ _ _ _ (said_eq c.kind-kind.ensures c.if-kind-eq-SIGNAL.true) (rw (c.bit.ensures, c.a.ensures) at c.with_bit.ensures)
