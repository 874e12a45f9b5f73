use Rattle.std.proofs.Common.{ap, ap₂, arith, eqb, not, ℕ, ◌&&◌, ◌||◌}
use borrow.Author.Tests.{eq-eqb, ne_eqb, lt-ltb}
use Rattle.table.proofs.Laws.Choices.{yes_so, no_so, said_ne}
use Rattle.engine.specs.Truths.{compound_at, holds_at}
use Rattle.engine.proofs.TruthLaws.{compound_so}
use Rattle.engine.proofs.truths.holds.Goals as goal

pub returns-then-kind-le-FALSE : goal.returns-then-kind-le-FALSE
unfolding holds_at
returns-then-kind-le-FALSE c = λ sample. let e = c.requires.0 in
    no_so _ _ _ (said_ne e c.requires.1) (yes_so _ _ _ (lt-ltb _ _ (omega (arith, e, c.if-kind-le-FALSE.true))) (ap (λ (k : ℕ). eqb k 1) e))

pub returns-then-kind-eq-NOT : goal.returns-then-kind-eq-NOT
unfolding compound_at
returns-then-kind-eq-NOT c = compound_so _ _ _ c.requires.0 c.requires.1 c.if-kind-le-FALSE.false
    (yes_so _ _ _ (eq-eqb _ _ c.if-kind-eq-NOT.true) (ap not (rw c.a.ensures at c.bit-a.ensures)))

pub returns-then-kind-eq-AND : goal.returns-then-kind-eq-AND
unfolding compound_at
returns-then-kind-eq-AND c = compound_so _ _ _ c.requires.0 c.requires.1 c.if-kind-le-FALSE.false (no_so _ _ _ (ne_eqb _ _ c.if-kind-eq-NOT.false)
    (yes_so _ _ _ (eq-eqb _ _ c.if-kind-eq-AND.true) (ap₂ ◌&&◌ (rw c.a.ensures at c.bit-a.ensures) (rw c.b.ensures at c.bit-b.ensures))))

pub returns-else-kind-eq-AND : goal.returns-else-kind-eq-AND
unfolding compound_at
returns-else-kind-eq-AND c = compound_so _ _ _ c.requires.0 c.requires.1 c.if-kind-le-FALSE.false (no_so _ _ _ (ne_eqb _ _ c.if-kind-eq-NOT.false)
    (no_so _ _ _ (ne_eqb _ _ c.if-kind-eq-AND.false) (ap₂ ◌||◌ (rw c.a.ensures at c.bit-a.ensures) (rw c.b.ensures at c.bit-b.ensures))))
