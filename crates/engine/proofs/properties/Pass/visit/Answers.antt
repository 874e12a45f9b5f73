use Rattle.std.proofs.Common.{arith, sym, ◌∙◌}
use borrow.Author.Tests.{ne_eqb, lt-leb, lt-ltb, le-ltb}
use Rattle.table.specs.Choice.{pick}
use Rattle.table.proofs.Laws.Choices.{yes_so, no_so}
use Rattle.engine.specs.PropertyVisits.{stage_of, visit_at, plain_at, left_at, later_at, lasts_at, lasting_at, guard_at, branch_at}
use Rattle.engine.proofs.StepLaws.{begun_kept}
use Rattle.engine.proofs.properties.Pass.visit.Goals as goal

pub returns-in-33 : goal.returns-in-33
unfolding visit_at plain_at branch_at pick
returns-in-33 c = let e = sym c.kind.ensures ∙ c.in-33.is in rw e (rw (c.b.ensures, c.begun.ensures, c.a.ensures) at c.begun-in-33.ensures)

pub returns-in-34 : goal.returns-in-34
unfolding stage_of visit_at plain_at later_at pick
returns-in-34 c = let e = sym c.kind.ensures ∙ c.in-34.is in rw e ((rw (c.kept.ensures, c.a-in-34.ensures, c.bit.ensures, c.bit-in-34.ensures) at c.begun-in-34.ensures) ∙ begun_kept _ _ _ _ _)

pub returns-in-36 : goal.returns-in-36
unfolding stage_of visit_at plain_at left_at later_at lasts_at lasting_at guard_at pick
returns-in-36 c = let e = sym c.kind.ensures ∙ c.in-36.is in rw e (rw (c.b-in-36.ensures, c.bit-in-36.ensures, c.a-in-36.ensures) at c.begun-in-36.ensures)

pub returns-in-37 : goal.returns-in-37
unfolding stage_of visit_at plain_at left_at later_at lasts_at lasting_at guard_at pick
returns-in-37 c = let e = sym c.kind.ensures ∙ c.in-37.is in rw e (rw (c.a-in-37.ensures, c.bit-in-37.ensures, c.b-in-37.ensures) at c.begun-in-37.ensures)

pub returns-in-38 : goal.returns-in-38
unfolding stage_of visit_at plain_at left_at later_at lasts_at lasting_at guard_at pick
returns-in-38 c = let e = sym c.kind.ensures ∙ c.in-38.is in rw e (c.lasting.ensures)

pub returns-in-39 : goal.returns-in-39
unfolding stage_of visit_at plain_at left_at later_at lasts_at lasting_at guard_at pick
returns-in-39 c = let e = sym c.kind.ensures ∙ c.in-39.is in rw e (rw (c.bit-in-39.ensures, c.b-in-39.ensures) at c.lasting-in-39.ensures)

pub returns-in-40 : goal.returns-in-40
unfolding stage_of visit_at plain_at left_at later_at lasts_at lasting_at guard_at pick
returns-in-40 c = let e = sym c.kind.ensures ∙ c.in-40.is in rw e (rw (c.b-in-40.ensures, c.matched.ensures, c.bit-in-40.ensures) at c.begun-in-40.ensures)

pub returns-in-42 : goal.returns-in-42
unfolding stage_of visit_at plain_at left_at later_at lasts_at lasting_at guard_at pick
returns-in-42 c = let e = sym c.kind.ensures ∙ c.in-42.is in rw e (c.running.ensures)

pub returns-in_default : goal.returns-in_default
unfolding stage_of visit_at left_at
returns-in_default c = no_so _ _ _ (le-ltb _ _ (omega arith)) (no_so _ _ _ (ne_eqb _ _ (λ e. omega arith)) (no_so _ _ _ (ne_eqb _ _ (λ e. omega arith))
    ((rw (c.kept-in_default.ensures, c.b-in_default.ensures, c.owes.ensures, c.matched-in_default.ensures, c.bit-in_default.ensures) at c.begun-in_default.ensures) ∙ begun_kept _ _ _ _ _)))

pub returns-in-0-to-35 : goal.returns-in-0-to-35
unfolding visit_at plain_at branch_at
returns-in-0-to-35 c = yes_so _ _ _ (lt-ltb _ _ (omega arith)) (no_so _ _ _ (ne_eqb _ _ (λ e. omega arith)) (no_so _ _ _ (lt-leb _ _ (omega arith))
    (no_so _ _ _ (lt-leb _ _ (omega arith)) (no_so _ _ _ (ne_eqb _ _ (λ e. omega arith)) c.branch-self.ensures))))
