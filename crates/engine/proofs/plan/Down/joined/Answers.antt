use Rattle.engine.proofs.ReachedLaws.{told, joined_is}
use Rattle.engine.proofs.plan.Down.joined.Goals as goal

pub returns : goal.returns
returns c =
    joined_is _ _ _ _ _ _ _
    c.row_at-row.ensures
    c.takes_of.ensures
    c.fields_by-a.ensures
    (told _ _ c.requires c.bit.ensures c.if-not-bit.false)
    c.with_field-with_a.ensures
    c.with_field-with_b.ensures
    c.with_field.ensures
