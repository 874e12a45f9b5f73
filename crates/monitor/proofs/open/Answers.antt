use Rattle.std.proofs.Common.{rules}
use Rattle.table.proofs.Facts.Accepted.{granted_subset}
use Rattle.monitor.specs.Opens.{no_table, no_property, opened}
use Rattle.monitor.proofs.Readies.{told}
use Rattle.monitor.proofs.open.Goals as goal

pub returns-in_default : goal.returns-in_default
returns-in_default c = rw (c.not_opened.ensures.0, c.in_default.is) (no_table (told _ c.check-checked.ensures c.in_default.is) c.not_opened.ensures.1)

pub returns-then-from-property : goal.returns-then-from-property
returns-then-from-property c = rw (c.not_opened-then-from-property.ensures.0, c.at.ensures)
    (no_property (told _ c.check-checked.ensures c.in-Ok.is) (search rules) c.not_opened-then-from-property.ensures.1)

pub opening-requires : goal.opening-requires
opening-requires c = (granted_subset _ _ (told _ c.check-checked.ensures c.in-Ok.is), search rules)

pub returns : goal.returns
returns c = rw c.opening.ensures.answer_value
    (opened (told _ c.check-checked.ensures c.in-Ok.is) (search rules) c.opening.ensures.nothing_read c.opening.ensures.ready)
