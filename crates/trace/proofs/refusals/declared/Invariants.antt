use Rattle.std.proofs.Common.{◌≡◌, ◌≤◌}
use Rattle.trace.specs.Refusals.{declared_of}
use Rattle.trace.proofs.Scan.{left}
use Rattle.trace.proofs.refusals.declared.Given as goal

abbrev pub invariant-loop-i : goal.invariant-loop-i
invariant-loop-i l = (l.i ≤ l.cycles) × (left l.signals l.bytes l.cycles l.i ≡ declared_of l.signals l.bytes l.cycles)
