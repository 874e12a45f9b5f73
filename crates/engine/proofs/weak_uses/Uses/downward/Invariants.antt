use Rattle.std.specs.Iterator.Adapters.{rev_source}
use Rattle.engine.proofs.WeakLoop.{DownLeft}
use Rattle.engine.proofs.weak_uses.Uses.downward.Given as goal

abbrev pub invariant-loop-n : goal.invariant-loop-n
invariant-loop-n l = DownLeft l.table l.booleans l.weaks l.begin l.parts l.initial.self (rev_source l.n-iterator).0 l.self
