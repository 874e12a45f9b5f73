-- No cause has number 0.
use Rattle.std.specs.Prelude.{◌<◌}
use Rattle.std.proofs.Common.{arith}
use Rattle.table.specs.Causes.{number_of}
use Rattle.table.specs.declared.causes.Cause.{Cause}
use Rattle.table.specs.declared.causes.Cause.TheVariants.{TableShort, TableVersion, TableCounts, TableLength, KindUnknown, KindStrong, FieldWrong, ClassWrong}
use Rattle.table.specs.declared.causes.Cause.TheVariants.{RootWrong, UsedNotOnce, CellsTooMany, PropertyUnknown, SignalUndeclared, CyclesTooMany, TraceWrong}

pub numbered : (c : Cause) → 0 < number_of c
numbered TableShort = omega arith
numbered TableVersion = omega arith
numbered TableCounts = omega arith
numbered TableLength = omega arith
numbered KindUnknown = omega arith
numbered KindStrong = omega arith
numbered FieldWrong = omega arith
numbered ClassWrong = omega arith
numbered RootWrong = omega arith
numbered UsedNotOnce = omega arith
numbered CellsTooMany = omega arith
numbered PropertyUnknown = omega arith
numbered SignalUndeclared = omega arith
numbered CyclesTooMany = omega arith
numbered TraceWrong = omega arith
