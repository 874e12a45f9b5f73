-- The causes of refusal by their numbers, which document 01 gives, and the refusal that a cause makes.
use Rattle.std.specs.Prelude.{ℕ, Result, Ok, Err, ⊤}
use Rattle.table.specs.declared.Refusal.{Refusal}
use Rattle.table.specs.declared.causes.Cause.{Cause}
use Rattle.table.specs.declared.causes.Cause.TheVariants.{TableShort, TableVersion, TableCounts, TableLength, KindUnknown, KindStrong, FieldWrong, ClassWrong}
use Rattle.table.specs.declared.causes.Cause.TheVariants.{RootWrong, UsedNotOnce, CellsTooMany, PropertyUnknown, SignalUndeclared, CyclesTooMany, TraceWrong}

abbrev pub number_of : Cause → ℕ
number_of TableShort = 1
number_of TableVersion = 2
number_of TableCounts = 3
number_of TableLength = 4
number_of KindUnknown = 5
number_of KindStrong = 6
number_of FieldWrong = 7
number_of ClassWrong = 8
number_of RootWrong = 9
number_of UsedNotOnce = 10
number_of CellsTooMany = 11
number_of PropertyUnknown = 12
number_of SignalUndeclared = 13
number_of CyclesTooMany = 14
number_of TraceWrong = 15

-- What a rule answers, by its number: 0 where nothing is wrong.
abbrev pub rule_number : Result ⊤ Cause → ℕ
rule_number (Ok right) = 0
rule_number (Err cause) = number_of cause

abbrev pub refusal_of : Cause → ℕ → Refusal
refusal_of cause place = record { number = number_of cause; place = place }
