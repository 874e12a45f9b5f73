-- "The answer is one u64: 2^32 times (0 refused, 1 broken, 2 settled, 3 pending) plus a low part: the cycle, or 65,536 times the number plus the place."
use Rattle.std.specs.Prelude.{ℕ, ◌+◌, ◌*◌, List, ◌≡◌}
use Rattle.std.proofs.Common.{sym, ◌∙◌, ap}
use Rattle.psl.specs.Verdicts.{Verdict, broken, settled, pending}
use Rattle.table.specs.Reply.{Reply, refused, granted}
use Rattle.table.specs.declared.Counts.{Counts}
use Rattle.trace.specs.Judging.{Judged}
use Rattle.trace.specs.Unique.{judged_one}

-- "65,536 times the number plus the place": `Packed::PLACES`
abbrev pub places : ℕ
places = 65536

-- "2^32 times ..": `Packed::LOW`
abbrev pub low_part : ℕ
low_part = 4294967296

abbrev pub refusal_number : ℕ → ℕ → ℕ
refusal_number number place = places * number + place

-- "An accepted table alone answers 0"
abbrev pub check_number : Reply Counts → ℕ
check_number (refused number place) = refusal_number number place
check_number (granted counts) = 0

abbrev pub verdict_number : Verdict → ℕ
verdict_number (broken cycle) = low_part * 1 + cycle
verdict_number (settled cycle) = low_part * 2 + cycle
verdict_number (pending cycles) = low_part * 3 + cycles

abbrev pub answer_number : Reply Verdict → ℕ
answer_number (refused number place) = refusal_number number place
answer_number (granted verdict) = verdict_number verdict

-- The number stands for the answer to this property of the table on this trace file.
pub record JudgedNumber (t file : List ℕ) (property number : ℕ) : Type 0 where
  pub reply : Reply Verdict
  pub judged : Judged t file property reply
  pub stands_for : number ≡ answer_number reply

-- It is the only one.
pub judged_number_one : (t file : List ℕ) (property n m : ℕ) → JudgedNumber t file property n → JudgedNumber t file property m → n ≡ m
judged_number_one t file property n m p q = p.stands_for ∙ ap answer_number (judged_one p.judged q.judged) ∙ sym q.stands_for
