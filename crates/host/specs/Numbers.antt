-- THE NUMBER FOR C CAN BE TAKEN APART, as a host does it: by division and remainder it tells the reply that it stands for, and so what document 01 promises of that.
use Rattle.std.specs.Prelude.{ℕ, ◌+◌, ◌*◌, ◌/◌, ◌%◌, ◌≤◌, ◌<◌, cond, List, ◌≡◌, refl, eqb, length, Result, Ok, Err}
use Rattle.std.proofs.Common.{arith, sym, ◌∙◌, ap, subst}
use Rattle.psl.specs.Verdicts.{Verdict, broken, settled, pending, Right, is_broken, is_settled, is_pending}
use Rattle.table.specs.Reply.{Reply, refused, granted, not_both, refused_one}
use Rattle.table.specs.Trees.{property_of}
use Rattle.table.specs.Check.{check_of, checked_reply, table_reply}
use Rattle.table.proofs.Facts.Refusals.{refusal_of_table}
use Rattle.table.specs.declared.Counts.{Counts}
use Rattle.table.specs.declared.Refusal.{Refusal}
use Rattle.monitor.specs.Demands.{Promised}
use Rattle.trace.specs.Trace.{cycles_most, samples_of}
use Rattle.trace.specs.Samples.{length_samples}
use Rattle.trace.specs.Refusals.{file_reply}
use Rattle.trace.specs.Meaning.{TraceAnswer, wrong, undeclared_at, right, answers, accepted_gives}
use Rattle.trace.specs.Judging.{Judged, no_table, no_property, no_trace, given}
use Rattle.trace.specs.Demands.{judged_right, judged_promised}
use Rattle.host.specs.Answers.{places, low_part, refusal_number, check_number, verdict_number, answer_number, JudgedNumber}

-- A refusal of a table or of a file has a number of 1 or more, and a place below 65,536.
pub record Small (number place : ℕ) : Type 0 where
  pub number_from : 1 ≤ number
  pub number_to : number ≤ 15
  pub place_below : place < places

-- It stays below 2^32, is never 0, and tells its number and place.
pub small_below : {number place : ℕ} → Small number place → refusal_number number place < low_part
small_below s = omega (arith, s.number_to, s.place_below)

pub small_some : {number place : ℕ} → Small number place → 1 ≤ refusal_number number place
small_some s = omega (arith, s.number_from)

pub small_number : {number place : ℕ} → Small number place → refusal_number number place / places ≡ number
small_number s = omega (arith, s.place_below)

pub small_place : {number place : ℕ} → Small number place → refusal_number number place % places ≡ place
small_place s = omega (arith, s.place_below)

-- ---- `check`

pub table_small : (t : List ℕ) {number place : ℕ} → table_reply t ≡ refused number place → Small number place
table_small t {number} {place} = by (check_of t) refl
  where
    by : (k : Result Counts Refusal) → check_of t ≡ k → checked_reply k ≡ refused number place → Small number place
    by (Ok c) e q = absurd (not_both (sym q))
    by (Err r) e q =
        let o = refusal_of_table t r e in
        let h = refused_one q in
        record { number_from = omega (arith, o.number_from, h.0); number_to = omega (arith, o.number_to, h.0); place_below = omega (arith, o.place_below, h.1) }

-- 0 EXACTLY IF ACCEPTED
pub zero_accepted : (t : List ℕ) → check_number (table_reply t) ≡ 0 → (counts : Counts) × (table_reply t ≡ granted counts)
zero_accepted t = by (table_reply t) refl
  where
    by : (r : Reply Counts) → table_reply t ≡ r → check_number r ≡ 0 → (counts : Counts) × (table_reply t ≡ granted counts)
    by (granted counts) e z = (counts, e)
    by (refused number place) e z = absurd (omega (arith, small_some (table_small t e)))

pub accepted_zero : (t : List ℕ) (counts : Counts) → table_reply t ≡ granted counts → check_number (table_reply t) ≡ 0
accepted_zero t counts e = ap check_number e

-- ---- `judge`

file_small : (S : ℕ) (file : List ℕ) {number place : ℕ} → file_reply S file ≡ refused number place → Small number place
file_small S file {number} {place} e = by (answers S file) e
  where
    by : {r : Reply ℕ} → TraceAnswer S file r → r ≡ refused number place → Small number place
    by (wrong n) q = let h = refused_one q in record { number_from = omega (arith, h.0); number_to = omega (arith, h.0); place_below = omega (arith, h.1) }
    by (undeclared_at i r l u none) q =
        let h = refused_one q in
        record { number_from = omega (arith, h.0); number_to = omega (arith, h.0); place_below = omega (arith, h.1, l, r.cycles) }
    by (right r none) q = absurd (not_both (sym q))

pub judged_small : {t file : List ℕ} {property number place : ℕ} → Judged t file property (refused number place) → Small number place
judged_small {t} (no_table e) = table_small t e
judged_small (no_property e l) = record { number_from = omega arith; number_to = omega arith; place_below = omega arith }
judged_small {file = file} (no_trace {counts} e l c) = file_small counts.signals file c

-- the cycle of a verdict is at most 16,381
abbrev cycle_of : Verdict → ℕ
cycle_of (broken n) = n
cycle_of (settled n) = n
cycle_of (pending n) = n

judged_cycle : {t file : List ℕ} {property : ℕ} {d : Verdict} → Judged t file property (granted d) → cycle_of d ≤ cycles_most
judged_cycle {file = file} (given {counts} {cycles} e l c r) =
    let k = (accepted_gives counts.signals file cycles c).right_trace.cycles in
    let n = within r in
    omega (arith, length_samples file)
  where
    within : {f : _} {w : List ℕ} {d : Verdict} → Right f w d → cycle_of d ≤ length w
    within (is_broken s) = s.within
    within (is_settled s) = s.within
    within (is_pending p a b) = omega arith

-- The reply that a number stands for: its high part tells which of the four, its low part the rest.
abbrev pub verdict_from : ℕ → ℕ → Verdict
verdict_from high low = cond (eqb high 1) (broken low) (cond (eqb high 2) (settled low) (pending low))

abbrev pub taken_apart : ℕ → Reply Verdict
taken_apart number = cond (eqb (number / low_part) 0) (refused (number / places) (number % places)) (granted (verdict_from (number / low_part) (number % low_part)))

-- THE NUMBER DETERMINES THE ANSWER
pub taken_apart_lem : {t file : List ℕ} {property : ℕ} {reply : Reply Verdict} → Judged t file property reply → taken_apart (answer_number reply) ≡ reply
taken_apart_lem {reply = refused number place} j =
    let s = judged_small j in
    let z : refusal_number number place / low_part ≡ 0 = omega (arith, small_below s) in
    (λ i. cond (eqb (z i) 0) (refused (small_number s i) (small_place s i)) (granted (verdict_from (z i) (refusal_number number place % low_part))))
taken_apart_lem {reply = granted d} j = by d (judged_cycle j)
  where
    by_parts : (high n : ℕ) → n ≤ cycles_most → taken_apart (low_part * high + n)
        ≡ cond (eqb high 0) (refused ((low_part * high + n) / places) ((low_part * high + n) % places)) (granted (verdict_from high n))
    by_parts high n l =
        let q : (low_part * high + n) / low_part ≡ high = omega arith in
        let r : (low_part * high + n) % low_part ≡ n = omega arith in
        λ i. cond (eqb (q i) 0) (refused ((low_part * high + n) / places) ((low_part * high + n) % places)) (granted (verdict_from (q i) (r i)))

    by : (d : Verdict) → cycle_of d ≤ cycles_most → taken_apart (verdict_number d) ≡ granted d
    by (broken n) l = by_parts 1 n l
    by (settled n) l = by_parts 2 n l
    by (pending n) l = by_parts 3 n l

-- so that of two judgings with one number the replies are one, and each theorem about `Judged` is one about the number (a longer file, feeding the samples:
-- `Demands` of trace)
pub number_tells : {t file t' file' : List ℕ} {property property' : ℕ} {a b : Reply Verdict}
    → Judged t file property a → Judged t' file' property' b → answer_number a ≡ answer_number b → a ≡ b
number_tells p q e = sym (taken_apart_lem p) ∙ ap taken_apart e ∙ taken_apart_lem q

pub number_judged : {t file : List ℕ} {property number : ℕ} → JudgedNumber t file property number → Judged t file property (taken_apart number)
number_judged {t} {file} {property} j = subst (Judged t file property) (sym (ap taken_apart j.stands_for ∙ taken_apart_lem j.judged)) j.judged

module _ {t file : List ℕ} {counts : Counts} (accepted : table_reply t ≡ granted counts) {property number : ℕ} {d : Verdict} (j : JudgedNumber t file property number)
    (says : taken_apart number ≡ granted d) where
  pub number_right : Right (property_of t counts.nodes property) (samples_of file) d
  number_right = judged_right t counts accepted property (subst (Judged t file property) says (number_judged j))

  pub number_promised : Promised (property_of t counts.nodes property) (samples_of file) d
  number_promised = judged_promised t counts accepted property (subst (Judged t file property) says (number_judged j))
