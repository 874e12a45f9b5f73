-- Any two answers that a contract of this crate allows are equal. Bytes lent by `&` are as they were: no function can change them.
use Rattle.std.specs.Prelude.{ℕ, List, ◌≡◌, refl, Option, Result, Ok, Err}
use Rattle.std.proofs.Common.{sym, ◌∙◌, ap, subst}
use Rattle.std.specs.Borrow.{Bor}
use Rattle.psl.specs.Verdicts.{Verdict, Right}
use Rattle.psl.proofs.Laws.{one_verdict}
use Rattle.table.specs.Reply.{Reply, refused, granted, not_both, granted_one, refused_one}
use Rattle.table.specs.Trees.{property_of}
use Rattle.table.specs.Check.{table_reply}
use Rattle.table.specs.declared.Counts.{Counts}
use Rattle.table.specs.declared.Refusal.{Refusal}
use Rattle.monitor.specs.Unique.{too_far}
use Rattle.trace.specs.Trace.{samples_of}
use Rattle.trace.specs.Refusals.{trace_reply, file_reply}
use Rattle.trace.specs.Judging.{Judged, no_table, no_property, no_trace, given}
use Rattle.trace.specs.Reader.{gives, moved}
use Rattle.trace.specs.declared.reader.TraceReader.{TraceReader}

-- given by an equation: `cycles_of`, `sample_at`, `Header::new`, `Header::is_right`, `reading_at`, `next_at`
pub equation_one : {A : Type 0} {answer r s : A} → r ≡ answer → s ≡ answer → r ≡ s
equation_one p q = p ∙ sym q

-- `check_trace`: two answers that reply the same are the same answer
replies_one : (x y : Result ℕ Refusal) → trace_reply x ≡ trace_reply y → x ≡ y
replies_one (Ok c) (Ok d) e = ap Ok (granted_one e)
replies_one (Ok c) (Err r) e = absurd (not_both (sym e))
replies_one (Err r) (Ok c) e = absurd (not_both e)
replies_one (Err r) (Err q) e = let h = refused_one e in λ i. Err (record { number = h.0 i; place = h.1 i })

pub check_one : (S : ℕ) (bytes : List ℕ) (x y : Result ℕ Refusal) → trace_reply x ≡ file_reply S bytes → trace_reply y ≡ file_reply S bytes → x ≡ y
check_one S bytes x y p q = replies_one x y (p ∙ sym q)

-- `TraceReader::new`
pub new_one : (bytes : Bor (List ℕ)) (r s : TraceReader) → (r.bytes ≡ bytes) × (r.at ≡ 0) → (s.bytes ≡ bytes) × (s.at ≡ 0) → r ≡ s
new_one bytes r s p q = λ i. record { bytes = equation_one p.0 q.0 i; at = equation_one p.1 q.1 i }

-- `TraceReader::next`: the answer, and the reader afterwards
pub next_one : (reader : TraceReader) (r s : Option ℕ) (after after' : TraceReader)
    → (r ≡ gives reader) × (after ≡ moved reader) → (s ≡ gives reader) × (after' ≡ moved reader) → (r ≡ s) × (after ≡ after')
next_one reader r s after after' p q = (equation_one p.0 q.0, equation_one p.1 q.1)

-- one table has one S, so that two replies to the file are one
file_same : (t file : List ℕ) {c d : Counts} {r s : Reply ℕ} → table_reply t ≡ granted c → table_reply t ≡ granted d
    → file_reply c.signals file ≡ r → file_reply d.signals file ≡ s → r ≡ s
file_same t file e f p q = sym p ∙ ap (λ (k : Counts). file_reply k.signals file) (granted_one (sym e ∙ f)) ∙ q

refused_same : {number place number' place' : ℕ} → ◌≡◌ {A = Reply ℕ} (refused number place) (refused number' place')
    → ◌≡◌ {A = Reply Verdict} (refused number place) (refused number' place')
refused_same e = let h = refused_one e in λ i. refused (h.0 i) (h.1 i)

-- `judge`: by the one answer of each check, and the one right verdict
pub judged_one : {t file : List ℕ} {property : ℕ} {a b : Reply Verdict} → Judged t file property a → Judged t file property b → a ≡ b
judged_one (no_table e) (no_table f) = let h = refused_one (sym e ∙ f) in λ i. refused (h.0 i) (h.1 i)
judged_one (no_table e) (no_property f l) = absurd (not_both (sym e ∙ f))
judged_one (no_table e) (no_trace f l c) = absurd (not_both (sym e ∙ f))
judged_one (no_table e) (given f l c r) = absurd (not_both (sym e ∙ f))
judged_one (no_property e l) (no_table f) = absurd (not_both (sym f ∙ e))
judged_one (no_property e l) (no_property f m) = refl
judged_one {t} (no_property e l) (no_trace f m c) = absurd (too_far t e f l m)
judged_one {t} (no_property e l) (given f m c r) = absurd (too_far t e f l m)
judged_one (no_trace e l c) (no_table f) = absurd (not_both (sym f ∙ e))
judged_one {t} (no_trace e l c) (no_property f m) = absurd (too_far t f e m l)
judged_one {t} {file} (no_trace e l c) (no_trace f m d) = refused_same (file_same t file e f c d)
judged_one {t} {file} (no_trace e l c) (given f m d r) = absurd (not_both (file_same t file e f c d))
judged_one (given e l c r) (no_table f) = absurd (not_both (sym f ∙ e))
judged_one {t} (given e l c r) (no_property f m) = absurd (too_far t f e m l)
judged_one {t} {file} (given e l c r) (no_trace f m d) = absurd (not_both (file_same t file f e d c))
judged_one {t} {file} {property} (given {d = v} e l c r) (given f m d s) =
    ap granted (one_verdict (subst (λ (k : Counts). Right (property_of t k.nodes property) (samples_of file) v) (granted_one (sym e ∙ f)) r) s)
