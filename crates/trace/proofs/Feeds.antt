-- The samples of a trace, fed one after the other; and the answer once the trace is checked.
use Prim.Native.Nat.{ℕ, ◌+◌, ◌-◌, ◌≤◌, ◌<◌}
use native.Mathlib.Omega.{arith}
use mathlib.Core.List.{List}
use mathlib.Core.Path.{◌≡◌, refl, sym, ◌∙◌, ap, subst}
use Rattle.std.specs.Prelude.{Some, None, Result, Ok, Err, ⊤}
use Rattle.std.specs.Iterator.{at_most, MakesProgress}
use Rattle.std.proofs.Math.Decide.{dec_lt}
use Rattle.psl.specs.Verdicts as Psl
use Rattle.table.proofs.Laws.Runs.{clash}
use Rattle.table.specs.Reply.{Reply, refused, granted, not_both, refused_one}
use Rattle.table.specs.Check.{checked_reply}
use Rattle.table.specs.declared.Counts.{Counts}
use Rattle.table.specs.declared.Refusal.{Refusal}
use Rattle.monitor.specs.declared.verdict.Verdict.{Verdict}
use Rattle.monitor.specs.declared.Monitor.{Monitor}
use Rattle.monitor.specs.Opens.{OpenIs, no_table, no_property, opened}
use Rattle.monitor.specs.Follows.{verdict_of, StepIs}
use Rattle.trace.specs.Trace.{cycles_of, sample_at}
use Rattle.trace.specs.Reader.{reading_at, gives, moved}
use Rattle.trace.specs.Readings.{reading_more, reading_none}
use Rattle.trace.specs.Refusals.{trace_reply, file_reply}
use Rattle.trace.specs.Meaning.{accepted_gives}
use Rattle.trace.specs.Judging.{Judged, no_trace, given}
use Rattle.trace.specs.Judging as J
use Rattle.trace.specs.Feeding.{FedFrom, fed_none, fed_more, Last, last_right}
use Rattle.trace.specs.declared.reader.Reading.{Reading}
use Rattle.trace.specs.declared.reader.TraceReader.{TraceReader}

-- a reader has a sample less to give, until it is at the end
pub progress : (reader : TraceReader) → MakesProgress (λ _. ⊤) (λ (r : TraceReader). at_most (cycles_of r.bytes.now - r.at)) reader (gives reader) (moved reader)
progress reader = elim (dec_lt reader.at (cycles_of reader.bytes.now)) [
  | yes l ↦ subst After (reading_more reader.bytes.now reader.at _ l refl) (record { on = λ _. (tt, tt, omega arith); keeps = tt; rests = λ _. tt })
  | no l ↦ subst After (reading_none reader.bytes.now reader.at (omega arith)) (record { on = λ _. tt; keeps = tt; rests = λ _. tt })
]
  where
    After : Reading → Type 0
    After r = MakesProgress (λ _. ⊤) (λ (s : TraceReader). at_most (cycles_of s.bytes.now - s.at)) reader r.next (record { bytes = reader.bytes; at = r.at })

-- what was given is the sample at the place, and the place is the next one then; at the end there is none
module _ (bytes : List ℕ) (at : ℕ) where
  here : at < cycles_of bytes → reading_at bytes at ≡ record { next = Some (sample_at bytes at); at = at + 1 }
  here l = sym (reading_more bytes at _ l refl)

  past : cycles_of bytes ≤ at → reading_at bytes at ≡ record { next = None; at = at }
  past l = sym (reading_none bytes at l)

  sample_read : {x : ℕ} → (reading_at bytes at).next ≡ Some x → (at < cycles_of bytes) × (x ≡ sample_at bytes at) × ((reading_at bytes at).at ≡ at + 1)
  sample_read {x} e = elim (dec_lt at (cycles_of bytes)) [
    | yes l ↦ (l, (let h = ap (λ (r : Reading). r.next) (here l) in cc), ap (λ (r : Reading). r.at) (here l))
    | no l ↦ (let h = ap (λ (r : Reading). r.next) (past (omega arith)) in clash cc)
  ]

  end_read : (reading_at bytes at).next ≡ None → cycles_of bytes ≤ at
  end_read e = elim (dec_lt at (cycles_of bytes)) [
    | yes l ↦ (let h = ap (λ (r : Reading). r.next) (here l) in clash cc)
    | no l ↦ omega arith
  ]

-- THE LOOP OF JUDGING: the reader's place is how many samples were fed
pub record Fed (t file : List ℕ) (m : Monitor) (reader : TraceReader) (after : Monitor) : Type 0 where
  pub bytes : reader.bytes.now ≡ file
  pub within : reader.at ≤ cycles_of file
  pub fed : FedFrom t file m reader.at after

module _ {t file : List ℕ} {m : Monitor} where
  pub none_fed : {reader : TraceReader} → reader.bytes.now ≡ file → reader.at ≡ 0 → Fed t file m reader m
  none_fed {reader} b z = record {
    bytes = b;
    within = omega arith;
    fed = subst (λ (n : ℕ). FedFrom t file m n m) (sym z) fed_none;
  }

  pub fed_on : {reader reader' : TraceReader} {before after : Monitor} {x : ℕ} {reply : Reply Psl.Verdict} → Fed t file m reader before
      → gives reader ≡ Some x → reader' ≡ moved reader → StepIs t before x reply after → Fed t file m reader' after
  fed_on {reader} {reader'} {before} {after} {x} {reply} f e a s =
      let g = sample_read reader.bytes.now reader.at e in
      let next : reader'.at ≡ reader.at + 1 = ap (λ (r : TraceReader). r.at) a ∙ g.2 in
      let l = subst (λ (b : List ℕ). reader.at < cycles_of b) f.bytes g.0 in
      record {
        bytes = ap (λ (r : TraceReader). r.bytes.now) a ∙ f.bytes;
        within = omega arith;
        fed = subst (λ (n : ℕ). FedFrom t file m n after) (sym next)
            (fed_more f.fed (subst (λ (y : ℕ). StepIs t before y reply after) (g.1 ∙ ap (λ (b : List ℕ). sample_at b reader.at) f.bytes) s));
      }

  pub all_fed : {reader : TraceReader} {after : Monitor} → Fed t file m reader after → gives reader ≡ None → Last t file m (cycles_of file) after.stand.verdict
  all_fed {reader} {after} f e =
      let l = subst (λ (b : List ℕ). cycles_of b ≤ reader.at) f.bytes (end_read reader.bytes.now reader.at e) in
      let k = f.within in
      record { after = after; fed = subst (λ (n : ℕ). FedFrom t file m n after) (omega arith) f.fed; stands = refl }

-- the answer by what opening said
pub not_in : (t file : List ℕ) (property : ℕ) (answer : Result Counts Refusal) (m : Monitor) → OpenIs t property (checked_reply answer) m
    → (r : Refusal) → answer ≡ Err r → Judged t file property (refused r.number r.place)
not_in t file property answer m o r e = by refl (subst (λ (a : Result Counts Refusal). OpenIs t property (checked_reply a) m) e o)
  where
    by : {reply : Reply Counts} → reply ≡ refused r.number r.place → OpenIs t property reply m → Judged t file property (refused r.number r.place)
    by q (no_table c s) = J.no_table (c ∙ q)
    by q (no_property c l s) = let h = refused_one q in rw (sym h.0, sym h.1) (J.no_property c l)
    by q (opened c l b y) = absurd (not_both (sym q))

-- and of a property that was opened, by what the check of the trace said
module _ (t file : List ℕ) (property : ℕ) (answer : Result Counts Refusal) (m : Monitor) (is_open : OpenIs t property (checked_reply answer) m)
    (counts : Counts) (let_in : answer ≡ Ok counts) (checked : Result ℕ Refusal) (told : trace_reply checked ≡ file_reply counts.signals file) where
  o : OpenIs t property (granted counts) m
  o = subst (λ (a : Result Counts Refusal). OpenIs t property (checked_reply a) m) let_in is_open

  pub trace_refused : (r : Refusal) → checked ≡ Err r → Judged t file property (refused r.number r.place)
  trace_refused r c = by o
    where
      by : OpenIs t property (granted counts) m → Judged t file property (refused r.number r.place)
      by (opened e l b y) = no_trace e l (sym told ∙ ap trace_reply c)

  pub trace_judged : (cycles : ℕ) (verdict : Verdict) → checked ≡ Ok cycles → Last t file m (cycles_of file) verdict
      → Judged t file property (granted (verdict_of verdict))
  trace_judged cycles verdict c q = by o
    where
      k : file_reply counts.signals file ≡ granted cycles
      k = sym told ∙ ap trace_reply c

      by : OpenIs t property (granted counts) m → Judged t file property (granted (verdict_of verdict))
      by (opened e l b y) =
          given {d = verdict_of verdict} e l k (rw q.stands (last_right t file counts property cycles m (accepted_gives counts.signals file cycles k) o q.after q.fed))
