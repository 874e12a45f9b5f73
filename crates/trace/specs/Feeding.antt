-- FEEDING the samples of a trace to an opened monitor, one at a time: what stands after some of them. It is what the loop of judging keeps; nobody has to believe it.
use Rattle.std.specs.Prelude.{ℕ, ◌+◌, ◌≤◌, ◌<◌, List, [], ◌≡◌, length, take}
use Rattle.std.proofs.Common.{arith, sym, subst, length-take-le}
use Rattle.psl.specs.Verdicts.{Right}
use Rattle.psl.specs.Verdicts as Psl
use Rattle.table.specs.Reply.{Reply, granted}
use Rattle.table.specs.Trees.{property_of}
use Rattle.table.specs.declared.Counts.{Counts}
use Rattle.words.specs.Sets.{HasFrom}
use Rattle.monitor.specs.declared.verdict.Verdict.{Verdict}
use Rattle.monitor.specs.declared.Monitor.{Monitor}
use Rattle.monitor.specs.Opens.{count_limit, OpenIs}
use Rattle.monitor.specs.Follows.{verdict_of, Undeclared, StepIs}
use Rattle.monitor.specs.Fed.{Fed, fed_right, fed_opened, fed_signals, fed_step}
use Rattle.trace.specs.Trace.{cycles_of, sample_at, samples_of}
use Rattle.trace.specs.Samples.{length_samples, read_more, read_all}
use Rattle.trace.specs.Meaning.{Declared}

-- The monitor after the first n samples of the file were fed to m, by any steps that the contract of `step` allows.
pub data FedFrom (t file : List ℕ) (m : Monitor) : ℕ → Monitor → Type 0 where
  fed_none : FedFrom t file m 0 m
  fed_more : {n : ℕ} {before after : Monitor} {reply : Reply Psl.Verdict} → FedFrom t file m n before → StepIs t before (sample_at file n) reply after → FedFrom t file m (n + 1) after

-- The verdict that stands after n samples.
pub record Last (t file : List ℕ) (m : Monitor) (n : ℕ) (verdict : Verdict) : Type 0 where
  pub after : Monitor
  pub fed : FedFrom t file m n after
  pub stands : verdict ≡ after.stand.verdict

module _ (t file : List ℕ) (counts : Counts) (property cycles : ℕ) (m : Monitor) (d : Declared counts.signals file cycles) (o : OpenIs t property (granted counts) m) where
  few : (n : ℕ) → n ≤ cycles_of file → length (take n (samples_of file)) < count_limit
  few n l = omega (arith, length-take-le n (samples_of file) (subst (λ (k : ℕ). n ≤ k) (sym (length_samples file)) l), d.right_trace.cycles)

  start : Fed t counts property [] m
  start = fed_opened t counts property m o

  -- no sample of the file sets a bit that the table does not declare
  pub declared_at : (n : ℕ) → n < cycles_of file → ¬ Undeclared t (sample_at file n)
  declared_at n l = subst (λ (S : ℕ). ¬ HasFrom (sample_at file n) S) (sym (fed_signals t counts property [] m 0 start)) (d.none_undeclared n l)

  fed_from : {n : ℕ} {after : Monitor} → n ≤ cycles_of file → FedFrom t file m n after → Fed t counts property (take n (samples_of file)) after
  fed_from l fed_none = start
  fed_from l (fed_more {n} {before} {after} {reply} f s) =
      let k : n < cycles_of file = omega arith in
      let h = fed_step t counts property (take n (samples_of file)) before (sample_at file n) (fed_from (omega arith) f) reply after (λ e. few n (omega arith)) (declared_at n k) s in
      subst (λ (v : List ℕ). Fed t counts property v after) (sym (read_more file n k)) h.1

  -- THE VERDICT after all samples of a declared file is the right one
  pub last_right : (after : Monitor) → FedFrom t file m (cycles_of file) after → Right (property_of t counts.nodes property) (samples_of file) (verdict_of after.stand.verdict)
  last_right after f =
      fed_right t counts property (samples_of file) after (subst (λ (v : List ℕ). Fed t counts property v after) (read_all file) (fed_from {n = cycles_of file} {after = after} (omega arith) f))
