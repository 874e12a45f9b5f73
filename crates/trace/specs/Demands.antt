-- THE DEMANDS of judging a file, end to end: over whatever the contract of `judge` allows. To believe: `Judged`, `samples_of`, `property_of`, and of psl `Breaks`,
-- `Secures`, `Right`. The file's verdict is right and may be relied on; a longer file keeps it; it is the last one that feeding the samples to an opened monitor gives.
use Rattle.std.specs.Prelude.{ℕ, ◌<◌, List, [], ◌∷◌, ◌++◌, ◌≡◌, refl, length, get_or}
use Rattle.std.proofs.Common.{arith, sym, ◌∙◌, ap, subst, length-append}
use Rattle.std.proofs.Math.Seq.{get_or-append_seam}
use Rattle.psl.specs.Properties.{Property}
use Rattle.psl.specs.Verdicts.{Verdict, broken, settled, pending, Right}
use Rattle.psl.proofs.Laws.{one_verdict, broken_stays, settled_stays}
use Rattle.psl.proofs.Model.Verdicts.{right_none}
use Rattle.table.specs.Reply.{Reply, refused, granted, not_both, granted_one}
use Rattle.table.specs.Trees.{property_of}
use Rattle.table.specs.Check.{table_reply}
use Rattle.table.specs.declared.Counts.{Counts}
use Rattle.monitor.specs.declared.Monitor.{Monitor}
use Rattle.monitor.specs.Opens.{count_limit, OpenIs}
use Rattle.monitor.specs.Follows.{Undeclared, StepIs}
use Rattle.monitor.specs.Unique.{too_far}
use Rattle.monitor.specs.Demands.{Chain, Promised, right_promised, each_right}
use Rattle.trace.specs.Trace.{cycles_of, sample_at, samples_of, RightTrace}
use Rattle.trace.specs.Samples.{length_samples, sample_of}
use Rattle.trace.specs.Refusals.{file_reply}
use Rattle.trace.specs.Meaning.{UndeclaredAt, right, answers, answer_one, Declared, accepted_gives}
use Rattle.trace.specs.Judging.{Judged, no_table, no_property, no_trace, given}
use Rattle.trace.specs.Feeding.{declared_at}

-- ---- DEMAND 1: a verdict is given exactly of an accepted table, a property of it, and a right file of its signals; all else is refused, as `Judged` says
pub record Judgeable (t file : List ℕ) (property : ℕ) (counts : Counts) : Type 0 where
  pub accepted : table_reply t ≡ granted counts
  pub numbered : property < counts.properties
  pub right_file : RightTrace counts.signals file
  pub none_undeclared : (k : ℕ) → k < cycles_of file → ¬ UndeclaredAt counts.signals file k

pub judgeable : {t file : List ℕ} {property : ℕ} {d : Verdict} → Judged t file property (granted d) → (counts : Counts) × Judgeable t file property counts
judgeable {t} {file} (given {counts} {cycles} e l c r) =
    let g = accepted_gives counts.signals file cycles c in
    (counts, record { accepted = e; numbered = l; right_file = g.right_trace; none_undeclared = g.none_undeclared })

pub judgeable_given : {t file : List ℕ} {property : ℕ} {counts : Counts} {reply : Reply Verdict} → Judgeable t file property counts → Judged t file property reply
    → (d : Verdict) × (reply ≡ granted d)
judgeable_given q (no_table e) = absurd (not_both (sym e ∙ q.accepted))
judgeable_given {t} q (no_property e l) = absurd (too_far t e q.accepted l q.numbered)
judgeable_given {file = file} {counts = counts} q (no_trace {counts = c} {number} {place} e l r) =
    let same : c ≡ counts = granted_one (sym e ∙ q.accepted) in
    let f = subst (λ (k : Counts). file_reply k.signals file ≡ refused number place) same r in
    absurd (not_both (sym f ∙ answer_one (answers counts.signals file) (right q.right_file q.none_undeclared)))
judgeable_given q (given {d = d} e l c r) = (d, refl)

-- ---- Of an accepted table t
module _ (t : List ℕ) (counts : Counts) (accepted : table_reply t ≡ granted counts) (property : ℕ) where
  abbrev tree : Property
  tree = property_of t counts.nodes property

  -- DEMAND 2: the verdict is the right one of the property's tree on the file's samples
  pub judged_right : {file : List ℕ} {d : Verdict} → Judged t file property (granted d) → Right tree (samples_of file) d
  judged_right {file} {d} (given e l c r) = subst (λ (k : Counts). Right (property_of t k.nodes property) (samples_of file) d) (granted_one (sym e ∙ accepted)) r

  -- DEMAND 3: after broken every continuation of the samples breaks, after settled none does, after pending they do neither
  pub judged_promised : {file : List ℕ} {d : Verdict} → Judged t file property (granted d) → Promised tree (samples_of file) d
  judged_promised {file} {d} j = right_promised tree (samples_of file) d (judged_right j)

  -- a longer file with the same beginning keeps broken n, and settled n
  pub longer_broken : {file longer : List ℕ} (u : List ℕ) {n : ℕ} {d : Verdict} → Judged t file property (granted (broken n))
      → samples_of longer ≡ samples_of file ++ u → Judged t longer property (granted d) → d ≡ broken n
  longer_broken u {d = d} j e k = one_verdict (subst (λ (w : List ℕ). Right tree w d) e (judged_right k)) (broken_stays u (judged_right j))

  pub longer_settled : {file longer : List ℕ} (u : List ℕ) {n : ℕ} {d : Verdict} → Judged t file property (granted (settled n))
      → samples_of longer ≡ samples_of file ++ u → Judged t longer property (granted d) → d ≡ settled n
  longer_settled u {d = d} j e k = one_verdict (subst (λ (w : List ℕ). Right tree w d) e (judged_right k)) (settled_stays u (judged_right j))

  -- FEEDING the samples of a judged file, one at a time, to a monitor that was opened: each is answered by a verdict,
  module _ {file : List ℕ} {d : Verdict} (j : Judged t file property (granted d)) {m : Monitor} (o : OpenIs t property (granted counts) m) where
    at_place : (v u : List ℕ) (x : ℕ) → samples_of file ≡ v ++ x ∷ u → (length v < cycles_of file) × (sample_at file (length v) ≡ x)
    at_place v u x e =
        let l : length v < cycles_of file = omega (arith, sym (length_samples file) ∙ ap length e ∙ length-append v (x ∷ u)) in
        (l, sym (sample_of file (length v) l) ∙ ap (λ (w : List ℕ). get_or w (length v) 0) e ∙ get_or-append_seam v x u 0)

    declared_in : (v u : List ℕ) (x : ℕ) → samples_of file ≡ v ++ x ∷ u → Judged t file property (granted d) → (¬ Undeclared t x) × (length v < count_limit)
    declared_in v u x e (given {counts = c} {cycles} a l k r) =
        let p = at_place v u x e in
        let g = accepted_gives c.signals file cycles k in
        let same : c ≡ counts = granted_one (sym a ∙ accepted) in
        let s = declared_at t file counts property cycles m (subst (λ (n : Counts). Declared n.signals file cycles) same g) o (length v) p.0 in
        (subst (λ (y : ℕ). ¬ Undeclared t y) p.1 s, omega (arith, p.0, g.right_trace.cycles))

    pub each_given : (v u : List ℕ) (x : ℕ) {before after : Monitor} {reply : Reply Verdict} → samples_of file ≡ v ++ x ∷ u
        → Chain t m v before → StepIs t before x reply after → (e : Verdict) × (reply ≡ granted e) × Right tree (v ++ x ∷ []) e
    each_given v u x e c s = let q = declared_in v u x e j in each_right t counts property m o c s q.0 q.1

    -- AND THE LAST ANSWER IS WHAT JUDGING SAYS; of a file without samples that is pending 0
    pub last_answer : (v : List ℕ) (x : ℕ) {before after : Monitor} {reply : Reply Verdict} → samples_of file ≡ v ++ x ∷ []
        → Chain t m v before → StepIs t before x reply after → reply ≡ granted d
    last_answer v x e c s =
        let h = each_given v [] x e c s in
        h.1 ∙ ap granted (one_verdict (subst (λ (w : List ℕ). Right tree w h.0) (sym e) h.2) (judged_right j))

  pub no_answer : {file : List ℕ} {d : Verdict} → Judged t file property (granted d) → samples_of file ≡ [] → d ≡ pending 0
  no_answer {file} {d} j e = one_verdict (subst (λ (w : List ℕ). Right tree w d) e (judged_right j)) (right_none tree)
