-- ADDING ONE ANSWER AFTER THE OTHER comes to how all properties stand: why `judged` is right. Nothing here has to be believed.
use Rattle.std.specs.Prelude.{ℕ, ◌+◌, ◌≤◌, ◌<◌, List, ◌≡◌, Result, Ok, Err}
use Rattle.std.proofs.Common.{arith, sym, ◌∙◌, ap, subst}
use Rattle.std.proofs.Math.Decide.{dec_lt}
use Rattle.psl.specs.Verdicts as Psl
use Rattle.psl.specs.Verdicts.{broken, settled, pending}
use Rattle.little.specs.Bytes.{u16_at}
use Rattle.table.specs.Reply.{refused, granted}
use Rattle.table.specs.Check.{table_reply}
use Rattle.table.proofs.Facts.Accepted.{granted_subset}
use Rattle.table.proofs.Laws.Runs.{clash}
use Rattle.table.specs.declared.Counts.{Counts}
use Rattle.table.specs.declared.Refusal.{Refusal}
use Rattle.monitor.specs.Follows.{answer_reply}
use Rattle.monitor.specs.declared.verdict.Verdict.{Verdict}
use Rattle.monitor.specs.declared.verdict.Verdict.TheVariants as Said
use Rattle.trace.specs.Judging.{Judged, given}
use Rattle.trace.specs.Unique.{judged_one}
use Rattle.standing.specs.Standing.{Stands, is_refused, is_settled, is_broken, is_pending, numbered_first, refused_each, below}
use Rattle.standing.specs.declared.Standing.{Standing}
use Rattle.standing.specs.declared.Standing.TheVariants.{Settled, Broken, Pending, Refused}

-- What the code answers, case by case.
abbrev pub with_broken : Standing → Standing
with_broken Settled = Broken
with_broken Broken = Broken
with_broken Pending = Broken
with_broken (Refused r) = Refused r

abbrev pub with_pending : Standing → Standing
with_pending Settled = Pending
with_pending Broken = Broken
with_pending Pending = Pending
with_pending (Refused r) = Refused r

abbrev pub stands_as : Verdict → Standing
stands_as (Said.Broken n) = Broken
stands_as (Said.Settled n) = Settled
stands_as (Said.Pending n) = Pending

abbrev pub with_verdict : Standing → Verdict → Standing
with_verdict s (Said.Broken n) = with_broken s
with_verdict s (Said.Settled n) = s
with_verdict s (Said.Pending n) = with_pending s

abbrev pub with_answer : Standing → Result Verdict Refusal → Standing
with_answer s (Err r) = Refused r
with_answer s (Ok verdict) = with_verdict s verdict

-- How the properties below k stand.
pub data StandsBelow (t file : List ℕ) (k : ℕ) : Standing → Type 0 where
  below_refused : {r : Refusal} {p : ℕ} → p < k → Judged t file p (refused r.number r.place) → StandsBelow t file k (Refused r)
  below_settled : ((p : ℕ) → p < k → (n : ℕ) × Judged t file p (granted (settled n))) → StandsBelow t file k Settled
  below_broken : {p n : ℕ} → p < k → Judged t file p (granted (broken n)) → StandsBelow t file k Broken
  below_pending : {p n : ℕ} → p < k → Judged t file p (granted (pending n))
      → ((q m : ℕ) → q < k → ¬ Judged t file q (granted (broken m))) → StandsBelow t file k Pending

pub below_none : {t file : List ℕ} → StandsBelow t file 0 Settled
below_none = below_settled (λ p l. absurd (omega arith))

pub below_as : {t file : List ℕ} {k m : ℕ} {s : Standing} → k ≡ m → StandsBelow t file k s → StandsBelow t file m s
below_as {t} {file} {s = s} e b = subst (λ (k : ℕ). StandsBelow t file k s) e b

-- ---- One answer more

-- a property below k + 1 is below k or the new one
up_to : (P : ℕ → Type 0) (k q : ℕ) → q < k + 1 → (q < k → P q) → P k → P q
up_to P k q l f h = elim (dec_lt q k) [ yes m ↦ f m | no m ↦ (let e : k ≡ q = omega arith in subst P e h) ]

abbrev NotBroken : List ℕ → List ℕ → ℕ → Type 0
NotBroken t file q = (m : ℕ) → ¬ Judged t file q (granted (broken m))

settled_not : {t file : List ℕ} {k n : ℕ} → Judged t file k (granted (settled n)) → NotBroken t file k
settled_not h m b = let e = judged_one h b in clash cc

pending_not : {t file : List ℕ} {k n : ℕ} → Judged t file k (granted (pending n)) → NotBroken t file k
pending_not h m b = let e = judged_one h b in clash cc

module _ (t file : List ℕ) (k : ℕ) where
  -- one more below, and the new one itself
  more : {p : ℕ} → p < k → p < k + 1
  more l = omega arith

  new : k < k + 1
  new = omega arith

  none_broken : ((q m : ℕ) → q < k → ¬ Judged t file q (granted (broken m))) → NotBroken t file k
      → (q m : ℕ) → q < k + 1 → ¬ Judged t file q (granted (broken m))
  none_broken none h q m l = up_to (NotBroken t file) k q l (λ b m'. none q m' b) h m

  broken_more : {s : Standing} {n : ℕ} → StandsBelow t file k s → Judged t file k (granted (broken n)) → StandsBelow t file (k + 1) (with_broken s)
  broken_more (below_refused l j) h = below_refused (more l) j
  broken_more (below_settled all) h = below_broken new h
  broken_more (below_broken l j) h = below_broken new h
  broken_more (below_pending l j none) h = below_broken new h

  settled_more : {s : Standing} {n : ℕ} → StandsBelow t file k s → Judged t file k (granted (settled n)) → StandsBelow t file (k + 1) s
  settled_more (below_refused l j) h = below_refused (more l) j
  settled_more {n = n} (below_settled all) h =
      below_settled (λ p l. up_to (λ (q : ℕ). (m : ℕ) × Judged t file q (granted (settled m))) k p l (all p) (n, h))
  settled_more (below_broken l j) h = below_broken (more l) j
  settled_more (below_pending l j none) h = below_pending (more l) j (none_broken none (settled_not h))

  pending_more : {s : Standing} {n : ℕ} → StandsBelow t file k s → Judged t file k (granted (pending n)) → StandsBelow t file (k + 1) (with_pending s)
  pending_more (below_refused l j) h = below_refused (more l) j
  pending_more (below_settled all) h = below_pending new h (none_broken (λ q m l. settled_not (all q l).1 m) (pending_not h))
  pending_more (below_broken l j) h = below_broken (more l) j
  pending_more (below_pending l j none) h = below_pending (more l) j (none_broken none (pending_not h))

  pub answer_more : (s : Standing) (a : Result Verdict Refusal) → StandsBelow t file k s → Judged t file k (answer_reply a) → StandsBelow t file (k + 1) (with_answer s a)
  answer_more s (Err r) b j = below_refused new j
  answer_more s (Ok (Said.Broken n)) b j = broken_more b j
  answer_more s (Ok (Said.Settled n)) b j = settled_more b j
  answer_more s (Ok (Said.Pending n)) b j = pending_more b j

-- ---- All of them

all_below : (t file : List ℕ) {counts : Counts} {s : Standing} → table_reply t ≡ granted counts
    → StandsBelow t file counts.properties s → Stands t file s
all_below t file e (below_refused l j) = is_refused (refused_each (λ c f. below t e f l) (numbered_first t) j)
all_below t file e (below_settled all) = is_settled e all
all_below t file e (below_broken l j) = is_broken e l j
all_below t file e (below_pending l j none) = is_pending e l j none

-- P is where the code reads it.
pub table_stands : (t file : List ℕ) {p : ℕ} {d : Psl.Verdict} (s : Standing) → Judged t file p (granted d)
    → (1 ≤ u16_at t 6 → StandsBelow t file (u16_at t 6) s) → Stands t file s
table_stands t file s (given {counts = c} e l f r) b =
    let y = (granted_subset t c e).layout in
    all_below t file e (below_as y.properties (b (omega (arith, y.properties, y.properties_range.0))))

-- ---- What the first answer tells

pub first_refused : (t file : List ℕ) (a : Result Verdict Refusal) (s : Standing) {r : Refusal} → a ≡ Err r → Judged t file 0 (answer_reply a)
    → s ≡ with_answer Settled a → Stands t file s
first_refused t file a s e j w =
    subst (Stands t file) (sym (w ∙ ap (with_answer Settled) e)) (is_refused (subst (λ (x : Result Verdict Refusal). Judged t file 0 (answer_reply x)) e j))

pub first_given : (t file : List ℕ) (a : Result Verdict Refusal) (s z : Standing) {v : Verdict} → a ≡ Ok v → Judged t file 0 (answer_reply a)
    → s ≡ with_answer Settled a → (1 ≤ u16_at t 6 → StandsBelow t file 1 s → StandsBelow t file (u16_at t 6) z) → Stands t file z
first_given t file a s z {v} e j w more =
    table_stands t file z (subst (λ (x : Result Verdict Refusal). Judged t file 0 (answer_reply x)) e j)
    (λ l. more l (subst (StandsBelow t file 1) (sym w) (answer_more t file 0 Settled a below_none j)))
