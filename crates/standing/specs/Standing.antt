-- HOW ALL PROPERTIES OF A TABLE STAND TOGETHER on a trace file, and the exit status that tells it: 0 only if every property is settled;
-- 1 if one is broken; 3 if none is broken and one is pending; 4 refused.
use Rattle.std.specs.Prelude.{ℕ, ◌<◌, List, ◌≡◌, refl}
use Rattle.std.proofs.Common.{arith, sym, ◌∙◌, subst}
use Rattle.psl.specs.Verdicts.{Verdict, broken, settled, pending}
use Rattle.table.specs.Reply.{refused, granted, not_both, granted_one, refused_one}
use Rattle.table.specs.Check.{table_reply}
use Rattle.table.proofs.Facts.Accepted.{granted_subset}
use Rattle.table.proofs.Laws.Runs.{clash}
use Rattle.table.specs.declared.Counts.{Counts}
use Rattle.table.specs.declared.Refusal.{Refusal}
use Rattle.monitor.specs.Unique.{too_far}
use Rattle.trace.specs.Judging.{Judged, no_table, no_property, no_trace, given}
use Rattle.trace.specs.Unique.{judged_one}
use Rattle.standing.specs.declared.Standing.{Standing}
use Rattle.standing.specs.declared.Standing.TheVariants.{Settled, Broken, Pending, Refused}

-- Of an accepted table, p numbers a property.
abbrev pub Numbered : List ℕ → ℕ → Type 0
Numbered t p = (counts : Counts) → table_reply t ≡ granted counts → p < counts.properties

-- The properties of an accepted table are those below its P.
pub data Stands (t file : List ℕ) : Standing → Type 0 where
  -- the reply to property 0 is this refusal, and so is that to each other one: `refused_each`
  is_refused : {r : Refusal} → Judged t file 0 (refused r.number r.place) → Stands t file (Refused r)
  -- every property is settled
  is_settled : {counts : Counts} → table_reply t ≡ granted counts
      → ((p : ℕ) → p < counts.properties → (n : ℕ) × Judged t file p (granted (settled n)))
      → Stands t file Settled
  -- one is broken
  is_broken : {counts : Counts} {p n : ℕ} → table_reply t ≡ granted counts → p < counts.properties
      → Judged t file p (granted (broken n))
      → Stands t file Broken
  -- none is broken and one is pending
  is_pending : {counts : Counts} {p n : ℕ} → table_reply t ≡ granted counts → p < counts.properties
      → Judged t file p (granted (pending n)) → ((q m : ℕ) → q < counts.properties → ¬ Judged t file q (granted (broken m)))
      → Stands t file Pending

abbrev pub status_of : Standing → ℕ
status_of Settled = 0
status_of Broken = 1
status_of Pending = 3
status_of (Refused r) = 4

-- 0 ONLY IF every property of an accepted table is settled on the file
pub zero_settled : {t file : List ℕ} {s : Standing} → Stands t file s → status_of s ≡ 0
    → (counts : Counts) × (table_reply t ≡ granted counts) × ((p : ℕ) → p < counts.properties → (n : ℕ) × Judged t file p (granted (settled n)))
zero_settled (is_settled {counts = c} e all) z = (c, e, all)
zero_settled (is_refused j) z = absurd (omega arith)
zero_settled (is_broken e l j) z = absurd (omega arith)
zero_settled (is_pending e l j none) z = absurd (omega arith)

-- ---- A refusal of one property is one of each, so that property 0 tells

pub numbered_first : (t : List ℕ) → Numbered t 0
numbered_first t counts e = omega (arith, (granted_subset t counts e).layout.properties_range.0)

pub refused_each : {t file : List ℕ} {p q number place : ℕ} → Numbered t p → Numbered t q
    → Judged t file p (refused number place) → Judged t file q (refused number place)
refused_each n m (no_table e) = no_table e
refused_each {t} n m (no_property {counts = c} e l) = absurd (too_far t e e l (n c e))
refused_each n m (no_trace {counts = c} e l r) = no_trace e (m c e) r

-- one table has one P
pub below : (t : List ℕ) {p : ℕ} {c d : Counts} → table_reply t ≡ granted c → table_reply t ≡ granted d → p < c.properties → p < d.properties
below t {p} e f l = subst (λ (k : Counts). p < k.properties) (granted_one (sym e ∙ f)) l

numbered : {t file : List ℕ} {p : ℕ} {d : Verdict} → Judged t file p (granted d) → Numbered t p
numbered {t} (given e l f r) counts g = below t e g l

refused_given : {t file : List ℕ} {p number place : ℕ} {d : Verdict} → Judged t file 0 (refused number place) → Judged t file p (granted d) → ⊥
refused_given {t} j k = not_both (judged_one (refused_each (numbered_first t) (numbered k) j) k)

-- ---- ANY TWO STANDINGS THAT `judged` MAY ANSWER ARE EQUAL

settled_refused : {t file : List ℕ} {number place : ℕ} {c : Counts} → table_reply t ≡ granted c
    → ((p : ℕ) → p < c.properties → (n : ℕ) × Judged t file p (granted (settled n))) → Judged t file 0 (refused number place) → ⊥
settled_refused {t} {c = c} e all j = refused_given j (all 0 (numbered_first t c e)).1

settled_broken : {t file : List ℕ} {p n m : ℕ} → Judged t file p (granted (settled n)) → Judged t file p (granted (broken m)) → ⊥
settled_broken j k = let e = judged_one j k in clash cc

settled_pending : {t file : List ℕ} {p n m : ℕ} → Judged t file p (granted (settled n)) → Judged t file p (granted (pending m)) → ⊥
settled_pending j k = let e = judged_one j k in clash cc

pub stands_one : {t file : List ℕ} {a b : Standing} → Stands t file a → Stands t file b → a ≡ b
stands_one (is_refused j) (is_refused k) = let h = refused_one (judged_one j k) in λ i. Refused (record { number = h.0 i; place = h.1 i })
stands_one (is_refused j) (is_settled e all) = absurd (settled_refused e all j)
stands_one (is_refused j) (is_broken e l k) = absurd (refused_given j k)
stands_one (is_refused j) (is_pending e l k none) = absurd (refused_given j k)
stands_one (is_settled e all) (is_refused j) = absurd (settled_refused e all j)
stands_one (is_settled e all) (is_settled f every) = refl
stands_one {t} (is_settled e all) (is_broken f l k) = absurd (settled_broken (all _ (below t f e l)).1 k)
stands_one {t} (is_settled e all) (is_pending f l k none) = absurd (settled_pending (all _ (below t f e l)).1 k)
stands_one (is_broken e l j) (is_refused k) = absurd (refused_given k j)
stands_one {t} (is_broken e l j) (is_settled f all) = absurd (settled_broken (all _ (below t e f l)).1 j)
stands_one (is_broken e l j) (is_broken f m k) = refl
stands_one {t} (is_broken e l j) (is_pending f m k none) = absurd (none _ _ (below t e f l) j)
stands_one (is_pending e l j none) (is_refused k) = absurd (refused_given k j)
stands_one {t} (is_pending e l j none) (is_settled f all) = absurd (settled_pending (all _ (below t e f l)).1 j)
stands_one {t} (is_pending e l j none) (is_broken f m k) = absurd (none _ _ (below t f e m) k)
stands_one (is_pending e l j none) (is_pending f m k nil) = refl
