-- THE THREE DEMANDS of a monitor, end to end: over any openings and steps that the contracts of `open` and of `step` allow; those of `advance` and `step_lent` are
-- that of `step`. To believe: `OpenIs`, `StepIs`, `table_reply`, `property_of`, `Undeclared`, and of psl `Breaks`, `Secures`, `Right`. What a monitor keeps inside is
-- in no statement here.
use Rattle.std.specs.Prelude.{ℕ, ◌≤◌, ◌<◌, ◌≡◌, refl, ◌⊎◌, List, [], ◌∷◌, ◌++◌, length}
use Rattle.std.proofs.Common.{arith, sym, ◌∙◌, ap, subst, inl, inr, append_assoc, append-nil, take_all}
use Rattle.std.proofs.Math.Decide.{dec_lt}
use Rattle.psl.specs.Properties.{Property, Breaks, Secures}
use Rattle.psl.specs.Verdicts.{broken, settled, pending, NoStretch, Right}
use Rattle.psl.specs.Verdicts as Psl
use Rattle.psl.proofs.Laws.{never_both, one_verdict, broken_stays, settled_stays, broken_breaks, settled_unbroken, pending_unbroken, pending_unsecured}
use Rattle.table.specs.Reply.{Reply, refused, granted, not_both, granted_one}
use Rattle.table.specs.Trees.{property_of}
use Rattle.table.specs.Check.{table_reply}
use Rattle.table.specs.declared.Counts.{Counts}
use Rattle.table.proofs.Laws.Runs.{clash}
use Rattle.monitor.specs.declared.Monitor.{Monitor}
use Rattle.monitor.specs.declared.verdict.Verdict.{Verdict}
use Rattle.monitor.specs.declared.verdict.Verdict.TheVariants.{Broken, Settled, Pending}
use Rattle.monitor.specs.Opens.{count_limit, Shut, OpenIs, no_table, no_property, opened}
use Rattle.monitor.specs.Follows.{verdict_of, signals_of, Undeclared, DeclaredStep, StepIs}
use Rattle.monitor.specs.Unique.{too_far}
use Rattle.monitor.specs.Fed.{undeclared_test, counted, Fed, fed_right, fed_opened, fed_signals, fed_step, fed_granted, refused_stays}

-- What a recorder does with a monitor m: it feeds one sample after the other, by steps on the same table. The samples v are those that were answered by a verdict, in
-- their order; a refused one does not count.
pub data Chain (t : List ℕ) (m : Monitor) : List ℕ → Monitor → Type 0 where
  begun : Chain t m [] m
  given : {v : List ℕ} {before after : Monitor} {x : ℕ} {d : Psl.Verdict} → Chain t m v before → StepIs t before x (granted d) after
      → Chain t m (v ++ x ∷ []) after
  turned_away : {v : List ℕ} {before after : Monitor} {x number place : ℕ} → Chain t m v before → StepIs t before x (refused number place) after
      → Chain t m v after

-- ---- DEMAND 1: a refusal gives its number and place and no verdict; a refused cycle leaves the monitor as it was. (That every call ends with an answer is what a
-- contract of the language says of a function without `requires`; which answer it is, refusals exactly then, is here and in `answered` below.)

-- opened exactly if the table is accepted and the property's number is below P; else refused, by the table's refusal or by 12
pub opens : {t : List ℕ} {property : ℕ} {counts : Counts} {m : Monitor} → OpenIs t property (granted counts) m
    → (table_reply t ≡ granted counts) × (property < counts.properties)
opens (opened e l blank ready) = (e, l)

pub opens_so : {t : List ℕ} {property : ℕ} {counts : Counts} {reply : Reply Counts} {m : Monitor} → table_reply t ≡ granted counts → property < counts.properties
    → OpenIs t property reply m → reply ≡ granted counts
opens_so a l (no_table e s) = absurd (not_both (sym e ∙ a))
opens_so {t} a l (no_property e k s) = absurd (too_far t e a k l)
opens_so a l (opened e k blank ready) = sym e ∙ a

pub opens_not : {t : List ℕ} {property number place : ℕ} {m : Monitor} → OpenIs t property (refused number place) m
    → (table_reply t ≡ refused number place)
    ⊎ (number ≡ 12) × (place ≡ 0) × (counts : Counts) × (table_reply t ≡ granted counts) × (counts.properties ≤ property)
opens_not (no_table e s) = inl e
opens_not (no_property {counts} e l s) = inr (refl, refl, counts, e, l)

-- A REFUSED OPENING GIVES NO VERDICT, on whatever table u it is stepped: each sample is refused, by 13 or 14, and the monitor is the one before, so that any further
-- step is one of that monitor again
shut_of : {t : List ℕ} {property number place : ℕ} {m : Monitor} → OpenIs t property (refused number place) m → Shut m
shut_of (no_table e s) = s
shut_of (no_property e l s) = s

pub refused_opening : {t u : List ℕ} {property number place x : ℕ} {m after : Monitor} {reply : Reply Psl.Verdict}
    → OpenIs t property (refused number place) m → StepIs u m x reply after
    → (Undeclared u x → reply ≡ refused 13 0) × (¬ Undeclared u x → reply ≡ refused 14 0) × (after ≡ m)
refused_opening {t} {u} {property} {number} {place} {x} {m} {after} {reply} o s =
    (λ d. (s.undeclared d).0, λ d. (full d).0, elim (undeclared_test u x) [ yes d ↦ (s.undeclared d).1 | no d ↦ (full d).1 ])
  where
    full : ¬ Undeclared u x → (reply ≡ refused 14 0) × (after ≡ m)
    full d = (subst (DeclaredStep u m x reply after) (shut_of o).verdict_is (s.declared d)).0 (omega arith)

-- a refused cycle leaves the monitor as it was: of any monitor, also of one that was made up
pub refused_cycle : {t : List ℕ} {m after : Monitor} {x number place : ℕ} → StepIs t m x (refused number place) after → after ≡ m
refused_cycle {t} {m} {after} {x} {number} {place} s = refused_stays t m x after number place s

-- ---- WHAT IS ANSWERED to a sample x after the samples v, of a property f of the accepted table t: demand 1's refusals exactly then, else demand 2's verdict.
pub data Answered (t : List ℕ) (f : Property) (v : List ℕ) (x : ℕ) : Reply Psl.Verdict → Type 0 where
  -- "13: a sample sets a bit S or above"
  undeclared : Undeclared t x → Answered t f v x (refused 13 0)
  -- "14: 4,294,967,295 cycles already read, still pending"
  full : ¬ Undeclared t x → count_limit ≤ length v → Right f v (pending (length v)) → Answered t f v x (refused 14 0)
  -- else the right verdict on the samples so far, this one included: the shortest stretch that breaks, the shortest that secures, else pending
  right : {d : Psl.Verdict} → ¬ Undeclared t x → Right f (v ++ x ∷ []) d → Answered t f v x (granted d)

-- ---- WHAT A VERDICT PROMISES of the samples w that it was given for, whatever is read later (demand 3)
abbrev pub Promised : Property → List ℕ → Psl.Verdict → Type 0
Promised f w (broken n) = (u : List ℕ) → Breaks f (w ++ u)
Promised f w (settled n) = (u : List ℕ) → ¬ Breaks f (w ++ u)
Promised f w (pending n) = (¬ Breaks f w) × (¬ Secures f w)

pub right_promised : (f : Property) (w : List ℕ) (d : Psl.Verdict) → Right f w d → Promised f w d
right_promised f w (broken n) r = λ u. broken_breaks u r
right_promised f w (settled n) r = λ u. settled_unbroken u r
right_promised f w (pending n) r = (whole (Breaks f) (pending_unbroken r), whole (Secures f) (pending_unsecured r))
  where
    whole : (P : List ℕ → Type 0) → NoStretch P w → ¬ P w
    whole P none h = none (length w) (omega arith) (subst P (sym (take_all (length w) w (omega arith))) h)

-- no stretch does both
pub no_stretch_both : (f : Property) (w : List ℕ) → Breaks f w → ¬ Secures f w
no_stretch_both f w b s = never_both f w b s

join : {t v : List ℕ} {m between : Monitor} {u : List ℕ} {after : Monitor} → Chain t m v between → Chain t between u after → Chain t m (v ++ u) after
join {t} {v} {m} {between} c begun = subst (λ (w : List ℕ). Chain t m w between) (sym (append-nil v)) c
join {t} {v} {m} c (given {v = u'} {after = after} {x = x} k s) = subst (λ (w : List ℕ). Chain t m w after) (append_assoc v u' (x ∷ [])) (given (join c k) s)
join c (turned_away k s) = turned_away (join c k) s

-- ---- OF A MONITOR m THAT WAS OPENED for property number `property` of the table t
module _ (t : List ℕ) (counts : Counts) (property : ℕ) (m : Monitor) (o : OpenIs t property (granted counts) m) where
  abbrev tree : Property
  tree = property_of t counts.nodes property

  fed_so : {v : List ℕ} {after : Monitor} → Chain t m v after → Fed t counts property v after
  fed_so begun = fed_opened t counts property m o
  fed_so (given {v} {before} {after} {x} {d} c s) = (fed_granted t counts property v before x (fed_so c) d after s).1
  fed_so (turned_away {v} {before} {after} {x} {number} {place} c s) = subst (Fed t counts property v) (sym (refused_stays t before x after number place s)) (fed_so c)

  -- the signals that a sample is held to are the table's S
  pub its_signals : signals_of t ≡ counts.signals
  its_signals = fed_signals t counts property [] m 0 (fed_so begun)

  -- DEMANDS 1 AND 2: every sample is answered so
  module _ {v : List ℕ} {before after : Monitor} {x : ℕ} {reply : Reply Psl.Verdict} (c : Chain t m v before) (s : StepIs t before x reply after) where
    declared_so : ¬ Undeclared t x → (before.stand.verdict ≡ Pending (length v) → length v < count_limit) → Answered t tree v x reply
    declared_so d low =
        let h = fed_step t counts property v before x (fed_so c) reply after low d s in
        subst (Answered t tree v x) (sym h.0) (right d (fed_right t counts property (v ++ x ∷ []) after h.1))

    long_so : ¬ Undeclared t x → count_limit ≤ length v → (e : Verdict) → before.stand.verdict ≡ e → Answered t tree v x reply
    long_so d l (Broken n) q = declared_so d (λ p. let e : Broken n ≡ Pending (length v) = sym q ∙ p in clash cc)
    long_so d l (Settled n) q = declared_so d (λ p. let e : Settled n ≡ Pending (length v) = sym q ∙ p in clash cc)
    long_so d l (Pending n) q =
        let r = subst (λ (e : Verdict). Right tree v (verdict_of e)) q (fed_right t counts property v before (fed_so c)) in
        let k : n ≡ length v = counted r in
        subst (Answered t tree v x) (sym ((subst (DeclaredStep t before x reply after) q (s.declared d)).0 (omega arith)).0)
        (full d l (subst (λ (j : ℕ). Right tree v (pending j)) k r))

    pub answered : Answered t tree v x reply
    answered = elim (undeclared_test t x) [
      | yes u ↦ subst (Answered t tree v x) (sym (s.undeclared u).0) (undeclared u)
      | no d ↦ elim (dec_lt (length v) count_limit) [ yes l ↦ declared_so d (λ e. l) | no l ↦ long_so d (omega arith) before.stand.verdict refl ]
    ]

  -- DEMAND 2: a declared sample up to the count limit is given the right verdict on the samples so far
  pub each_right : {v : List ℕ} {before after : Monitor} {x : ℕ} {reply : Reply Psl.Verdict} → Chain t m v before → StepIs t before x reply after
      → ¬ Undeclared t x → length v < count_limit → (d : Psl.Verdict) × (reply ≡ granted d) × Right tree (v ++ x ∷ []) d
  each_right {v} {x = x} c s n l = by (answered c s)
    where
      by : {reply : Reply Psl.Verdict} → Answered t tree v x reply → (d : Psl.Verdict) × (reply ≡ granted d) × Right tree (v ++ x ∷ []) d
      by (undeclared u) = absurd (n u)
      by (full _ k r) = absurd (omega arith)
      by (right {d} _ r) = (d, refl, r)

  -- DEMAND 3: what was given is right, also past the count limit, and may be relied on
  pub given_right : {v : List ℕ} {before after : Monitor} {x : ℕ} {d : Psl.Verdict} → Chain t m v before → StepIs t before x (granted d) after
      → Right tree (v ++ x ∷ []) d
  given_right {v} {x = x} c s = by refl (answered c s)
    where
      by : {d : Psl.Verdict} {reply : Reply Psl.Verdict} → reply ≡ granted d → Answered t tree v x reply → Right tree (v ++ x ∷ []) d
      by e (undeclared u) = absurd (not_both e)
      by e (full _ k r) = absurd (not_both e)
      by e (right _ r) = subst (Right tree (v ++ x ∷ [])) (granted_one e) r

  pub given_promised : {v : List ℕ} {before after : Monitor} {x : ℕ} {d : Psl.Verdict} → Chain t m v before → StepIs t before x (granted d) after
      → Promised tree (v ++ x ∷ []) d
  given_promised {v} {x = x} {d} c s = right_promised tree (v ++ x ∷ []) d (given_right c s)

  -- BROKEN STAYS BROKEN, SETTLED STAYS SETTLED, with its cycle, along any longer chain, past the count limit too: each later declared sample y is answered so
  again : {w : List ℕ} {y : ℕ} {reply : Reply Psl.Verdict} {d : Psl.Verdict} → Right tree w d → Right tree (w ++ y ∷ []) d
      → ¬ (d ≡ pending (length w)) → ¬ Undeclared t y
      → Answered t tree w y reply → reply ≡ granted d
  again r q over n (undeclared u) = absurd (n u)
  again r q over n (full _ l p) = absurd (over (one_verdict r p))
  again r q over n (right _ p) = ap granted (one_verdict p q)

  module _ {v u : List ℕ} {before now later after : Monitor} {x y n : ℕ} {reply : Reply Psl.Verdict} (c : Chain t m v before) (on : Chain t now u later)
      (declared : ¬ Undeclared t y) (s : StepIs t later y reply after) where
    pub broken_again : StepIs t before x (granted (broken n)) now → reply ≡ granted (broken n)
    broken_again e =
        let r = broken_stays u (given_right c e) in
        again r (broken_stays (y ∷ []) r) (λ p. clash cc) declared (answered (join (given c e) on) s)

    pub settled_again : StepIs t before x (granted (settled n)) now → reply ≡ granted (settled n)
    settled_again e =
        let r = settled_stays u (given_right c e) in
        again r (settled_stays (y ∷ []) r) (λ p. clash cc) declared (answered (join (given c e) on) s)
