-- The downward pass over the property rows: what holds when the rows from n on are done.
use Prim.Native.Nat.{ℕ, zero, suc, ◌≤◌, ◌<◌}
use native.Mathlib.Omega.{arith}
use native.Mathlib.Decide.{dec_lt}
use mathlib.Core.Path.{◌≡◌, refl, sym, ◌∙◌, ap, ap₂, subst, fun_ext}
use mathlib.Core.Bool.{Bool, true, false, not, ◌&&◌, ◌||◌, or-false, and-true, and-false}
use mathlib.Core.List.{List}
use mathlib.Core.Logic.{◌⊎◌, inl, inr}
use lib.Dec.{ltb}
use borrow.Author.Tests.{eq-eqb, ne_eqb, lt-ltb, ltb-true}
use Rattle.psl.specs.Booleans.{bit}
use Rattle.psl.specs.Tells.{Tells, doesnt, tells_or, tells_iff, tells_value}
use Rattle.psl.proofs.Model.Nodes.{Node}
use Rattle.psl.proofs.Model.Step.{sends, keeps}
use Rattle.psl.proofs.Model.Pass.{pass}
use Rattle.psl.proofs.Model.Monitor.{Use, none, merged, ever, apart, use_of}
use Rattle.lanes.specs.State.{entered}
use Rattle.words.specs.Bits.{bit_none}
use Rattle.words.specs.Sets.{Highest}
use Rattle.engine.specs.Reads.{a_of}
use Rattle.engine.specs.Properties.{PropertyRow, PropertyRows, NeverHit, Passed}
use Rattle.engine.specs.PropertyVisits.{Stage, stage_of, visit_at, visited}
use Rattle.engine.specs.declared.properties.Letter.{Letter}
use Rattle.engine.specs.declared.properties.Pass.{Pass}
use Rattle.engine.proofs.TruthLaws.{clash}
use Rattle.engine.proofs.StepLaws.{breaks, breaks_never, never_breaks, Quiet, inert_quiet, Does, sends_lower, sends_reached, idle_quiet, visit_does, either}

and_none : (a b : Bool) → a || (b && false) ≡ a
and_none a true = or-false a
and_none a false = or-false a

-- ---- the pass as a function

module _ (node : ℕ → Node) (held : ℕ → Bool) (hit : ℕ → Bool → Bool) (x : ℕ) where
  pass_same : (n : ℕ) {s r : ℕ → Bool} → ((k : ℕ) → s k ≡ r k) → (m : ℕ) → pass node held hit x n s m ≡ pass node held hit x n r m
  pass_same n e m = ap (λ (f : ℕ → Bool). pass node held hit x n f m) (fun_ext e)

  pass_row : (n : ℕ) (s : ℕ → Bool) (m : ℕ) → pass node held hit x (suc n) s m ≡ pass node held hit x n (λ k. s k || sends (node n) (s n) (held n) (hit n (s n)) x k) m
  unfolding pass
  pass_row n s m = refl

  pass_end : (s : ℕ → Bool) (m : ℕ) → pass node held hit x 0 s m ≡ s m
  unfolding pass
  pass_end s m = refl

  -- rows that send nothing are skipped
  pass_skip : (n lo : ℕ) (s : ℕ → Bool) → lo ≤ n → ((j : ℕ) → lo ≤ j → j < n → (k : ℕ) → sends (node j) (s j) (held j) (hit j (s j)) x k ≡ false)
      → (m : ℕ) → pass node held hit x n s m ≡ pass node held hit x lo s m
  pass_skip zero lo s l q m = let e : lo ≡ 0 = omega arith in rw e
  pass_skip (suc n) lo s l q m = elim (dec_lt n lo) [
    | yes g ↦ (let e : lo ≡ suc n = omega arith in rw e)
    | no g ↦
        pass_row n s m ∙ pass_same n (λ k. ap (λ (b : Bool). s k || b) (q n (omega arith) (omega arith) k) ∙ or-false (s k)) m
        ∙ pass_skip n lo s (omega arith) (λ j a b. q j a (omega arith)) m
  ]

-- ---- the rows from n on are done

module _ (first was x root : ℕ) (node : ℕ → Node) (reached : ℕ → Bool) (hit : ℕ → Bool → Bool) where
  -- a never from n on breaks
  abbrev pub Broken : ℕ → (ℕ → Bool) → Type 0
  Broken n begin = (k : ℕ) × (n ≤ k) × (breaks (node k) (hit k (begin k)) ≡ true)

  pub record Sofar (n : ℕ) (s : Stage) : Type 0 where
    pub begins : (m : ℕ) → pass node (bit was) hit x n s.begin m ≡ pass node (bit was) hit x (suc root) (bit first) m
    pub helds : (k : ℕ) → n ≤ k → s.held k ≡ keeps (node k) (s.begin k) (bit was k) (hit k (s.begin k)) x
    pub unheld : (k : ℕ) → k < n → s.held k ≡ false
    pub broke : Tells (Broken n s.begin) s.broken
    pub inside : (k : ℕ) → s.begin k ≡ true → reached k ≡ true

  abbrev pub QuietAt : Stage → ℕ → Type 0
  QuietAt s k = Quiet (node k) (s.begin k) (bit was k) (hit k (s.begin k)) x

  sofar_skip : {n : ℕ} (lo : ℕ) {s : Stage} → Sofar n s → lo ≤ n → ((k : ℕ) → lo ≤ k → k < n → QuietAt s k) → Sofar lo s
  sofar_skip {n} lo {s} f l quiet = record {
    begins = λ m. sym (pass_skip node (bit was) hit x n lo s.begin l (λ j a b. (quiet j a b).no_sends) m) ∙ f.begins m;
    helds = λ k a. elim (dec_lt k n) [ yes b ↦ f.unheld k b ∙ sym (quiet k a b).no_keeps | no b ↦ f.helds k (omega arith) ];
    unheld = λ k a. f.unheld k (omega arith);
    broke = tells_iff (λ h. (h.0, omega (arith, h.1), h.2)) (λ h. (h.0, elim (dec_lt h.0 n) [ yes b ↦ clash h.2 (quiet h.0 h.1 b).no_breaks | no b ↦ omega arith ], h.2)) f.broke;
    inside = f.inside;
  }

  sofar_visit : {t : List ℕ} {l : Letter} {n : ℕ} {s r : Stage} → Sofar (suc n) s → PropertyRow t l x reached n (node n)
      → Does (node n) x n (bit was n) (hit n (s.begin n)) s r → Sofar n r
  sofar_visit {n = n} {s = s} {r = r} f row d = record {
    begins = λ m. pass_same node (bit was) hit x n d.sent m ∙ sym (pass_row node (bit was) hit x n s.begin m) ∙ f.begins m;
    helds = λ k a. elim (dec_lt n k) [
      | yes b ↦ other k (λ e. omega arith) ∙ f.helds k b ∙ sym (keeping k a)
      | no b ↦ (let e : k ≡ n = omega arith in rw e (here ∙ sym (keeping n (omega arith))))
    ];
    unheld = λ k a. other k (λ e. omega arith) ∙ f.unheld k (omega arith);
    broke = subst (Tells (Broken n r.begin)) (sym d.broke) (tells_iff forth back (tells_or f.broke (tells_value (breaks (node n) (hit n (s.begin n))))));
    inside = λ k e. either (s.begin k) (sends (node n) (s.begin n) (bit was n) (hit n (s.begin n)) x k) (sym (d.sent k) ∙ e) (f.inside k) (sends_reached row (s.begin n) (bit was n) (hit n (s.begin n)) k);
  }
    where
      -- rows from n on begin as before
      same : (k : ℕ) → n ≤ k → r.begin k ≡ s.begin k
      same k a = d.sent k ∙ ap (λ (b : Bool). s.begin k || b) (sends_lower row (s.begin n) (bit was n) (hit n (s.begin n)) k a) ∙ or-false (s.begin k)

      keeping : (k : ℕ) → n ≤ k → keeps (node k) (r.begin k) (bit was k) (hit k (r.begin k)) x ≡ keeps (node k) (s.begin k) (bit was k) (hit k (s.begin k)) x
      keeping k a = ap (λ (b : Bool). keeps (node k) b (bit was k) (hit k b) x) (same k a)

      kept : Bool
      kept = keeps (node n) (s.begin n) (bit was n) (hit n (s.begin n)) x

      other : (k : ℕ) → (k ≡ n → ⊥) → r.held k ≡ s.held k
      other k ne = d.held k ∙ ap (λ (b : Bool). s.held k || (kept && b)) (ne_eqb k n ne) ∙ and_none (s.held k) kept

      here : r.held n ≡ kept
      here = d.held n ∙ ap₂ (λ (a b : Bool). a || (kept && b)) (f.unheld n (omega arith)) (eq-eqb n n refl) ∙ and-true kept

      forth : Broken (suc n) s.begin ⊎ (breaks (node n) (hit n (s.begin n)) ≡ true) → Broken n r.begin
      forth (inl h) = (h.0, omega (arith, h.1), ap (λ (b : Bool). breaks (node h.0) (hit h.0 b)) (same h.0 (omega (arith, h.1))) ∙ h.2)
      forth (inr h) = (n, omega arith, ap (λ (b : Bool). breaks (node n) (hit n b)) (same n (omega arith)) ∙ h)

      back : Broken n r.begin → Broken (suc n) s.begin ⊎ (breaks (node n) (hit n (s.begin n)) ≡ true)
      back h = elim (dec_lt n h.0) [
        | yes b ↦ inl (h.0, b, sym (ap (λ (c : Bool). breaks (node h.0) (hit h.0 c)) (same h.0 h.1)) ∙ h.2)
        | no b ↦ inr (let e : n ≡ h.0 = omega (arith, h.1) in rw e (sym (ap (λ (c : Bool). breaks (node h.0) (hit h.0 c)) (same h.0 h.1)) ∙ h.2))
      ]

  sofar_end : {s : Stage} {begin held : ℕ} {broken : Bool} → s.begin ≡ bit begin → s.held ≡ bit held → s.broken ≡ broken → Sofar 0 s
      → Passed first was x root node hit begin held broken
  sofar_end {s} {begin} {held} {broken} p q r f = record {
    begin_is = λ m. sym (ap (λ (g : ℕ → Bool). g m) p) ∙ sym (pass_end node (bit was) hit x s.begin m) ∙ f.begins m;
    held_is = λ n. sym (ap (λ (g : ℕ → Bool). g n) q) ∙ f.helds n (omega arith) ∙ ap (λ (g : ℕ → Bool). keeps (node n) (g n) (bit was n) (hit n (g n)) x) p;
    broken_is = subst (Tells (NeverHit node hit (bit begin))) r (subst (λ (g : ℕ → Bool). Tells (NeverHit node hit g) s.broken) p
        (tells_iff (λ h. let z = breaks_never (node h.0) (hit h.0 (s.begin h.0)) h.2 in (h.0, z.0, z.1, z.2)) (λ h. (h.0, omega arith, never_breaks h.2 h.3)) f.broke));
  }

-- ---- the loop

entered_none : (u : Use) → entered u false false ≡ false
entered_none none = refl
entered_none (merged r) = refl
entered_none (ever r) = refl
entered_none (apart r) = refl

idle : (a b c d : Bool) → ((a || b) || c) && not d ≡ false → d ≡ false → (a ≡ false) × (b ≡ false) × (c ≡ false)
idle a b c true e f = clash refl f
idle false false false false e f = (refl, refl, refl)
idle true b c false e f = clash refl e
idle false true c false e f = clash refl e
idle false false true false e f = clash refl e

pub parts : (a b : Bool) → a && not b ≡ true → (a ≡ true) × (b ≡ false)
parts true true e = clash e refl
parts true false e = (refl, refl)
parts false b e = clash e refl

pub and_parts : (a b : Bool) → a && b ≡ true → (a ≡ true) × (b ≡ true)
and_parts true b e = (refl, e)
and_parts false b e = clash e refl

not_left : (a b : Bool) → a && b ≡ false → b ≡ true → a ≡ false
not_left true b e f = clash f e
not_left false b e f = refl

module _ (t : List ℕ) (leaves first : ℕ) (l : Letter) (x root : ℕ) (node : ℕ → Node) (reached : ℕ → Bool) (hit : ℕ → Bool → Bool) where
  -- some number is such that the rows from it on are done, and what is left are the rows to visit below it
  pub record Going (p : Pass) (left : ℕ) : Type 0 where
    pub from : ℕ
    pub sofar : Sofar first l.was x root node reached hit from (stage_of p)
    pub left_is : (k : ℕ) → bit left k ≡ visited p.begin l.was l.hits.ends leaves k && ltb k from

  module _ (rows : PropertyRows t leaves first l x root node reached hit) where
    quiet_row : (s : Stage) (k : ℕ) → ((s.begin k || bit l.was k) || bit l.hits.ends k) && not (bit leaves k) ≡ false
        → QuietAt first l.was x root node reached hit s k
    quiet_row s k e = go (reached k) refl (bit leaves k) refl
      where
        go : (r : Bool) → reached k ≡ r → (v : Bool) → bit leaves k ≡ v → QuietAt first l.was x root node reached hit s k
        go false er v ev = inert_quiet (rows.beyond k er) _ _ _ _
        go true er true ev = inert_quiet (rows.leaf k ev) _ _ _ _
        go true er false ev =
            let z = idle (s.begin k) (bit l.was k) (bit l.hits.ends k) (bit leaves k) e ev in
            rw (z.0, z.1) (idle_quiet (rows.row k er ev) (hit k false)
            (λ h. rows.hits k er ev h false ∙ rw (z.1, z.2, entered_none (use_of (node k))) (and-false (bit l.hits.early k || bit l.truth (a_of t k)))))

    -- a row that is visited is reached, and no leaf
    seen : (s : Stage) (k : ℕ) → ((j : ℕ) → s.begin j ≡ true → reached j ≡ true)
        → ((s.begin k || bit l.was k) || bit l.hits.ends k) && not (bit leaves k) ≡ true
        → ((s.begin k || bit l.was k) || bit l.hits.ends k ≡ true) × (bit leaves k ≡ false) × (reached k ≡ true)
    seen s k inside e = let z = parts ((s.begin k || bit l.was k) || bit l.hits.ends k) (bit leaves k) e in
        (z.0, z.1, either (s.begin k || bit l.was k) (bit l.hits.ends k) z.0 (λ a. either (s.begin k) (bit l.was k) a (inside k) (rows.was_in k)) (rows.ends_in k))

    pub going_start : (left : ℕ) → ((k : ℕ) → bit left k ≡ visited first l.was l.hits.ends leaves k) → Going (record { begin = first; held = 0; broken = false }) left
    unfolding stage_of
    going_start left is = record {
      from = suc root;
      sofar = record {
        begins = λ m. refl;
        helds = λ k a. bit_none k ∙ sym (inert_quiet (rows.beyond k (outside k a)) (bit first k) (bit l.was k) (hit k (bit first k)) x).no_keeps;
        unheld = λ k a. bit_none k;
        broke = doesnt (λ h. clash h.2 (inert_quiet (rows.beyond h.0 (outside h.0 h.1)) false false (hit h.0 (bit first h.0)) x).no_breaks);
        inside = rows.first_in;
      };
      left_is = λ k. is k ∙ low k (visited first l.was l.hits.ends leaves k) refl;
    }
      where
        outside : (k : ℕ) → suc root ≤ k → reached k ≡ false
        outside k a = go (reached k) refl
          where
            go : (b : Bool) → reached k ≡ b → b ≡ false
            go true e = absurd (omega (arith, rows.up_to_root k e))
            go false e = refl

        low : (k : ℕ) (b : Bool) → visited first l.was l.hits.ends leaves k ≡ b → b ≡ b && ltb k (suc root)
        low k false e = refl
        low k true e = sym (lt-ltb k (suc root) (omega (arith, rows.up_to_root k (seen (record { begin = bit first; held = bit 0; broken = false }) k rows.first_in e).2)))

    pub start_from : (left : ℕ) (is : (k : ℕ) → bit left k ≡ visited first l.was l.hits.ends leaves k) → (going_start left is).from ≡ suc root
    unfolding going_start
    start_from left is = refl

    -- the highest row of those that are left is taken
    module _ {p : Pass} {left n : ℕ} (g : Going p left) (some : 0 < left) (high : Highest left n) where
      abbrev s : Stage
      s = stage_of p

      f : Sofar first l.was x root node reached hit g.from s
      f = g.sofar

      both : (visited p.begin l.was l.hits.ends leaves n ≡ true) × (ltb n g.from ≡ true)
      both = and_parts (visited p.begin l.was l.hits.ends leaves n) (ltb n g.from) (sym (g.left_is n) ∙ high.set some)

      at : ((s.begin n || bit l.was n) || bit l.hits.ends n ≡ true) × (bit leaves n ≡ false) × (reached n ≡ true)
      unfolding stage_of
      at = seen s n f.inside both.0

      pub under : n < g.from
      under = ltb-true n g.from both.1

      row : PropertyRow t l x reached n (node n)
      row = rows.row n at.2 at.1

      done : Sofar first l.was x root node reached hit (suc n) s
      unfolding stage_of
      done = sofar_skip first l.was x root node reached hit (suc n) f under
          (λ k a b. quiet_row s k (not_left (visited p.begin l.was l.hits.ends leaves k) (ltb k g.from) (sym (g.left_is k) ∙ high.above k a) (lt-ltb k g.from b)))

      does_it : Does (node n) x n (bit l.was n) (hit n (s.begin n)) s (visit_at t n l s)
      does_it = visit_does t l x n reached (high.small some) s (hit n (s.begin n)) at.0 (rows.ends_over n) row (rows.was_kept n) (λ k. rows.hits n at.2 at.1 k (s.begin n))

      module _ (r : Pass) (step : stage_of r ≡ visit_at t n l (stage_of p)) where
        pub going_turn : (rest : ℕ) → ((k : ℕ) → bit rest k ≡ visited r.begin l.was l.hits.ends leaves k && ltb k n) → Going r rest
        going_turn rest is = record {
          from = n;
          sofar = subst (Sofar first l.was x root node reached hit n) (sym step) (sofar_visit first l.was x root node reached hit done row does_it);
          left_is = is;
        }

        pub turn_from : (rest : ℕ) (is : (k : ℕ) → bit rest k ≡ visited r.begin l.was l.hits.ends leaves k && ltb k n) → (going_turn rest is).from ≡ n
        unfolding going_turn
        turn_from rest is = refl

        -- rows from n on begin as before
        pub begin_above : (k : ℕ) → n ≤ k → bit r.begin k ≡ bit p.begin k
        unfolding stage_of
        begin_above k a =
            ap (λ (z : Stage). z.begin k) step ∙ does_it.sent k
            ∙ ap (λ (b : Bool). bit p.begin k || b) (sends_lower row (s.begin n) (bit l.was n) (hit n (s.begin n)) k a) ∙ or-false (bit p.begin k)

    pub going_end : {p : Pass} → Going p 0 → Passed first l.was x root node hit p.begin p.held p.broken
    unfolding stage_of
    going_end {p} g = sofar_end first l.was x root node reached hit refl refl refl
        (sofar_skip first l.was x root node reached hit 0 g.sofar (omega arith)
        (λ k a b. quiet_row (stage_of p) k (not_left (visited p.begin l.was l.hits.ends leaves k) (ltb k g.from) (sym (g.left_is k) ∙ bit_none k) (lt-ltb k g.from b))))
