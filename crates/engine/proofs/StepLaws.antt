-- What one property row sends, keeps and breaks: that its visit does so, and that a row which is not visited does nothing.
use Prim.Native.Nat.{ℕ, ◌%◌, ◌≤◌, ◌<◌}
use native.Mathlib.Nat.{mod-eq_of_lt}
use native.Mathlib.Omega.{arith}
use mathlib.Core.Path.{◌≡◌, refl, sym, ◌∙◌, ap}
use mathlib.Core.Bool.{Bool, true, false, not, ◌&&◌, ◌||◌, or-false, or_assoc, or_comm, and-false}
use mathlib.Core.List.{List}
use lib.Dec.{eqb}
use borrow.Author.Tests.{eqb-true, ne_eqb}
use Rattle.psl.specs.Booleans.{bit, holds}
use Rattle.psl.specs.Sequences.{Sequence}
use Rattle.psl.proofs.Marks.Automaton.{nullable}
use Rattle.psl.proofs.Model.Nodes.{Node, n_bool, n_weak, n_never, n_both, n_next, n_always, n_if_else, n_implies, n_or, n_until, n_suffix, n_suffix_next}
use Rattle.psl.proofs.Model.Step.{sends, keeps}
use Rattle.psl.proofs.Model.Monitor.{use_of}
use Rattle.lanes.specs.State.{entered}
use Rattle.table.specs.Choice.{pick}
use Rattle.engine.specs.Reads.{kind_of, a_of, b_of, c_of}
use Rattle.engine.specs.Properties.{Inert, inert_boolean, inert_weak, Keeping, Operand}
use Rattle.engine.specs.Properties.{PropertyRow, reads_both, reads_next, reads_if, reads_implies, reads_or, reads_always, reads_until, reads_suffix, reads_suffix_next, reads_never}
use Rattle.engine.specs.PropertyVisits.{Stage, begun_at, kept_at, branch_at, guard_at, later_at, lasts_at, lasting_at, plain_at, early_at, matched_at, running_at, owes_at, left_at, visit_at}
use Rattle.engine.specs.declared.properties.Letter.{Letter}
use Rattle.engine.proofs.TruthLaws.{clash}

-- A never whose sequence matches.
abbrev pub breaks : Node → Bool → Bool
breaks (n_bool b) hit = false
breaks (n_weak r) hit = false
breaks (n_never r) hit = hit
breaks (n_both a c) hit = false
breaks (n_next a) hit = false
breaks (n_always a) hit = false
breaks (n_if_else b a c) hit = false
breaks (n_implies b a) hit = false
breaks (n_or a b) hit = false
breaks (n_until a b) hit = false
breaks (n_suffix r a) hit = false
breaks (n_suffix_next r a) hit = false

pub breaks_never : (nd : Node) (hit : Bool) → breaks nd hit ≡ true → (r : Sequence) × (nd ≡ n_never r) × (hit ≡ true)
breaks_never (n_never r) hit e = (r, refl, e)
breaks_never (n_bool b) hit e = clash e refl
breaks_never (n_weak r) hit e = clash e refl
breaks_never (n_both a c) hit e = clash e refl
breaks_never (n_next a) hit e = clash e refl
breaks_never (n_always a) hit e = clash e refl
breaks_never (n_if_else b a c) hit e = clash e refl
breaks_never (n_implies b a) hit e = clash e refl
breaks_never (n_or a b) hit e = clash e refl
breaks_never (n_until a b) hit e = clash e refl
breaks_never (n_suffix r a) hit e = clash e refl
breaks_never (n_suffix_next r a) hit e = clash e refl

pub never_breaks : {nd : Node} {hit : Bool} {r : Sequence} → nd ≡ n_never r → hit ≡ true → breaks nd hit ≡ true
never_breaks {hit = hit} e h = ap (λ (m : Node). breaks m hit) e ∙ h

-- A node that does nothing.
pub record Quiet (nd : Node) (now was hit : Bool) (x : ℕ) : Type 0 where
  pub no_sends : (k : ℕ) → sends nd now was hit x k ≡ false
  pub no_keeps : keeps nd now was hit x ≡ false
  pub no_breaks : breaks nd hit ≡ false

pub inert_quiet : {nd : Node} → Inert nd → (now was hit : Bool) (x : ℕ) → Quiet nd now was hit x
inert_quiet inert_boolean now was hit x = record { no_sends = λ k. refl; no_keeps = refl; no_breaks = refl }
inert_quiet inert_weak now was hit x = record { no_sends = λ k. refl; no_keeps = refl; no_breaks = refl }

-- Row n does what its node does.
pub record Does (nd : Node) (x n : ℕ) (was hit : Bool) (s r : Stage) : Type 0 where
  pub sent : (k : ℕ) → r.begin k ≡ s.begin k || sends nd (s.begin n) was hit x k
  pub held : (k : ℕ) → r.held k ≡ s.held k || (keeps nd (s.begin n) was hit x && eqb k n)
  pub broke : r.broken ≡ s.broken || breaks nd hit

-- nothing is added
no_more : (b : Bool) → b ≡ b || false
no_more b = sym (or-false b)

right : (a b : Bool) → a && b ≡ true → b ≡ true
right true b e = e
right false b e = clash e refl

pub either : {A : Type 0} (a b : Bool) → a || b ≡ true → (a ≡ true → A) → (b ≡ true → A) → A
either true b e f g = f refl
either false b e f g = g e

-- an operand is smaller, and reached
lower : {reached : ℕ → Bool} {n v : ℕ} (k : ℕ) → n ≤ k → Operand reached n v → eqb k v ≡ false
lower {v = v} k l o = ne_eqb k v (λ e. omega (arith, o.smaller))

to : {reached : ℕ → Bool} {n v : ℕ} (k : ℕ) → eqb k v ≡ true → Operand reached n v → reached k ≡ true
to {reached = reached} {v = v} k e o = ap reached (eqb-true k v e) ∙ o.is_reached

module _ {t : List ℕ} {letter : Letter} {x : ℕ} {reached : ℕ → Bool} {n : ℕ} where
  -- it sends to smaller rows, which are reached
  pub sends_lower : {nd : Node} → PropertyRow t letter x reached n nd → (now was hit : Bool) (k : ℕ) → n ≤ k → sends nd now was hit x k ≡ false
  sends_lower (reads_both e a b) now was hit k l = rw (lower k l a, lower k l b) (and-false now)
  sends_lower (reads_next e a) now was hit k l = rw (lower k l a) (and-false was)
  sends_lower (reads_if {b = b} e c p q) now was hit k l = rw (lower k l p, lower k l q, and-false (holds b x), and-false (not (holds b x))) (and-false now)
  sends_lower (reads_implies {b = b} e c p) now was hit k l = rw (lower k l p, and-false (holds b x)) (and-false now)
  sends_lower (reads_or {b = b} e p c) now was hit k l = rw (lower k l p, and-false (not (holds b x))) (and-false now)
  sends_lower (reads_always e p) now was hit k l = rw (lower k l p) (and-false (was || now))
  sends_lower (reads_until {b = b} e p c) now was hit k l = rw (lower k l p, and-false (not (holds b x))) (and-false (was || now))
  sends_lower (reads_suffix e a p) now was hit k l = rw (lower k l p) (and-false hit)
  sends_lower (reads_suffix_next {r = r} e a u p) now was hit k l = rw (lower k l p) (and-false (was || (now && nullable r)))
  sends_lower (reads_never e a) now was hit k l = refl

  pub sends_reached : {nd : Node} → PropertyRow t letter x reached n nd → (now was hit : Bool) (k : ℕ) → sends nd now was hit x k ≡ true → reached k ≡ true
  sends_reached (reads_both e a b) now was hit k h = either (eqb k (a_of t n)) (eqb k (b_of t n)) (right now (eqb k (a_of t n) || eqb k (b_of t n)) h) (λ z. to k z a) (λ z. to k z b)
  sends_reached (reads_next e a) now was hit k h = to k (right was (eqb k (a_of t n)) h) a
  sends_reached (reads_if {b = b} e c p q) now was hit k h =
      either (holds b x && eqb k (b_of t n)) (not (holds b x) && eqb k (c_of t n)) (right now (holds b x && eqb k (b_of t n) || not (holds b x) && eqb k (c_of t n)) h)
      (λ z. to k (right (holds b x) (eqb k (b_of t n)) z) p) (λ z. to k (right (not (holds b x)) (eqb k (c_of t n)) z) q)
  sends_reached (reads_implies {b = b} e c p) now was hit k h = to k (right (holds b x) (eqb k (b_of t n)) (right now (holds b x && eqb k (b_of t n)) h)) p
  sends_reached (reads_or {b = b} e p c) now was hit k h = to k (right (not (holds b x)) (eqb k (a_of t n)) (right now (not (holds b x) && eqb k (a_of t n)) h)) p
  sends_reached (reads_always e p) now was hit k h = to k (right (was || now) (eqb k (a_of t n)) h) p
  sends_reached (reads_until {b = b} e p c) now was hit k h = to k (right (not (holds b x)) (eqb k (a_of t n)) (right (was || now) (not (holds b x) && eqb k (a_of t n)) h)) p
  sends_reached (reads_suffix e a p) now was hit k h = to k (right hit (eqb k (b_of t n)) h) p
  sends_reached (reads_suffix_next {r = r} e a u p) now was hit k h = to k (right (was || (now && nullable r)) (eqb k (b_of t n)) h) p
  sends_reached (reads_never e a) now was hit k h = clash h refl

  -- a row that neither begins nor was held, and whose left side does not end
  pub idle_quiet : {nd : Node} → PropertyRow t letter x reached n nd → (hit : Bool) → (40 ≤ kind_of t n → hit ≡ false) → Quiet nd false false hit x
  idle_quiet (reads_both e a b) hit h = record { no_sends = λ k. refl; no_keeps = refl; no_breaks = refl }
  idle_quiet (reads_next e a) hit h = record { no_sends = λ k. refl; no_keeps = refl; no_breaks = refl }
  idle_quiet (reads_if e c p q) hit h = record { no_sends = λ k. refl; no_keeps = refl; no_breaks = refl }
  idle_quiet (reads_implies e c p) hit h = record { no_sends = λ k. refl; no_keeps = refl; no_breaks = refl }
  idle_quiet (reads_or e p c) hit h = record { no_sends = λ k. refl; no_keeps = refl; no_breaks = refl }
  idle_quiet (reads_always e p) hit h = record { no_sends = λ k. refl; no_keeps = refl; no_breaks = refl }
  idle_quiet (reads_until e p c) hit h = record { no_sends = λ k. refl; no_keeps = refl; no_breaks = refl }
  idle_quiet (reads_suffix e a p) hit h = record { no_sends = λ k. ap (λ (b : Bool). b && eqb k (b_of t n)) (h (omega arith)); no_keeps = refl; no_breaks = refl }
  idle_quiet (reads_suffix_next e a u p) hit h = record { no_sends = λ k. refl; no_keeps = h (omega arith); no_breaks = refl }
  idle_quiet (reads_never e a) hit h = record { no_sends = λ k. refl; no_keeps = refl; no_breaks = h (omega arith) }

-- a row that begins and one that stays held, in whichever order
pub begun_kept : (s : Stage) (v n : ℕ) (on held : Bool) → begun_at (kept_at s n held) v on ≡ kept_at (begun_at s v on) n held
unfolding begun_at kept_at
begun_kept s v n on held = refl

-- one of two rows begins
module _ (s : Stage) (v w : ℕ) where
  chosen : v % 64 ≡ v → w % 64 ≡ w → (on : Bool) (k : ℕ) → (pick on (begun_at s v true) (begun_at s w true)).begin k ≡ s.begin k || (on && eqb k v || not on && eqb k w)
  unfolding pick begun_at
  chosen p q true k = ap (λ (m : ℕ). s.begin k || eqb k m) p ∙ ap (λ (c : Bool). s.begin k || c) (no_more (eqb k v))
  chosen p q false k = ap (λ (m : ℕ). s.begin k || eqb k m) q

  chosen_held : (on : Bool) (k : ℕ) → (pick on (begun_at s v true) (begun_at s w true)).held k ≡ s.held k || false
  unfolding pick begun_at
  chosen_held true k = no_more (s.held k)
  chosen_held false k = no_more (s.held k)

  chosen_broken : (on : Bool) → (pick on (begun_at s v true) (begun_at s w true)).broken ≡ s.broken || false
  unfolding pick begun_at
  chosen_broken true = no_more s.broken
  chosen_broken false = no_more s.broken

-- The visit of row n, which begins, was held, or has a left side that ends.
module _ (t : List ℕ) (l : Letter) (x n : ℕ) (reached : ℕ → Bool) (low : n < 64) (s : Stage) (hit : Bool)
    (visit : (s.begin n || bit l.was n) || bit l.hits.ends n ≡ true) (over : bit l.hits.ends n ≡ true → 40 ≤ kind_of t n) where
  lasts : kind_of t n < 40 → bit l.was n || s.begin n ≡ true
  lasts k = either (s.begin n || bit l.was n) (bit l.hits.ends n) visit (λ e. or_comm (bit l.was n) (s.begin n) ∙ e) (λ e. absurd (omega (arith, over e)))

  begins : kind_of t n < 40 → (bit l.was n ≡ true → ⊥) → s.begin n ≡ true
  begins k f = either (bit l.was n) (s.begin n) (lasts k) (λ e. absurd (f e)) (λ e. e)

  here : n % 64 ≡ n
  here = mod-eq_of_lt low

  operand : {v : ℕ} → Operand reached n v → v % 64 ≡ v
  operand o = mod-eq_of_lt (omega (arith, o.smaller))

  pub visit_does : {nd : Node} → PropertyRow t l x reached n nd → (bit l.was n ≡ true → Keeping nd)
      → (40 ≤ kind_of t n → hit ≡ bit l.hits.ends n || ((bit l.hits.early n || bit l.truth (a_of t n)) && entered (use_of nd) (s.begin n) (bit l.was n)))
      → Does nd x n (bit l.was n) hit s (visit_at t n l s)
  unfolding visit_at plain_at branch_at guard_at later_at lasts_at lasting_at left_at owes_at running_at matched_at early_at begun_at kept_at pick
  visit_does (reads_both e a b) kept h =
      let now : s.begin n ≡ true = begins (omega arith) (λ z. elim (kept z) [ ]) in record {
        sent = λ k. rw (e, operand a, operand b, now) (or_assoc (s.begin k) (eqb k (a_of t n)) (eqb k (b_of t n)));
        held = λ k. rw e (no_more (s.held k));
        broke = rw e (no_more s.broken);
      }
  visit_does (reads_next e a) kept h = record {
    sent = λ k. rw (e, here, operand a);
    held = λ k. rw (e, here);
    broke = rw e (no_more s.broken);
  }
  visit_does (reads_if {b = b} e c p q) kept h =
      let now : s.begin n ≡ true = begins (omega arith) (λ z. elim (kept z) [ ]) in
      let low : a_of t n % 64 ≡ a_of t n = mod-eq_of_lt c.low in record {
        sent = λ k. rw (e, low, c.is, now) (chosen s (b_of t n) (c_of t n) (operand p) (operand q) (holds b x) k);
        held = λ k. rw (e, low, c.is) (chosen_held s (b_of t n) (c_of t n) (holds b x) k);
        broke = rw (e, low, c.is) (chosen_broken s (b_of t n) (c_of t n) (holds b x));
      }
  visit_does (reads_implies {b = b} e c p) kept h =
      let now : s.begin n ≡ true = begins (omega arith) (λ z. elim (kept z) [ ]) in
      let low : a_of t n % 64 ≡ a_of t n = mod-eq_of_lt c.low in record {
        sent = λ k. rw (e, low, operand p, c.is, now);
        held = λ k. rw e (no_more (s.held k));
        broke = rw e (no_more s.broken);
      }
  visit_does (reads_or {b = b} e p c) kept h =
      let now : s.begin n ≡ true = begins (omega arith) (λ z. elim (kept z) [ ]) in
      let low : b_of t n % 64 ≡ b_of t n = mod-eq_of_lt c.low in record {
        sent = λ k. rw (e, low, operand p, c.is, now);
        held = λ k. rw e (no_more (s.held k));
        broke = rw e (no_more s.broken);
      }
  visit_does (reads_always e p) kept h = let on = lasts (omega arith) in record {
    sent = λ k. rw (e, operand p, on);
    held = λ k. rw (e, here, on);
    broke = rw e (no_more s.broken);
  }
  visit_does (reads_until {b = b} e p c) kept h =
      let on = lasts (omega arith) in
      let low : b_of t n % 64 ≡ b_of t n = mod-eq_of_lt c.low in record {
        sent = λ k. rw (e, low, operand p, c.is, on);
        held = λ k. rw (e, here, low, c.is, on);
        broke = rw e (no_more s.broken);
      }
  visit_does (reads_suffix e a p) kept h =
      let low : a_of t n % 64 ≡ a_of t n = mod-eq_of_lt a in record {
        sent = λ k. rw (e, here, low, operand p, h (omega arith));
        held = λ k. rw e (no_more (s.held k));
        broke = rw e (no_more s.broken);
      }
  visit_does (reads_suffix_next e a u p) kept h =
      let low : a_of t n % 64 ≡ a_of t n = mod-eq_of_lt a in record {
        sent = λ k. rw (e, here, operand p, u);
        held = λ k. rw (e, here, low, h (omega arith));
        broke = rw e (no_more s.broken);
      }
  visit_does (reads_never e a) kept h =
      let low : a_of t n % 64 ≡ a_of t n = mod-eq_of_lt a in
      let on = or_comm (s.begin n) (bit l.was n) in record {
        sent = λ k. rw e (no_more (s.begin k));
        held = λ k. rw (e, here, on);
        broke = rw (e, here, low, on, h (omega arith));
      }
