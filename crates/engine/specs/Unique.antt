-- Any two answers that a contract of this crate allows are equal: the plan of a property of an accepted table, and what a cycle leaves of words that
-- represent what is kept. A family is a word, below 2 ^ 64.
use Rattle.std.specs.Prelude.{ℕ, zero, suc, ◌+◌, ◌≤◌, ◌<◌, ◌^◌, ◌≡◌, refl, Bool, true, false, ◌&&◌, List, ◌⊎◌, T, ltb, get_or}
use Rattle.std.proofs.Common.{arith, sym, ◌∙◌, ap, subst, inl, inr, le-leb, ext_get_or}
use Rattle.std.proofs.Math.Decide.{dec_lt}
use Rattle.psl.specs.Booleans.{bit}
use Rattle.psl.specs.Tells.{tells_value}
use Rattle.table.specs.Kinds.{class_of}
use Rattle.table.specs.Subset.{Subset, kind_at, Field, IsOperand, holds_at, value_at}
use Rattle.table.specs.declared.Counts.{Counts}
use Rattle.table.specs.declared.kinds.Class.TheVariants.{Sequence}
use Rattle.accepted.specs.WeakCells.{table}
use Rattle.lanes.specs.Bits.{tells_same}
use Rattle.lanes.specs.State.{Kept}
use Rattle.words.specs.Bits.{same_bits}
use Rattle.words.specs.Unique.{same_number}
use Rattle.engine.specs.declared.plan.Plan.{Plan}
use Rattle.engine.specs.declared.cycle.Outcome.{Outcome}
use Rattle.engine.specs.Reads.{kind_of, a_of}
use Rattle.engine.specs.Planned.{Planned, InSequence, OverLeft, StandsIn, in_a, in_b}
use Rattle.engine.specs.PlanView as W
use Rattle.engine.specs.Weaks.{weaks_above, weak_number}
use Rattle.engine.specs.CycleSets.{number_below, number_of}
use Rattle.engine.specs.CycleRight.{Represented}
use Rattle.engine.specs.Cycled.{Standing, Cycled}

same_truth : {a b : Bool} → (a ≡ true → b ≡ true) → (b ≡ true → a ≡ true) → a ≡ b
same_truth {a} {b} = tells_same (tells_value a) (tells_value b)

clash : {b : Bool} → b ≡ true → b ≡ false → ⊥
clash p q = subst T (sym p ∙ q) tt

-- Of two plans of one property, what is in the first is in the second.
module _ (t : List ℕ) (c : Counts) (z : Subset t c) {root booleans sides weaks booleans' sides' weaks' : ℕ} (root_low : root < c.nodes)
    (p : Planned t root booleans sides weaks) (q : Planned t root booleans' sides' weaks') where
  -- from the root down
  reached_from : (n : ℕ) → ((m : ℕ) → n < m → p.reached m ≡ true → q.reached m ≡ true)
      → (n ≡ root) ⊎ ((m : ℕ) × (f : Field) × (n < m) × (p.reached m ≡ true) × IsOperand (holds_at t m f) × (value_at t m f ≡ n)) → q.reached n ≡ true
  reached_from n above (inl e) = subst (λ (k : ℕ). q.reached k ≡ true) (sym e) q.root_reached
  reached_from n above (inr h) = subst (λ (k : ℕ). q.reached k ≡ true) h.5 (q.operands h.0 (above h.0 h.2 h.3) h.1 h.4)

  reached_by : (d n : ℕ) → root ≤ n + d → p.reached n ≡ true → q.reached n ≡ true
  reached_by zero n l e = reached_from n (λ m i r. absurd (omega (arith, p.up_to_root m r))) (p.comes n e)
  reached_by (suc d) n l e = reached_from n (λ m i r. reached_by d m (omega arith) r) (p.comes n e)

  reached_too : (n : ℕ) → p.reached n ≡ true → q.reached n ≡ true
  reached_too n = reached_by root n (omega arith)

  -- a row is larger than what stands in it
  larger : (m v : ℕ) → p.reached m ≡ true → StandsIn t m v → v < m
  larger m v e s = let h = W.stands_has t c z root booleans sides weaks p root_low m v (W.low t c z root booleans sides weaks p root_low m e) s in (table t c z).sound.falls m h.0 v h.1

  -- a sequence is on the same side in both
  abbrev Agree : ℕ → Type 0
  Agree n = ((bit weaks n ≡ true) × (bit weaks' n ≡ true)) ⊎ ((bit sides n ≡ true) × (bit sides' n ≡ true))

  handed : (m n : ℕ) → StandsIn t m n → 16 ≤ kind_of t n → Agree m → Agree n
  handed m n s l (inl h) = inl (p.weak_operands m n h.0 s l, q.weak_operands m n h.1 s l)
  handed m n s l (inr h) = inr (p.side_operands m n h.0 s l, q.side_operands m n h.1 s l)

  user_agrees : (m n : ℕ) → StandsIn t m n → 16 ≤ kind_of t n → p.reached m ≡ true → (InSequence t m → Agree m) → Agree m
  user_agrees m n (in_a v (inl i)) l e above = above i
  user_agrees m n (in_a v (inr (inl k))) l e above = inl (p.weak_in m e k, q.weak_in m (reached_too m e) k)
  user_agrees m n (in_a v (inr (inr o))) l e above =
      let h = le-leb 16 (kind_of t (a_of t m)) (subst (λ (k : ℕ). 16 ≤ kind_of t k) v l) in
      inr (p.left_in m e o ∙ h, q.left_in m (reached_too m e) o ∙ h)
  user_agrees m n (in_b v from upto) l e above = above (record { from = from; upto = omega arith })

  agree_from : (n : ℕ) → p.reached n ≡ true → InSequence t n → ((m : ℕ) → n < m → p.reached m ≡ true → InSequence t m → Agree m) → Agree n
  agree_from n e i above =
      let u = p.users n e i in
      handed u.0 n u.2 i.from (user_agrees u.0 n u.2 i.from u.1 (above u.0 (larger u.0 n u.1 u.2) u.1))

  agree : (d n : ℕ) → root ≤ n + d → p.reached n ≡ true → InSequence t n → Agree n
  agree zero n l e i = agree_from n e i (λ m j r. absurd (omega (arith, p.up_to_root m r)))
  agree (suc d) n l e i = agree_from n e i (λ m j r. agree d m (omega arith) r)

  weak_too : (n : ℕ) → bit weaks n ≡ true → bit weaks' n ≡ true
  weak_too n b = by (p.weak_rows n b).1
    where
      settled : Agree n → bit weaks' n ≡ true
      settled (inl h) = h.1
      settled (inr h) = absurd (clash b (p.apart n h.0))

      by : InSequence t n ⊎ (kind_of t n ≡ 32) → bit weaks' n ≡ true
      by (inl i) = settled (agree root n (omega arith) (p.weak_rows n b).0 i)
      by (inr k) = q.weak_in n (reached_too n (p.weak_rows n b).0) k

  side_too : (n : ℕ) → bit sides n ≡ true → bit sides' n ≡ true
  side_too n b = by (p.side_rows n b).1
    where
      settled : Agree n → bit sides' n ≡ true
      settled (inl h) = absurd (clash h.0 (p.apart n b))
      settled (inr h) = h.1

      by : InSequence t n ⊎ OverLeft t n → bit sides' n ≡ true
      by (inl i) = settled (agree root n (omega arith) (p.side_rows n b).0 i)
      by (inr o) = q.left_in n (reached_too n (p.side_rows n b).0) o ∙ sym (p.left_in n (p.side_rows n b).0 o) ∙ b

-- THE PLAN of a property is one
pub plan_one : (t : List ℕ) (c : Counts) → Subset t c → {root booleans sides weaks booleans' sides' weaks' : ℕ} → root < c.nodes
    → Planned t root booleans sides weaks → Planned t root booleans' sides' weaks' → (booleans ≡ booleans') × (sides ≡ sides') × (weaks ≡ weaks')
plan_one t c z l p q = (
  same_number _ _ (λ n. p.booleans_are n ∙ ap (λ (b : Bool). b && ltb (kind_of t n) 16) (same_truth (reached_too t c z l p q n) (reached_too t c z l q p n)) ∙ sym (q.booleans_are n)),
  same_number _ _ (λ n. same_truth (side_too t c z l p q n) (side_too t c z l q p n)),
  same_number _ _ (λ n. same_truth (weak_too t c z l p q n) (weak_too t c z l q p n)),
)

-- `planned` of an accepted table
abbrev PlannedIs : List ℕ → ℕ → Plan → Type 0
PlannedIs t root r = (r.root ≡ root)
    × ((counts : Counts) → Subset t counts → root < counts.nodes → ¬ (class_of (kind_at t root) ≡ Sequence) → Planned t root r.booleans r.sides r.weaks)

pub planned_one : (t : List ℕ) (c : Counts) → Subset t c → (root : ℕ) → root < c.nodes → ¬ (class_of (kind_at t root) ≡ Sequence) → (r s : Plan)
    → PlannedIs t root r → PlannedIs t root s → r ≡ s
planned_one t c z root l proper r s p q =
    let h = plan_one t c z l (p.1 c z l proper) (q.1 c z l proper) in
    λ i. record { booleans = h.0 i; sides = h.1 i; weaks = h.2 i; root = (p.0 ∙ sym q.0) i }

-- a weak sequence has a row below 64
pub weak_low : {t : List ℕ} {c : Counts} {root booleans sides weaks : ℕ} → Subset t c → root < c.nodes → Planned t root booleans sides weaks → (n : ℕ) → bit weaks n ≡ true → n < 64
weak_low z l p n b = omega (arith, p.up_to_root n (p.weak_rows n b).0, z.layout.nodes_range)

-- Families that a monitor can hold.
abbrev pub Words : List ℕ → Type 0
Words families = (w : ℕ) → get_or families w 0 < 2 ^ 64

-- THE WORDS that represent what is kept are one
module _ {t : List ℕ} {weaks : ℕ} {k : Kept} {held live_a live_b held' live_a' live_b' : ℕ} {families families' : List ℕ}
    (p : Represented t weaks k held live_a live_b families) (q : Represented t weaks k held' live_a' live_b' families') where
  pub held_one : held ≡ held'
  held_one = same_number held held' (λ n. p.held_is n ∙ sym (q.held_is n))

  pub live_a_one : live_a ≡ live_a'
  live_a_one = same_number live_a live_a' (λ n. p.live_is n false ∙ sym (q.live_is n false))

  pub live_b_one : live_b ≡ live_b'
  live_b_one = same_number live_b live_b' (λ n. p.live_is n true ∙ sym (q.live_is n true))

  module _ (low : (n : ℕ) → bit weaks n ≡ true → n < 64) (fits : Words families) (fits' : Words families') where
    -- of a weak sequence, set by set; and else there is none
    family_one : (m w : ℕ) → m ≡ 64 → get_or families w 0 ≡ get_or families' w 0
    family_one m w e = elim (dec_lt w (weaks_above t weaks m)) [
      | yes l ↦ (let f = number_of t weaks m w (omega arith) l in
          same_bits 64 (get_or families w 0) (get_or families' w 0) (fits w) (fits' w) (λ s i. ap (λ (v : ℕ). bit (get_or families v 0) s) (sym f.3)
          ∙ p.sets_are f.0 f.2.0 f.2.1 s i ∙ sym (q.sets_are f.0 f.2.0 f.2.1 s i) ∙ ap (λ (v : ℕ). bit (get_or families' v 0) s) f.3))
      | no l ↦ p.spare w (unnumbered l) ∙ sym (q.spare w (unnumbered l))
    ]
      where
        unnumbered : ¬ (w < weaks_above t weaks m) → (n : ℕ) → bit weaks n ≡ true → kind_of t n ≡ 32 → ¬ (weak_number t weaks n ≡ w)
        unnumbered l n b k f = l (subst (λ (v : ℕ). v < weaks_above t weaks m) f (number_below t weaks n m (low n b) e (b, k)))

    pub families_one : families ≡ families'
    families_one = ext_get_or 0 families families' (p.size ∙ sym q.size) (λ w l. family_one 64 w refl)

-- `cycle`, of words that represent what is kept
module _ {t : List ℕ} {root booleans sides weaks first held live_a live_b : ℕ} {families : List ℕ} (s : Standing t root booleans sides weaks first held live_a live_b families) where
  low : (n : ℕ) → bit weaks n ≡ true → n < 64
  low = weak_low s.subset s.root_low s.plan

  abbrev Leaves : ℕ → Outcome → List ℕ → Type 0
  Leaves x o families' = Cycled s x o.expected.held o.expected.live.a o.expected.live.b families' o.broken o.quiet

  pub cycle_one : (x : ℕ) (o o' : Outcome) (families' families'' : List ℕ) → Words families' → Words families'' → Leaves x o families' → Leaves x o' families'' → (o ≡ o') × (families' ≡ families'')
  cycle_one x o o' families' families'' fits fits' p q = (
    λ i. record {
      expected = record { held = held_one p.represents q.represents i; live = record { a = live_a_one p.represents q.represents i; b = live_b_one p.represents q.represents i } };
      broken = (p.broken_is ∙ sym q.broken_is) i;
      quiet = tells_same p.quiet_is q.quiet_is (λ h. h) (λ h. h) i;
    },
    families_one p.represents q.represents low fits fits',
  )
