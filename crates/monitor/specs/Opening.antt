-- A property that was opened goes on from nothing.
use Rattle.std.specs.Prelude.{ℕ, ◌<◌, ◌≡◌, refl, Bool, true, false, List, [], replicate}
use Rattle.std.proofs.Common.{arith, ◌∙◌, ap}
use Rattle.std.proofs.Math.Decide.{dec_lt}
use Rattle.psl.specs.Booleans.{bit}
use Rattle.table.specs.Choice.{pick}
use Rattle.table.proofs.Laws.Zeros.{zeros}
use Rattle.table.specs.Kinds.{class_of}
use Rattle.table.specs.declared.kinds.Class.TheVariants.{Sequence}
use Rattle.table.specs.Subset.{Subset, kind_at}
use Rattle.table.specs.declared.Counts.{Counts}
use Rattle.lanes.specs.State.{nothing}
use Rattle.lanes.specs.Cycle.{holds_nothing}
use Rattle.words.specs.Bits.{bit_none}
use Rattle.engine.specs.Planned.{Planned}
use Rattle.engine.specs.Sides.{live_in}
use Rattle.engine.specs.Weaks.{weak_number}
use Rattle.engine.specs.PlanView as W
use Rattle.engine.specs.PlanState.{nothing_in_place}
use Rattle.engine.specs.CycleRight.{Represented}
use Rattle.engine.specs.Goes.{Goes}

sequence_class : (k : ℕ) → 15 < k → k < 21 → class_of k ≡ Sequence
unfolding class_of pick
sequence_class k l m = elim (dec_lt k 17) [
  | yes a ↦ at 16 (omega arith) refl
  | no a ↦ elim (dec_lt k 18) [
    | yes b ↦ at 17 (omega arith) refl
    | no b ↦ elim (dec_lt k 19) [ yes d ↦ at 18 (omega arith) refl | no d ↦ elim (dec_lt k 20) [ yes e ↦ at 19 (omega arith) refl | no e ↦ at 20 (omega arith) refl ] ]
  ]
]
  where
    at : (j : ℕ) → k ≡ j → class_of j ≡ Sequence → class_of k ≡ Sequence
    at j e r = ap class_of e ∙ r

nothing_kept : (t : List ℕ) (weaks : ℕ) → Represented t weaks nothing 0 0 0 (replicate 32 0)
nothing_kept t weaks = record {
  held_is = bit_none;
  live_is = dark;
  sets_are = λ n w k s l. ap (λ (word : ℕ). bit word s) (zeros 32 (weak_number t weaks n)) ∙ bit_none s;
  size = refl;
  spare = λ w none. zeros 32 w;
}
  where
    dark : (n : ℕ) (f : Bool) → live_in 0 0 n f ≡ false
    dark n false = bit_none n
    dark n true = bit_none n

pub begins : (t : List ℕ) (c : Counts) (z : Subset t c) (root booleans sides weaks : ℕ) → Planned t root booleans sides weaks → root < c.nodes → ¬ (class_of (kind_at t root) ≡ Sequence)
    → Goes t root booleans sides weaks [] 0 0 0 (replicate 32 0)
begins t c z root booleans sides weaks p low no_sequence = record {
  counts = c;
  subset = z;
  plan = p;
  root_low = low;
  root_proper = λ h. no_sequence (sequence_class (kind_at t root) h.0 h.1);
  kept = nothing;
  in_place = nothing_in_place _ _;
  represented = nothing_kept t weaks;
  holds = holds_nothing (W.row t c z root booleans sides weaks p low) (W.row_table t c z root booleans sides weaks p low) (W.node t c z root booleans sides weaks p low)
      (W.shape t c z root booleans sides weaks p low) (W.down t c z root booleans sides weaks p low) root (W.top t c z root booleans sides weaks p low);
}
