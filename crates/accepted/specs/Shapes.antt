-- The shapes of kinds against the table's classes and fields, computed for each kind.
use Rattle.std.specs.Prelude.{ℕ, ◌<◌, Bool, true, false, not, ◌||◌, ◌≡◌, refl, T, ltb}
use Rattle.std.proofs.Common.{arith, sym, subst}
use Rattle.psl.specs.Booleans.{Boolean}
use Rattle.table.specs.Choice.{pick}
use Rattle.table.specs.Kinds.{class_of, takes_of, fields_of, class_ok, is_sequence}
use Rattle.table.proofs.Laws.Spans.{every}
use Rattle.lanes.specs.Rows.{Has, IsSequence, IsOperand}
use Rattle.accepted.specs.Rows.{Shape, h_bool, h_then, h_fuse, h_alt, h_star, h_plus, h_weak, h_left, h_rest, shape_of, made}
use Rattle.table.specs.declared.kinds.Holds.{Holds}
use Rattle.table.specs.declared.kinds.Holds.TheVariants.{Nothing, Signal, B, Q, F}

abbrev pub has_a : Shape → Bool
has_a h_bool = false
has_a h_then = true
has_a h_fuse = true
has_a h_alt = true
has_a h_star = true
has_a h_plus = true
has_a h_weak = true
has_a h_left = true
has_a h_rest = false

abbrev pub has_b : Shape → Bool
has_b h_bool = false
has_b h_then = true
has_b h_fuse = true
has_b h_alt = true
has_b h_star = false
has_b h_plus = false
has_b h_weak = false
has_b h_left = false
has_b h_rest = false

abbrev pub seq_s : Shape → Bool
seq_s h_bool = false
seq_s h_then = true
seq_s h_fuse = true
seq_s h_alt = true
seq_s h_star = true
seq_s h_plus = true
seq_s h_weak = false
seq_s h_left = false
seq_s h_rest = false

abbrev pub bool_s : Shape → Bool
bool_s h_bool = true
bool_s h_then = false
bool_s h_fuse = false
bool_s h_alt = false
bool_s h_star = false
bool_s h_plus = false
bool_s h_weak = false
bool_s h_left = false
bool_s h_rest = false

abbrev pub Field : Shape → ℕ → ℕ → Bool → ℕ → Type 0
Field h a b false v = T (has_a h) × (v ≡ a)
Field h a b true v = T (has_b h) × (v ≡ b)

module _ (a b : ℕ) (x : Boolean) (v : ℕ) where
  pub has_field : (h : Shape) (f : Bool) → Has (made h a b x) f v → Field h a b f v
  has_field h_bool f i = absurd i
  has_field h_then false i = (tt, i)
  has_field h_then true i = (tt, i)
  has_field h_fuse false i = (tt, i)
  has_field h_fuse true i = (tt, i)
  has_field h_alt false i = (tt, i)
  has_field h_alt true i = (tt, i)
  has_field h_star false i = (tt, i)
  has_field h_star true i = absurd i
  has_field h_plus false i = (tt, i)
  has_field h_plus true i = absurd i
  has_field h_weak false i = (tt, i)
  has_field h_weak true i = absurd i
  has_field h_left false i = (tt, i)
  has_field h_left true i = absurd i
  has_field h_rest f i = absurd i

  pub field_has : (h : Shape) (f : Bool) → Field h a b f v → Has (made h a b x) f v
  field_has h_bool false i = absurd i.0
  field_has h_bool true i = absurd i.0
  field_has h_then false i = i.1
  field_has h_then true i = i.1
  field_has h_fuse false i = i.1
  field_has h_fuse true i = i.1
  field_has h_alt false i = i.1
  field_has h_alt true i = i.1
  field_has h_star false i = i.1
  field_has h_star true i = absurd i.0
  field_has h_plus false i = i.1
  field_has h_plus true i = absurd i.0
  field_has h_weak false i = i.1
  field_has h_weak true i = absurd i.0
  field_has h_left false i = i.1
  field_has h_left true i = absurd i.0
  field_has h_rest false i = absurd i.0
  field_has h_rest true i = absurd i.0

module _ (a b : ℕ) (x : Boolean) where
  pub seq_shape : (h : Shape) → IsSequence (made h a b x) → T (seq_s h)
  seq_shape h_bool i = i
  seq_shape h_then i = i
  seq_shape h_fuse i = i
  seq_shape h_alt i = i
  seq_shape h_star i = i
  seq_shape h_plus i = i
  seq_shape h_weak i = i
  seq_shape h_left i = i
  seq_shape h_rest i = i

  pub q_shape : (h : Shape) → T (bool_s h || seq_s h) → IsOperand (made h a b x)
  q_shape h_bool i = i
  q_shape h_then i = i
  q_shape h_fuse i = i
  q_shape h_alt i = i
  q_shape h_star i = i
  q_shape h_plus i = i
  q_shape h_weak i = i
  q_shape h_left i = i
  q_shape h_rest i = i

abbrev pub is_q : Holds → Bool
is_q Nothing = false
is_q Signal = false
is_q B = false
is_q Q = true
is_q F = false

abbrev pub same : Bool → Bool → Bool
same true b = b
same false b = not b

pub same_eq : (a b : Bool) → T (same a b) → a ≡ b
same_eq true true t = refl
same_eq true false t = absurd t
same_eq false true t = absurd t
same_eq false false t = refl

abbrev pub implied : Bool → Bool → Bool
implied true b = b
implied false b = true

pub by_implied : (a b : Bool) → T (implied a b) → a ≡ true → T b
by_implied true b t e = t
by_implied false b t e = absurd (subst T (sym e) tt)

-- the shapes agree with the table's classes and wants: computed for each kind
pub shape_a : (k : ℕ) → k < 51 → has_a (shape_of k) ≡ is_q (fields_of k).a
unfolding shape_of fields_of takes_of pick
shape_a k l = same_eq _ _ (every (λ k. same (has_a (shape_of k)) (is_q (fields_of k).a)) 0 51 tt k (omega arith) (omega arith))

pub shape_b : (k : ℕ) → k < 51 → has_b (shape_of k) ≡ is_q (fields_of k).b
unfolding shape_of fields_of takes_of pick
shape_b k l = same_eq _ _ (every (λ k. same (has_b (shape_of k)) (is_q (fields_of k).b)) 0 51 tt k (omega arith) (omega arith))

pub shape_c : (k : ℕ) → k < 51 → false ≡ is_q (fields_of k).c
unfolding fields_of takes_of pick
shape_c k l = same_eq _ _ (every (λ k. same false (is_q (fields_of k).c)) 0 51 tt k (omega arith) (omega arith))

pub shape_seq : (k : ℕ) → k < 51 → seq_s (shape_of k) ≡ is_sequence (class_of k)
unfolding shape_of class_of pick
shape_seq k l = same_eq _ _ (every (λ k. same (seq_s (shape_of k)) (is_sequence (class_of k))) 0 51 tt k (omega arith) (omega arith))

pub shape_q : (k : ℕ) → k < 51 → class_ok Q (class_of k) ≡ true → T (bool_s (shape_of k) || seq_s (shape_of k))
unfolding shape_of class_of pick
shape_q k l = by_implied (class_ok Q (class_of k)) (bool_s (shape_of k) || seq_s (shape_of k)) (every (λ k. implied (class_ok Q (class_of k)) (bool_s (shape_of k) || seq_s (shape_of k))) 0 51 tt k (omega arith) (omega arith))

pub shape_high : (k : ℕ) → k < 51 → seq_s (shape_of k) ≡ true → T (not (ltb k 16))
unfolding shape_of pick
shape_high k l = by_implied _ _ (every (λ k. implied (seq_s (shape_of k)) (not (ltb k 16))) 0 51 tt k (omega arith) (omega arith))
