-- Sequences in numbered rows: the rows, how an operand reads, and the cells that are expected in it.
-- A cell is named by the row and the field in which it stands, never by its place in a tree.
-- Nothing here has to be believed.
use Prim.Native.Nat.{ℕ, zero, suc, ◌<◌}
use Rattle.std.proofs.Common.{arith, sym, ◌∙◌, ⊎_elim}
use Rattle.std.specs.Prelude.{◌≡◌, Bool, true, false, T}
use Rattle.std.proofs.Math.Path.{refl}
use Rattle.psl.specs.Booleans.{Boolean, constant}
use Rattle.psl.specs.Sequences.{Sequence, cell, then, fuse, alt, star, plus}
use Rattle.psl.proofs.Marks.Automaton.{Marks}
use Rattle.psl.proofs.Marks.Words.{or_e}
use Rattle.psl.proofs.Marks.Feed.{any}
use Rattle.psl.proofs.Marks.Linear.{two}

-- A row as the sequences see it: a Boolean; a sequence of operands; a weak sequence; a left side or never; another property.
pub data Row : Type 0 where
  r_bool : Boolean → Row
  r_then r_fuse r_alt : ℕ → ℕ → Row
  r_star r_plus r_weak r_left : ℕ → Row
  r_rest : Row

-- v stands as a sequence in field a (false) or b (true)
abbrev pub Has : Row → Bool → ℕ → Type 0
Has (r_bool x) f v = ⊥
Has (r_then a b) false v = v ≡ a
Has (r_then a b) true v = v ≡ b
Has (r_fuse a b) false v = v ≡ a
Has (r_fuse a b) true v = v ≡ b
Has (r_alt a b) false v = v ≡ a
Has (r_alt a b) true v = v ≡ b
Has (r_star a) false v = v ≡ a
Has (r_star a) true v = ⊥
Has (r_plus a) false v = v ≡ a
Has (r_plus a) true v = ⊥
Has (r_weak a) false v = v ≡ a
Has (r_weak a) true v = ⊥
Has (r_left a) false v = v ≡ a
Has (r_left a) true v = ⊥
Has r_rest f v = ⊥

-- a row with two operands, and with one
pub record Two (R : Row) (a b : ℕ) : Type 0 where
  pub has_a : Has R false a
  pub has_b : Has R true b
  pub only_a : (v : ℕ) → Has R false v → v ≡ a
  pub only_b : (v : ℕ) → Has R true v → v ≡ b

pub record One (R : Row) (a : ℕ) : Type 0 where
  pub has_a : Has R false a
  pub only_a : (v : ℕ) → Has R false v → v ≡ a
  pub none_b : (v : ℕ) → Has R true v → ⊥

pub two_then : {a b : ℕ} → Two (r_then a b) a b
two_then = record { has_a = refl; has_b = refl; only_a = λ v i. i; only_b = λ v i. i }

pub two_fuse : {a b : ℕ} → Two (r_fuse a b) a b
two_fuse = record { has_a = refl; has_b = refl; only_a = λ v i. i; only_b = λ v i. i }

pub two_alt : {a b : ℕ} → Two (r_alt a b) a b
two_alt = record { has_a = refl; has_b = refl; only_a = λ v i. i; only_b = λ v i. i }

pub one_star : {a : ℕ} → One (r_star a) a
one_star = record { has_a = refl; only_a = λ v i. i; none_b = λ v i. i }

pub one_plus : {a : ℕ} → One (r_plus a) a
one_plus = record { has_a = refl; only_a = λ v i. i; none_b = λ v i. i }

pub one_weak : {a : ℕ} → One (r_weak a) a
one_weak = record { has_a = refl; only_a = λ v i. i; none_b = λ v i. i }

pub one_left : {a : ℕ} → One (r_left a) a
one_left = record { has_a = refl; only_a = λ v i. i; none_b = λ v i. i }

-- The operand v in field f of row n reads as r, and its expected cells are m: cells are named by row and field.
pub data Sits (row : ℕ → Row) (live : ℕ → Bool → Bool) : ℕ → Bool → ℕ → (r : Sequence) → Marks r → Type 0 where
  s_cell : {n : ℕ} {f : Bool} {v : ℕ} {b : Boolean} {m : Bool} → row v ≡ r_bool b → m ≡ live n f → Sits row live n f v (cell b) m
  s_then : {n : ℕ} {f : Bool} {v a b : ℕ} {x y : Sequence} {m : Marks x × Marks y}
      → row v ≡ r_then a b → Sits row live v false a x m.0 → Sits row live v true b y m.1 → Sits row live n f v (then x y) m
  s_fuse : {n : ℕ} {f : Bool} {v a b : ℕ} {x y : Sequence} {m : Marks x × Marks y}
      → row v ≡ r_fuse a b → Sits row live v false a x m.0 → Sits row live v true b y m.1 → Sits row live n f v (fuse x y) m
  s_alt : {n : ℕ} {f : Bool} {v a b : ℕ} {x y : Sequence} {m : Marks x × Marks y}
      → row v ≡ r_alt a b → Sits row live v false a x m.0 → Sits row live v true b y m.1 → Sits row live n f v (alt x y) m
  s_star : {n : ℕ} {f : Bool} {v a : ℕ} {x : Sequence} {m : Marks x} → row v ≡ r_star a → Sits row live v false a x m → Sits row live n f v (star x) m
  s_plus : {n : ℕ} {f : Bool} {v a : ℕ} {x : Sequence} {m : Marks x} → row v ≡ r_plus a → Sits row live v false a x m → Sits row live n f v (plus x) m

-- What may stand as an operand of a sequence, and which of these are sequences themselves
abbrev pub IsOperand : Row → Type 0
IsOperand (r_bool b) = Unit
IsOperand (r_then a b) = Unit
IsOperand (r_fuse a b) = Unit
IsOperand (r_alt a b) = Unit
IsOperand (r_star a) = Unit
IsOperand (r_plus a) = Unit
IsOperand (r_weak a) = ⊥
IsOperand (r_left a) = ⊥
IsOperand r_rest = ⊥

abbrev pub IsSequence : Row → Type 0
IsSequence (r_bool b) = ⊥
IsSequence (r_then a b) = Unit
IsSequence (r_fuse a b) = Unit
IsSequence (r_alt a b) = Unit
IsSequence (r_star a) = Unit
IsSequence (r_plus a) = Unit
IsSequence (r_weak a) = ⊥
IsSequence (r_left a) = ⊥
IsSequence r_rest = ⊥

-- What is needed of an accepted table: operands are smaller, and are Booleans or sequences; a sequence row stands in one place, and in some.
pub record Sound (row : ℕ → Row) : Type 0 where
  pub falls : (n : ℕ) (f : Bool) (v : ℕ) → Has (row n) f v → v < n
  pub class : (n : ℕ) (f : Bool) (v : ℕ) → Has (row n) f v → IsOperand (row v)
  pub once : (n k : ℕ) (f g : Bool) (v : ℕ) → IsSequence (row v) → Has (row n) f v → Has (row k) g v → (n ≡ k) × (f ≡ g)
  pub used : (v : ℕ) → IsSequence (row v) → (n : ℕ) × (f : Bool) × Has (row n) f v

-- a cell in field f of row n
pub record CellAt (row : ℕ → Row) (n : ℕ) (f : Bool) : Type 0 where
  pub at : ℕ
  pub boolean : Boolean
  pub has : Has (row n) f at
  pub is : row at ≡ r_bool boolean

-- a row as a sequence, its operands being read by p; a row that is no operand is not asked for
abbrev pub build : (ℕ → Sequence) → Row → Sequence
build p (r_bool b) = cell b
build p (r_then a b) = then (p a) (p b)
build p (r_fuse a b) = fuse (p a) (p b)
build p (r_alt a b) = alt (p a) (p b)
build p (r_star a) = star (p a)
build p (r_plus a) = plus (p a)
build p (r_weak a) = cell (constant false)
build p (r_left a) = cell (constant false)
build p r_rest = cell (constant false)

module _ (row : ℕ → Row) where
  -- row v, with at most k rows below one another
  unfoldable pub read_within : ℕ → ℕ → Sequence
  read_within zero v = cell (constant false)
  read_within (suc k) v = build (read_within k) (row v)

  module _ (live : ℕ → Bool → Bool) (sound : Sound row) where
    -- some marks with which the operand reads as r
    abbrev Sitting : ℕ → Bool → ℕ → Sequence → Type 0
    Sitting n f v r = (m : Marks r) × Sits row live n f v r m

    some_by : (k n : ℕ) (f : Bool) (v : ℕ) (R : Row) → row v ≡ R → IsOperand R → ((g : Bool) (a : ℕ) → Has R g a → Sitting v g a (read_within k a)) → Sitting n f v (build (read_within k) R)
    some_by k n f v (r_bool b) e q h = (live n f, s_cell e refl)
    some_by k n f v (r_then a b) e q h = let s = h false a refl in let t = h true b refl in ((s.0, t.0), s_then e s.1 t.1)
    some_by k n f v (r_fuse a b) e q h = let s = h false a refl in let t = h true b refl in ((s.0, t.0), s_fuse e s.1 t.1)
    some_by k n f v (r_alt a b) e q h = let s = h false a refl in let t = h true b refl in ((s.0, t.0), s_alt e s.1 t.1)
    some_by k n f v (r_star a) e q h = let s = h false a refl in (s.0, s_star e s.1)
    some_by k n f v (r_plus a) e q h = let s = h false a refl in (s.0, s_plus e s.1)
    some_by k n f v (r_weak _) e q h = elim q [ ]
    some_by k n f v (r_left _) e q h = elim q [ ]
    some_by k n f v r_rest e q h = elim q [ ]

    -- an operand reads as its row does, with fuel enough
    pub sits_some : (k n : ℕ) (f : Bool) (v : ℕ) → v < k → IsOperand (row v) → Sitting n f v (read_within k v)
    unfolding read_within
    sits_some zero n f v l q = absurd (omega arith)
    sits_some (suc k) n f v l q = some_by k n f v (row v) refl q (λ g a i. sits_some k v g a (omega (arith, sound.falls v g a i)) (sound.class v g a i))

  module _ (live : ℕ → Bool → Bool) where
    -- the marks are determined
    pub sits_one : {n : ℕ} {f : Bool} {v : ℕ} {r : Sequence} {m k : Marks r} → Sits row live n f v r m → Sits row live n f v r k → m ≡ k
    sits_one (s_cell e p) (s_cell e' q) = p ∙ sym q
    sits_one (s_then {a = a} {b = b} e s t) (s_then {a = a'} {b = b'} e' s' t') = let p : a' ≡ a = cc in let q : b' ≡ b = cc in two (sits_one s (rw p at s')) (sits_one t (rw q at t'))
    sits_one (s_fuse {a = a} {b = b} e s t) (s_fuse {a = a'} {b = b'} e' s' t') = let p : a' ≡ a = cc in let q : b' ≡ b = cc in two (sits_one s (rw p at s')) (sits_one t (rw q at t'))
    sits_one (s_alt {a = a} {b = b} e s t) (s_alt {a = a'} {b = b'} e' s' t') = let p : a' ≡ a = cc in let q : b' ≡ b = cc in two (sits_one s (rw p at s')) (sits_one t (rw q at t'))
    sits_one (s_star {a = a} e s) (s_star {a = a'} e' s') = let p : a' ≡ a = cc in sits_one s (rw p at s')
    sits_one (s_plus {a = a} e s) (s_plus {a = a'} e' s') = let p : a' ≡ a = cc in sits_one s (rw p at s')

    -- a marked cell is a bit that is set
    abbrev pub Lit : Type 0
    Lit = (j : ℕ) × (g : Bool) × (live j g ≡ true)

    lit_of : (b : Bool) (j : ℕ) (g : Bool) → b ≡ live j g → T b → Lit
    lit_of true j g e t = (j, g, sym e)
    lit_of false j g e t = absurd t

    pub sits_lit : {n : ℕ} {f : Bool} {v : ℕ} {r : Sequence} {m : Marks r} → Sits row live n f v r m → T (any r m) → Lit
    sits_lit {n = n} {f = f} (s_cell {m = m} e q) t = lit_of m n f q t
    sits_lit (s_then {x = x} {y = y} {m = m} e s u) t = ⊎_elim (sits_lit s) (sits_lit u) (or_e (any x m.0) (any y m.1) t)
    sits_lit (s_fuse {x = x} {y = y} {m = m} e s u) t = ⊎_elim (sits_lit s) (sits_lit u) (or_e (any x m.0) (any y m.1) t)
    sits_lit (s_alt {x = x} {y = y} {m = m} e s u) t = ⊎_elim (sits_lit s) (sits_lit u) (or_e (any x m.0) (any y m.1) t)
    sits_lit (s_star e s) t = sits_lit s t
    sits_lit (s_plus e s) t = sits_lit s t
