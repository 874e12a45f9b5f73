-- A property's rows as the passes see them: those of the table that the property reaches, and nothing else.
use Prim.Native.Nat.{ℕ, zero, suc, ◌≤◌}
use Rattle.std.proofs.Common.{arith, ◌∙◌}
use Rattle.std.specs.Prelude.{◌≡◌, Bool, List}
use Rattle.std.proofs.Math.Path.{refl, ap}
use Rattle.std.proofs.Math.Bool.{true, false}
use Rattle.table.specs.Subset.{Subset}
use Rattle.table.specs.declared.Counts.{Counts}
use Rattle.lanes.specs.Rows.{Row, r_bool, r_then, r_fuse, r_alt, r_star, r_plus, r_weak, r_left, r_rest, Has, IsSequence, Sound, build, read_within}
use Rattle.lanes.specs.Expected.{Table}
use Rattle.accepted.specs.Rows.{row_of}
use Rattle.accepted.specs.WeakCells.{table}

-- The row of n where it is reached.
abbrev pub kept : Bool → Row → Row
kept true R = R
kept false R = r_rest

unfoldable pub viewed : List ℕ → ℕ → (ℕ → Bool) → ℕ → Row
viewed t nodes reached n = kept (reached n) (row_of t nodes n)

-- What is asked of the rows that are reached: the operands of a row are, and a sequence stands in one.
pub record Closed (t : List ℕ) (nodes : ℕ) (reached : ℕ → Bool) : Type 0 where
  pub operands : (n : ℕ) (f : Bool) (v : ℕ) → reached n ≡ true → Has (row_of t nodes n) f v → reached v ≡ true
  pub users : (v : ℕ) → reached v ≡ true → IsSequence (row_of t nodes v) → (n : ℕ) × (f : Bool) × (reached n ≡ true) × Has (row_of t nodes n) f v

module _ (t : List ℕ) (c : Counts) (z : Subset t c) (reached : ℕ → Bool) (closed : Closed t c.nodes reached) where
  abbrev rows : ℕ → Row
  rows = row_of t c.nodes

  abbrev pub view : ℕ → Row
  view = viewed t c.nodes reached

  pub view_in : (n : ℕ) → reached n ≡ true → view n ≡ rows n
  unfolding viewed
  view_in n e = ap (λ (b : Bool). kept b (rows n)) e

  pub view_out : (n : ℕ) → reached n ≡ false → view n ≡ r_rest
  unfolding viewed
  view_out n e = ap (λ (b : Bool). kept b (rows n)) e

  -- a row that is something is reached
  seen : (n : ℕ) (P : Row → Type 0) → P (view n) → (P r_rest → ⊥) → (reached n ≡ true) × P (rows n)
  unfolding viewed
  seen n P h no-rest = go (reached n) refl h
    where
      go : (b : Bool) → reached n ≡ b → P (kept b (rows n)) → (reached n ≡ true) × P (rows n)
      go true e p = (e, p)
      go false e p = absurd (no-rest p)

  has_rows : (n : ℕ) (f : Bool) (v : ℕ) → Has (view n) f v → (reached n ≡ true) × Has (rows n) f v
  has_rows n f v i = seen n (λ R. Has R f v) i (λ h. no_operand f h)
    where
      no_operand : (f : Bool) → Has r_rest f v → ⊥
      no_operand false h = h
      no_operand true h = h

  rows_has : (n : ℕ) (f : Bool) (v : ℕ) → reached n ≡ true → Has (rows n) f v → Has (view n) f v
  rows_has n f v e i = rw (view_in n e) i

  operand_in : (n : ℕ) (f : Bool) (v : ℕ) → Has (view n) f v → reached v ≡ true
  operand_in n f v i = let h = has_rows n f v i in closed.operands n f v h.0 h.1

  all : Table rows
  all = table t c z

  view_sound : Sound view
  view_sound = record {
    falls = λ n f v i. all.sound.falls n f v (has_rows n f v i).1;
    class = λ n f v i. rw (view_in v (operand_in n f v i)) (all.sound.class n f v (has_rows n f v i).1);
    once = λ n k f g v s i j. all.sound.once n k f g v (seen v IsSequence s (λ h. h)).1 (has_rows n f v i).1 (has_rows k g v j).1;
    used = λ v s. (let q = seen v IsSequence s (λ h. h) in let u = closed.users v q.0 q.1 in (u.0, u.1, rows_has u.0 u.1 v u.2 u.3));
  }

  -- reading is the same, below a row that is reached
  pub read_view : (k v : ℕ) → reached v ≡ true → read_within view k v ≡ read_within rows k v
  unfolding read_within
  read_view zero v e = refl
  read_view (suc k) v e = rw (view_in v e) (same (rows v) refl (λ a i. read_view k a i))
    where
      same : (R : Row) → rows v ≡ R → ((a : ℕ) → reached a ≡ true → read_within view k a ≡ read_within rows k a) → build (read_within view k) R ≡ build (read_within rows k) R
      same (r_bool b) q g = refl
      same (r_then a b) q g = cc (g a (closed.operands v false a e (rw q refl)), g b (closed.operands v true b e (rw q refl)))
      same (r_fuse a b) q g = cc (g a (closed.operands v false a e (rw q refl)), g b (closed.operands v true b e (rw q refl)))
      same (r_alt a b) q g = cc (g a (closed.operands v false a e (rw q refl)), g b (closed.operands v true b e (rw q refl)))
      same (r_star a) q g = cc (g a (closed.operands v false a e (rw q refl)))
      same (r_plus a) q g = cc (g a (closed.operands v false a e (rw q refl)))
      same (r_weak a) q g = refl
      same (r_left a) q g = refl
      same r_rest q g = refl

  weak_is : (n a : ℕ) → view n ≡ r_weak a → (reached n ≡ true) × (rows n ≡ r_weak a)
  weak_is n a e = seen n (λ R. R ≡ r_weak a) e (λ h. (let q : ◌≡◌ {A = ℕ} 0 1 = cc in omega arith))

  pub view_table : Table view
  view_table = record {
    sound = view_sound;
    beyond = λ n l. beyond_is n l (reached n) refl;
    few = λ n a e. (let w = weak_is n a e in rw (read_view 63 a (closed.operands n false a w.0 (rw w.1 refl))) (all.few n a w.1));
  }
    where
      beyond_is : (n : ℕ) → 64 ≤ n → (b : Bool) → reached n ≡ b → view n ≡ r_rest
      beyond_is n l true e = view_in n e ∙ all.beyond n l
      beyond_is n l false e = view_out n e
