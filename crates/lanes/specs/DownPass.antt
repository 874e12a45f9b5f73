-- The downward pass, all rows: once each operand has got what its row hands it, the arrays hold the cells expected next.
-- Nothing here has to be believed.
use Rattle.std.specs.Prelude.{ℕ, ◌+◌, ◌≤◌, ◌<◌, ◌≡◌, refl, Bool, true, false, ◌&&◌, eqb}
use Rattle.std.proofs.Common.{arith, sym, ◌∙◌, subst}
use Rattle.std.proofs.Math.Decide.{dec_lt}
use Rattle.psl.specs.Booleans.{Letter}
use Rattle.psl.specs.Sequences.{Sequence}
use Rattle.psl.proofs.Marks.Automaton.{Marks}
use Rattle.psl.proofs.Marks.Masks.{cells}
use Rattle.lanes.specs.OneLane.{next}
use Rattle.lanes.specs.Rows.{Row, r_bool, r_then, r_fuse, r_alt, r_star, r_plus, r_weak, r_left, r_rest, Has, Sits, s_cell, s_then, s_fuse, s_alt, s_star, s_plus}
use Rattle.lanes.specs.UpPass.{Part, operand, RowPart, part_ok}
use Rattle.lanes.specs.Uses.{Use, then_use, fuse_use, alt_use, loop_use, base_is, then_merged, fuse_merged, loop_merged, Fine, fine_cell, then_a, fuse_a, alt_a, then_b, fuse_b, alt_b, star_a, plus_a}

-- The arrays of the downward pass: what each sequence row is handed; the expected cells by row and field; the relations by owner, lane and cell.
pub record Work : Type 0 where
  pub uses : ℕ → Use
  pub after : ℕ → Bool → Bool
  pub rel : ℕ → ℕ → ℕ → Bool

-- a cell in field f of row n has got w: its bit, or its lanes in the relation of its owner
pub record CellLands (d : Work) (n : ℕ) (f : Bool) (w : Use) : Type 0 where
  pub merged : w.owner ≡ 64 → d.after n f ≡ w.go 7
  pub apart : w.owner < 64 → (l : ℕ) → l < 7 → w.go l ≡ true → d.rel w.owner l w.base ≡ true

-- the operand v in field f of row n has got w
abbrev pub LandsBy : Work → Row → ℕ → Bool → ℕ → Use → Type 0
LandsBy d (r_bool b) n f v w = CellLands d n f w
LandsBy d (r_then a b) n f v w = d.uses v ≡ w
LandsBy d (r_fuse a b) n f v w = d.uses v ≡ w
LandsBy d (r_alt a b) n f v w = d.uses v ≡ w
LandsBy d (r_star a) n f v w = d.uses v ≡ w
LandsBy d (r_plus a) n f v w = d.uses v ≡ w
LandsBy d (r_weak a) n f v w = Unit
LandsBy d (r_left a) n f v w = Unit
LandsBy d r_rest n f v w = Unit

-- a weak node's own sequence: lane 6 enters if an attempt starts; a left side's: lane 7
abbrev pub weak_use : ℕ → Bool → Use
weak_use n on = record { owner = n; base = 0; into = λ l. on && eqb l 6; go = λ l. false }

abbrev pub left_use : Bool → Use
left_use on = record { owner = 64; base = 0; into = λ l. on && eqb l 7; go = λ l. false }

module _ (row : ℕ → Row) (live : ℕ → Bool → Bool) (c : Letter) (part : ℕ → Part) (enter : ℕ → Bool) where
  -- what row n, itself handed w, hands to its field f
  abbrev pub give : Row → ℕ → Bool → Use → Use
  give (r_bool x) n f w = w
  give (r_then a b) n false w = w
  give (r_then a b) n true w = then_use (operand row live c part n false a) w
  give (r_fuse a b) n false w = w
  give (r_fuse a b) n true w = fuse_use (operand row live c part n false a) w
  give (r_alt a b) n false w = w
  give (r_alt a b) n true w = alt_use (operand row live c part n false a) w
  give (r_star a) n f w = loop_use (operand row live c part n false a) w
  give (r_plus a) n f w = loop_use (operand row live c part n false a) w
  give (r_weak a) n f w = weak_use n (enter n)
  give (r_left a) n f w = left_use (enter n)
  give r_rest n f w = w

  -- each operand of row n has got what the row hands it
  abbrev pub Landed : Work → ℕ → Type 0
  Landed d n = (f : Bool) (v : ℕ) → Has (row n) f v → LandsBy d (row v) n f v (give (row n) n f (d.uses n))

  module _ (all : (v : ℕ) → RowPart row live c part (row v) v) (d : Work) (landed : (n : ℕ) → Landed d n) where
    landed_at : {n : ℕ} {R : Row} (f : Bool) (v : ℕ) {w : Use} → row n ≡ R → d.uses n ≡ w → Has R f v → LandsBy d (row v) n f v (give R n f w)
    landed_at {n} f v {w} e q = subst (λ R. Has R f v → LandsBy d (row v) n f v (give R n f w)) e (λ h. subst (λ u. LandsBy d (row v) n f v (give (row n) n f u)) q (landed n f v h))

    -- LANE 7: the cells expected next are those of the step
    pub down_merged : {n : ℕ} {f : Bool} {v : ℕ} {r : Sequence} {m : Marks r} → Sits row live n f v r m → (w : Use) → w.owner ≡ 64 → LandsBy d (row v) n f v w
        → Sits row d.after n f v r (next r c m (w.into 7) (w.go 7))
    down_merged (s_cell e k) w o h = s_cell e (sym ((rw e at h).merged o))
    down_merged {v = v} (s_then {a = a} {b = b} {y = y} {m = m} e s t) w o h =
        let q : d.uses v ≡ w = rw e at h in
        s_then e (down_merged s w o (landed_at false a e q refl))
        (subst (λ z. Sits row d.after v true b y z) (then_merged (part_ok row live c part all s) w o y m.1) (down_merged t (then_use (operand row live c part v false a) w) o (landed_at true b e q refl)))
    down_merged {v = v} (s_fuse {a = a} {b = b} {y = y} {m = m} e s t) w o h =
        let q : d.uses v ≡ w = rw e at h in
        s_fuse e (down_merged s w o (landed_at false a e q refl))
        (subst (λ z. Sits row d.after v true b y z) (fuse_merged (part_ok row live c part all s) w o y m.1) (down_merged t (fuse_use (operand row live c part v false a) w) o (landed_at true b e q refl)))
    down_merged {v = v} (s_alt {a = a} {b = b} e s t) w o h =
        let q : d.uses v ≡ w = rw e at h in
        s_alt e (down_merged s w o (landed_at false a e q refl)) (down_merged t (alt_use (operand row live c part v false a) w) o (landed_at true b e q refl))
    down_merged {v = v} (s_star {a = a} {x = x} e s) w o h =
        let q : d.uses v ≡ w = rw e at h in
        s_star e (subst (λ z. Sits row d.after v false a x z) (loop_merged (part_ok row live c part all s) w o) (down_merged s (loop_use (operand row live c part v false a) w) o (landed_at false a e q refl)))
    down_merged {v = v} (s_plus {a = a} {x = x} e s) w o h =
        let q : d.uses v ≡ w = rw e at h in
        s_plus e (subst (λ z. Sits row d.after v false a x z) (loop_merged (part_ok row live c part all s) w o) (down_merged s (loop_use (operand row live c part v false a) w) o (landed_at false a e q refl)))

    module _ (reaches : ℕ → ℕ → ℕ → Bool) (Waits : Type 0) where
      abbrev In : ℕ → ℕ → ℕ → Type 0
      In q b n = (b ≤ q) × (q < b + n)

      -- what a relation has to have: all the lanes that lead to cell q
      abbrev Covers : ℕ → ℕ → ℕ → Type 0
      Covers o b n = (q : ℕ) → In q b n → (l : ℕ) → l < 7 → reaches o l q ≡ true → d.rel o l q ≡ true

      two_cover : (o b b' x y : ℕ) → b' ≡ b + x → Covers o b x → Covers o b' y → Covers o b (y + x)
      two_cover o b b' x y e f g q i l j t = elim (dec_lt q (b + x)) [
        | yes h ↦ f q (i.0, h) l j t
        | no h ↦ g q (omega arith, omega (arith, i.1)) l j t
      ]

      -- LANES 0 TO 6: each lane that leads to a cell of the weak node has got there
      pub down_apart : {n : ℕ} {f : Bool} {v : ℕ} {r : Sequence} {m : Marks r} → Sits row live n f v r m → (w : Use) → w.owner < 64 → Fine c reaches Waits w r m → LandsBy d (row v) n f v w
          → Covers w.owner w.base (cells r)
      down_apart (s_cell e k) w o h z = λ q i l j t.
          (let y : q ≡ w.base = omega (arith, i.0, i.1) in
          rw y ((rw e at z).apart o l j (fine_cell c reaches Waits h o l j ∙ (rw y at t))))
      down_apart {v = v} (s_then {a = a} {b = b} {x = x} {y = y} e s t) w o h z =
          let q : d.uses v ≡ w = rw e at z in
          let p = part_ok row live c part all s in
          two_cover w.owner w.base _ (cells x) (cells y) (base_is p w (cells y) (h.apart o).fits)
          (down_apart s w o (then_a c reaches Waits h) (landed_at false a e q refl))
          (down_apart t (then_use (operand row live c part v false a) w) o (then_b c reaches Waits p h) (landed_at true b e q refl))
      down_apart {v = v} (s_fuse {a = a} {b = b} {x = x} {y = y} e s t) w o h z =
          let q : d.uses v ≡ w = rw e at z in
          let p = part_ok row live c part all s in
          two_cover w.owner w.base _ (cells x) (cells y) (base_is p w (cells y) (h.apart o).fits)
          (down_apart s w o (fuse_a c reaches Waits h) (landed_at false a e q refl))
          (down_apart t (fuse_use (operand row live c part v false a) w) o (fuse_b c reaches Waits p h) (landed_at true b e q refl))
      down_apart {v = v} (s_alt {a = a} {b = b} {x = x} {y = y} e s t) w o h z =
          let q : d.uses v ≡ w = rw e at z in
          let p = part_ok row live c part all s in
          two_cover w.owner w.base _ (cells x) (cells y) (base_is p w (cells y) (h.apart o).fits)
          (down_apart s w o (alt_a c reaches Waits h) (landed_at false a e q refl))
          (down_apart t (alt_use (operand row live c part v false a) w) o (alt_b c reaches Waits p h) (landed_at true b e q refl))
      down_apart {v = v} (s_star {a = a} e s) w o h z =
          let q : d.uses v ≡ w = rw e at z in
          down_apart s (loop_use (operand row live c part v false a) w) o (star_a c reaches Waits (part_ok row live c part all s) h) (landed_at false a e q refl)
      down_apart {v = v} (s_plus {a = a} e s) w o h z =
          let q : d.uses v ≡ w = rw e at z in
          down_apart s (loop_use (operand row live c part v false a) w) o (plus_a c reaches Waits (part_ok row live c part all s) h) (landed_at false a e q refl)
