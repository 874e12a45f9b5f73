-- The two passes together: what they leave at a left side, at a `never` and at a weak sequence is the step of the model.
-- Nothing here has to be believed.
use Rattle.std.specs.Prelude.{ℕ, suc, ◌≤◌, ◌<◌, ◌≡◌, refl, Bool, true, ◌&&◌, T, eqb}
use Rattle.std.proofs.Common.{zero-add, sym, ◌∙◌, ap, ap₂, subst, inr}
use native.Mathlib.Omega.{arith}
use Rattle.std.proofs.Math.Bool.{false, and-true, and-false}
use Rattle.psl.specs.Booleans.{Letter}
use Rattle.psl.specs.Sequences.{Sequence}
use Rattle.psl.proofs.Marks.Automaton.{Marks, gate, first, step}
use Rattle.psl.proofs.Marks.Feed.{any}
use Rattle.psl.proofs.Marks.Masks.{cells}
use Rattle.psl.proofs.Marks.Linear.{join_empty_r, join_empty_l}
use Rattle.psl.specs.Tells.{tells_eq, tells_value, tells_no}
use Rattle.lanes.specs.Bits.{tells_same}
use Rattle.lanes.specs.OneLane.{fed, next, ended_is, next_top}
use Rattle.lanes.specs.CellSets.{fill, own, fill_same, at, at_out, fill_at, own_high}
use Rattle.lanes.specs.Families.{Lanes}
use Rattle.lanes.specs.Rows.{Row, r_bool, r_then, r_fuse, r_alt, r_star, r_plus, r_weak, r_left, r_rest, Sits, sits_one, Lit, sits_lit}
use Rattle.lanes.specs.Expected.{sequence_of, Table, weak_has, left_has, weak_low, marks_of, marks_sit}
use Rattle.lanes.specs.UpPass.{Part, operand, RowPart, part_ok}
use Rattle.lanes.specs.Uses.{ended_lanes, ended_merged, ended_apart}
use Rattle.lanes.specs.DownPass.{Work, LandsBy, weak_use, left_use, give, Landed, down_merged, down_apart}
use Rattle.lanes.specs.DownLoop.{Placed, Sofar, Visits, row_done, none_done}

module _ (row : ℕ → Row) (t : Table row) (c : Letter) (enter : ℕ → Bool) where
  -- the lanes that lead to each cell of a weak node
  abbrev pub reaches_by : Row → ℕ → ℕ → ℕ → Bool
  reaches_by (r_bool b) o l q = false
  reaches_by (r_then a b) o l q = false
  reaches_by (r_fuse a b) o l q = false
  reaches_by (r_alt a b) o l q = false
  reaches_by (r_star a) o l q = false
  reaches_by (r_plus a) o l q = false
  reaches_by (r_weak a) o l q = at (sequence_of row a) 0 (next (sequence_of row a) c (own (sequence_of row a) 0 l) (enter o && eqb l 6) false) q
  reaches_by (r_left a) o l q = false
  reaches_by r_rest o l q = false

  abbrev pub reaches : ℕ → ℕ → ℕ → Bool
  reaches o l q = reaches_by (row o) o l q

  module _ (live : ℕ → Bool → Bool) (part : ℕ → Part) where
    -- the marks of a left side after the letter
    abbrev pub marks_next : (n a : ℕ) → row n ≡ r_left a → Marks (sequence_of row a)
    marks_next n a e = (step (sequence_of row a) c (fed (sequence_of row a) (marks_of row t live n false a (left_has row n a e)) (enter n))).1

    -- some left side or `never` still has an expected cell
    pub record Waits : Type 0 where
      pub node : ℕ
      pub arg : ℕ
      pub left : row node ≡ r_left arg
      pub some : T (any (sequence_of row arg) (marks_next node arg left))

    left_next : (n a : ℕ) (e : row n ≡ r_left a) → next (sequence_of row a) c (marks_of row t live n false a (left_has row n a e)) (enter n && true) false ≡ marks_next n a e
    left_next n a e = next_top (sequence_of row a) c (marks_of row t live n false a (left_has row n a e)) (enter n && true)
        ∙ ap (λ (i : Bool). (step (sequence_of row a) c (fed (sequence_of row a) (marks_of row t live n false a (left_has row n a e)) i)).1) (and-true (enter n))

    -- a weak node and a left side hand their sequence a use that is right
    pub weak_root : (n a : ℕ) → row n ≡ r_weak a → Placed row live c part enter reaches Waits n false a (weak_use n (enter n))
    weak_root n a e = record {
      sequence = sequence_of row a;
      marks = marks_of row t live n false a (weak_has row n a e);
      sits = marks_sit row t live n false a (weak_has row n a e);
      fine = record {
        apart = λ o. record { fits = rw zero-add (t.few n a e); leads = λ l i. sym (fill_at (sequence_of row a) 0 (next (sequence_of row a) c (own (sequence_of row a) 0 l) (enter n && eqb l 6) false)) ∙ ap (λ R. fill (sequence_of row a) 0 (reaches_by R n l)) (sym e) };
        merged = λ o k. absurd (omega (arith, weak_low row t n a e));
      };
    }

    pub left_root : (n a : ℕ) → row n ≡ r_left a → Placed row live c part enter reaches Waits n false a (left_use (enter n))
    left_root n a e = record {
      sequence = sequence_of row a;
      marks = marks_of row t live n false a (left_has row n a e);
      sits = marks_sit row t live n false a (left_has row n a e);
      fine = record {
        apart = λ o. absurd (omega arith);
        merged = λ o k. record { node = n; arg = a; left = e; some = subst (λ z. T (any (sequence_of row a) z)) (left_next n a e) k };
      };
    }

    -- the invariant of the downward pass
    abbrev pub Done : ℕ → Work → Type 0
    Done = Sofar row live c part enter reaches Waits

    module _ (all : (v : ℕ) → RowPart row live c part (row v) v) where
      -- THE DOWNWARD PASS begins with nothing set, above all rows, and goes on row by row.
      pub pass_begins : (n : ℕ) (d : Work) → ((j : ℕ) → n ≤ j → row j ≡ r_rest)
          → ((j : ℕ) (f : Bool) → d.after j f ≡ false) → ((o l q : ℕ) → d.rel o l q ≡ false) → Done n d
      pass_begins = none_done row live c part enter reaches Waits t.sound all weak_root left_root

      pub pass_goes_on : (n : ℕ) (d e : Work) → Done (suc n) d → Visits row live c part enter n d e → Done n e
      pass_goes_on = row_done row live c part enter reaches Waits t.sound all weak_root left_root

      -- LEFT SIDES AND NEVER: whether a match ends; this needs the upward pass alone
      pub left_hit : (n a : ℕ) (e : row n ≡ r_left a)
          → ended_lanes (operand row live c part n false a) (left_use (enter n)) 7 ≡ (step (sequence_of row a) c (fed (sequence_of row a) (marks_of row t live n false a (left_has row n a e)) (enter n))).0
      left_hit n a e =
          let m = marks_of row t live n false a (left_has row n a e) in
          ended_merged (part_ok row live c part all (marks_sit row t live n false a (left_has row n a e))) (left_use (enter n)) refl
          ∙ ended_is (sequence_of row a) c m (enter n && true) ∙ ap (λ (i : Bool). (step (sequence_of row a) c (fed (sequence_of row a) m i)).0) (and-true (enter n))

      module _ (d : Work) (h : Done 0 d) where
        done : (n : ℕ) → Landed row live c part enter d n
        done n = h.landed n (omega arith)

        -- and the cells expected next, once all rows are done
        pub left_after : (n a : ℕ) (e : row n ≡ r_left a) → marks_of row t d.after n false a (left_has row n a e) ≡ marks_next n a e
        left_after n a e =
            let i = left_has row n a e in
            sits_one row d.after (marks_sit row t d.after n false a i)
            (subst (λ z. Sits row d.after n false a (sequence_of row a) z) (left_next n a e)
            (down_merged row live c part enter all d done (marks_sit row t live n false a i) (left_use (enter n)) refl
            (subst (λ R. LandsBy d (row a) n false a (give row live c part enter R n false (d.uses n))) e (done n false a i))))

        -- some bit is set just if some left side still has an expected cell
        pub after_waits : Lit row d.after → Waits
        after_waits x = h.after_right x.0 x.1 x.2

        pub waits_after : Waits → Lit row d.after
        waits_after x = sits_lit row d.after (marks_sit row t d.after x.node false x.arg (left_has row x.node x.arg x.left))
            (subst (λ z. T (any (sequence_of row x.arg) z)) (sym (left_after x.node x.arg x.left)) x.some)

        -- WEAK NODES: the relation is that of the cells
        module _ (n a : ℕ) (e : row n ≡ r_weak a) where
          abbrev r : Sequence
          r = sequence_of row a

          sit : Sits row live n false a r (marks_of row t live n false a (weak_has row n a e))
          sit = marks_sit row t live n false a (weak_has row n a e)

          rel_is : (l q : ℕ) → l < 7 → q < cells r → d.rel n l q ≡ reaches n l q
          unfolding weak_root
          rel_is l q i j = tells_same (tells_value (d.rel n l q)) (tells_value (reaches n l q))
              (h.rel_right n l q (weak_low row t n a e) i)
              (down_apart row live c part enter all d done reaches Waits sit (weak_use n (enter n)) (weak_low row t n a e) (weak_root n a e).fine
              (subst (λ R. LandsBy d (row a) n false a (give row live c part enter R n false (d.uses n))) e (done n false a (weak_has row n a e)))
              q (omega arith, omega arith) l i)

          rel_fill : (l : ℕ) → l < 7 → next r c (own r 0 l) (enter n && eqb l 6) false ≡ fill r 0 (d.rel n l)
          rel_fill l i = sym (fill_at r 0 (next r c (own r 0 l) (enter n && eqb l 6) false))
              ∙ fill_same _ _ r 0 (λ q x y. sym (rel_is l q i (omega arith) ∙ ap (λ R. reaches_by R n l q) e))

          lane : (l : ℕ) (i : l < 7) → ((step r c (fed r (own r 0 l) (enter n && eqb l 6))).0 ≡ ended_lanes (operand row live c part n false a) (weak_use n (enter n)) l)
              × ((step r c (fed r (own r 0 l) (enter n && eqb l 6))).1 ≡ fill r 0 (d.rel n l))
          lane l i = (
            sym (ended_apart (part_ok row live c part all sit) (weak_use n (enter n)) (weak_low row t n a e) (rw zero-add (t.few n a e)) l i ∙ ended_is r c (own r 0 l) (enter n && eqb l 6)),
            sym (next_top r c (own r 0 l) (enter n && eqb l 6)) ∙ rel_fill l i,
          )

          old : (l : ℕ) → l < 6 → fed r (own r 0 l) (enter n && eqb l 6) ≡ own r 0 l
          old l i = ap (λ (b : Bool). fed r (own r 0 l) (enter n && b)) (tells_no (tells_eq l 6) (λ z. omega arith)) ∙ ap (λ (b : Bool). fed r (own r 0 l) b) (and-false (enter n)) ∙ join_empty_r r (own r 0 l)

          new : fed r (own r 0 6) (enter n && true) ≡ gate r (enter n) (first r)
          new = ap₂ (λ (m : Marks r) (b : Bool). fed r m b) (own_high r 0 6 (rw zero-add (t.few n a e))) (and-true (enter n)) ∙ join_empty_l r (gate r (enter n) (first r))

          pub weak_lanes : Lanes r c (enter n) (ended_lanes (operand row live c part n false a) (weak_use n (enter n))) (d.rel n)
          weak_lanes = record {
            few = t.few n a e;
            each = λ l i. (let k = lane l (omega arith) in (ap (λ m. (step r c m).0) (sym (old l i)) ∙ k.0, ap (λ m. (step r c m).1) (sym (old l i)) ∙ k.1));
            fresh = (let k = lane 6 (omega arith) in (ap (λ m. (step r c m).0) (sym new) ∙ k.0, ap (λ m. (step r c m).1) (sym new) ∙ k.1));
            inside = λ l q i j. tells_no (tells_value (d.rel n l q)) (λ z. subst T (sym (h.rel_right n l q (weak_low row t n a e) i z) ∙ ap (λ R. reaches_by R n l q) e ∙ at_out r 0 _ q (inr (omega arith))) tt);
          }
