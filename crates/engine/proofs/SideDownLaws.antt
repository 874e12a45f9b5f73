-- The walk down the rows of left sides: what holds of the rows that are done, and that one row keeps it.
use Prim.Native.Nat.{ℕ, ◌%◌, ◌≤◌, ◌<◌}
use native.Mathlib.Omega.{arith}
use native.Mathlib.Decide.{dec_lt}
use mathlib.Core.Path.{◌≡◌, refl, sym, ◌∙◌, ap, subst}
use mathlib.Core.Bool.{Bool, true, false}
use mathlib.Core.List.{List}
use lib.Dec.{T}
use lib.ListN.{length, get_or}
use Rattle.psl.specs.Booleans.{bit, sample}
use Rattle.lanes.specs.Rows.{Row, r_bool, r_then, r_fuse, r_alt, r_star, r_plus, r_weak, r_left, r_rest, Has, IsSequence}
use Rattle.lanes.specs.Expected.{Table}
use Rattle.lanes.specs.UpPass.{Part}
use Rattle.lanes.specs.Uses.{Use}
use Rattle.lanes.specs.DownPass.{Work, CellLands, LandsBy, left_use, give}
use Rattle.lanes.specs.Ideal.{part_of, whole_work, whole_right}
use Rattle.lanes.specs.Whole.{after_only}
use Rattle.table.proofs.Laws.Numbers.{same_test}
use Rattle.words.specs.Bits.{bit_none}
use Rattle.words.specs.Sets.{Highest}
use Rattle.words.specs.Walk.{Turn, rest_in, Left, left_start, left_turn, left_end}
use Rattle.engine.specs.Reads.{kind_of, a_of, b_of}
use Rattle.engine.specs.Truths.{OnlyIn}
use Rattle.engine.specs.Sides.{one_if, side_code, use_code, live_in, SideOperand, is_cell, is_row, SideRow, reads_then, reads_fuse, reads_alt, reads_star, reads_plus, reads_left, SideRows, SideUsers, first_part, LeftsFound, SidesEnter, SidesDown}
use Rattle.engine.specs.SideSteps.{has, Right, Only, Handed, HandedTwo, HandedOne, Downed}
use Rattle.engine.proofs.SideLaws.{has_go, handed_length}
use Rattle.engine.proofs.SideRowLaws.{clash, has_one, cell_apart, sequence_row_lem, rest_else, with_bit_here, with_bit_else, Over, over_same, over_more, over_clear}
use Rattle.engine.proofs.SideUpLaws.{stored, stored_else}

-- ---- what is safe at any rows

abbrev pub Any : ℕ → Type 0
Any k = Unit

pub record DownSafe (sides left : ℕ) (uses : List ℕ) (a b : ℕ) : Type 0 where
  pub size : length uses ≡ 64
  pub left_in : (k : ℕ) → bit left k ≡ true → bit sides k ≡ true
  pub a_in : Over Any sides left a
  pub b_in : Over Any sides left b

pub down_safe_start : (sides : ℕ) (uses : List ℕ) → length uses ≡ 64 → DownSafe sides sides uses 0 0
down_safe_start sides uses s = record { size = s; left_in = λ k e. e; a_in = λ k e. absurd (clash e (bit_none k)); b_in = λ k e. absurd (clash e (bit_none k)) }

pub only_in : (sides left word : ℕ) → Over Any sides left word → OnlyIn sides word
only_in sides left word o k e = go (bit word k) refl
  where
    go : (b : Bool) → bit word k ≡ b → b ≡ false
    go true q = absurd (clash (o k q).0 e)
    go false q = refl

module _ (sides : ℕ) {left n rest : ℕ} (turn : Turn left n rest) (s : bit sides n ≡ true) where
  handed_over : {v used booleans word word' : ℕ} {uses uses' : List ℕ} → Handed n v used booleans word uses word' uses' → Over Any sides left word → Over Any sides rest word'
  handed_over {v = v} {booleans = booleans} {word = word} {word' = word'} h o = by (bit booleans (v % 64)) refl
    where
      by : (b : Bool) → bit booleans (v % 64) ≡ b → Over Any sides rest word'
      by true e = over_more Any sides turn word word' (h.cell_word e) s tt o
      by false e = rw (h.row_word e) (over_same Any sides turn word o)

pub down_safe_turn : {t : List ℕ} {sides left n rest booleans begin held a b a' b' : ℕ} {lefts uses uses' : List ℕ} → DownSafe sides left uses a b → Turn left n rest
    → Downed t n booleans begin held a b lefts uses a' b' uses' → DownSafe sides rest uses' a' b'
down_safe_turn {t = t} {sides = sides} {left = left} {n = n} {rest = rest} {a = a} {b = b} {a' = a'} {b' = b'} {uses = uses} {uses' = uses'} safe turn d = elim (dec_lt 18 (kind_of t n)) [
  | yes l ↦ (let o = (d.only_is l).2 in record {
    size = handed_length o.first ∙ safe.size;
    left_in = λ k e. safe.left_in k (rest_in turn k e).0;
    a_in = handed_over sides turn here o.first safe.a_in;
    b_in = rw o.second (over_same Any sides turn b safe.b_in);
  })
  | no l ↦ (let o = (d.pair_is (omega arith)).2 in record {
    size = handed_length o.second ∙ handed_length o.first ∙ safe.size;
    left_in = λ k e. safe.left_in k (rest_in turn k e).0;
    a_in = handed_over sides turn here o.first safe.a_in;
    b_in = handed_over sides turn here o.second safe.b_in;
  })
]
  where
    here : bit sides n ≡ true
    here = safe.left_in n turn.set

-- ---- what it means

-- what lands at a sequence row is its use
lands_row : (d : Work) (R : Row) (n : ℕ) (f : Bool) (v : ℕ) (w : Use) → IsSequence R → LandsBy d R n f v w → d.uses v ≡ w
lands_row d (r_bool x) n f v w s h = absurd s
lands_row d (r_then a b) n f v w s h = h
lands_row d (r_fuse a b) n f v w s h = h
lands_row d (r_alt a b) n f v w s h = h
lands_row d (r_star a) n f v w s h = h
lands_row d (r_plus a) n f v w s h = h
lands_row d (r_weak a) n f v w s h = absurd s
lands_row d (r_left a) n f v w s h = absurd s
lands_row d r_rest n f v w s h = absurd s

left_code : (on : Bool) → one_if on 1 ≡ use_code (left_use on)
left_code true = refl
left_code false = refl

module _ (t : List ℕ) (row : ℕ → Row) (table : Table row) (live : ℕ → Bool → Bool) (booleans sides truth begin held x : ℕ) (lefts : List ℕ) (enter : ℕ → Bool) where
  abbrev part : ℕ → Part
  part = part_of row live (sample x)

  abbrev first : ℕ → Part
  first n = first_part row live x n (a_of t n)

  -- the finished pass
  abbrev whole : Work
  whole = whole_work row table live (sample x) enter

  -- the number of row v is what the finished pass has handed it
  abbrev Used : List ℕ → ℕ → Type 0
  Used uses v = (get_or uses v 0 ≡ use_code (whole.uses v)) × ((whole.uses v).owner ≡ 64)

  -- the rows that are done have handed on what they should, and expect the cells that they should
  pub record DownSofar (left : ℕ) (uses : List ℕ) (a b : ℕ) : Type 0 where
    pub used : (n : ℕ) → bit sides n ≡ true → bit left n ≡ false → (f : Bool) (v : ℕ) → Has (row n) f v → IsSequence (row v) → Used uses v
    pub expected : Left sides left (λ n. (f : Bool) → live_in a b n f ≡ whole.after n f)

  pub down_start : (uses : List ℕ) (a b : ℕ) → DownSofar sides uses a b
  down_start uses a b = record { used = λ n s e. absurd (clash s e); expected = left_start sides }

  pub down_end : {uses : List ℕ} {a b : ℕ} → DownSofar 0 uses a b → SidesDown row table live sides x enter a b
  down_end h = record { next_is = λ n s. left_end h.expected n s }

  module _ (all : SideRows t row booleans sides truth x) (users : SideUsers t row sides) (entering : SidesEnter t sides begin held enter) (found : LeftsFound t row live sides x lefts)
      {left n rest : ℕ} {uses uses' : List ℕ} {a b a' b' : ℕ}
      (safe : DownSafe sides left uses a b) (top : Highest left n) (turn : Turn left n rest) (d : Downed t n booleans begin held a b lefts uses a' b' uses') (h : DownSofar left uses a b) where
    here : bit sides n ≡ true
    here = safe.left_in n turn.set

    own : SideRow t row booleans sides truth x n
    own = all n here

    small : n % 64 ≡ n
    small = omega (arith, turn.small)

    -- what row n, were it R, hands to its field f
    abbrev given : Row → Bool → Use
    given R f = give row live (sample x) part enter R n f (whole.uses n)

    landed : (f : Bool) (v : ℕ) → Has (row n) f v → LandsBy whole (row v) n f v (given (row n) f)
    landed f v = (whole_right row table live (sample x) enter).landed n (omega arith) f v

    -- its own use was handed to it by a row that is done
    own_use : kind_of t n < 32 → Used uses n
    own_use l =
        let s = sequence_row_lem own l in
        let u = table.sound.used n s in
        h.used u.0 (users n here l u.0 u.1 u.2) (top.above u.0 (table.sound.falls u.0 u.1 n u.2)) u.1 n u.2 s

    -- no cell is expected next in a field that holds a sequence, or nothing
    dark : (f : Bool) → ((v : ℕ) → Has (row n) f v → IsSequence (row v)) → whole.after n f ≡ false
    dark f s = go (whole.after n f) refl
      where
        go : (z : Bool) → whole.after n f ≡ z → z ≡ false
        go true e = let k = (after_only row table live (sample x) enter n f e).0 in absurd (cell_apart row n f k.at k.has (s k.at k.has) k)
        go false e = refl

    -- one operand has got its use
    pub record HandedRight (f : Bool) (v word word' : ℕ) (out out' : List ℕ) : Type 0 where
      pub word_here : bit word' n ≡ whole.after n f
      pub word_else : (k : ℕ) → (k ≡ n → ⊥) → bit word' k ≡ bit word k
      pub use_here : IsSequence (row v) → Used out' v
      pub use_else : (u : ℕ) → (u ≡ v → ⊥) → get_or out' u 0 ≡ get_or out u 0

    handed_right : (f : Bool) (v used word word' : ℕ) (out out' : List ℕ) → Handed n v used booleans word out word' out' → Has (row n) f v → SideOperand t row booleans sides truth x n v
        → length out ≡ 64 → bit word n ≡ false → used ≡ use_code (given (row n) f) → (given (row n) f).owner ≡ 64 → HandedRight f v word word' out out'
    handed_right f v used word word' out out' hd i (is_cell {b = b} l m e k) size clear code o =
        let p : v % 64 ≡ v = omega arith in
        let q : bit booleans (v % 64) ≡ true = ap (bit booleans) p ∙ m in
        let lands : CellLands whole n f (given (row n) f) = rw e at (landed f v i) in
        record {
          word_here = with_bit_here (hd.cell_word q) turn.small clear ∙ ap (has 2) code ∙ has_go (given (row n) f) ∙ sym (lands.merged o);
          word_else = λ j z. with_bit_else (hd.cell_word q) turn.small j z;
          use_here = λ s. absurd (subst IsSequence e s);
          use_else = λ u z. ap (λ (list : List ℕ). get_or list u 0) (hd.cell_uses q);
        }
    handed_right f v used word word' out out' hd i (is_row l z s k) size clear code o =
        let low : v < 64 = omega (arith, turn.small) in
        let p : v % 64 ≡ v = omega arith in
        let q : bit booleans (v % 64) ≡ false = ap (bit booleans) p ∙ z in
        let sequence = sequence_row_lem (all v s) k in
        let lands = lands_row whole (row v) n f v (given (row n) f) sequence (landed f v i) in
        record {
          word_here = ap (λ (w : ℕ). bit w n) (hd.row_word q) ∙ clear ∙ sym (dark f (λ w j. subst (λ (u : ℕ). IsSequence (row u)) (has_one (row n) f v w i j) sequence));
          word_else = λ j y. ap (λ (w : ℕ). bit w j) (hd.row_word q);
          use_here = λ y. (stored out v used out' size low (hd.row_uses q) ∙ code ∙ ap use_code (sym lands), ap (λ (w : Use). w.owner) lands ∙ o);
          use_else = λ u y. stored_else out v used u out' low (hd.row_uses q) y;
        }

    -- the row is visited
    pub record VisitedRight : Type 0 where
      pub words_here : (f : Bool) → live_in a' b' n f ≡ whole.after n f
      pub words_else : (k : ℕ) → (k ≡ n → ⊥) → (f : Bool) → live_in a' b' k f ≡ live_in a b k f
      pub uses_here : (f : Bool) (v : ℕ) → Has (row n) f v → IsSequence (row v) → Used uses' v
      pub uses_else : (u : ℕ) → ((f : Bool) → Has (row n) f u → ⊥) → get_or uses' u 0 ≡ get_or uses u 0

    visited_turn : VisitedRight → DownSofar rest uses' a' b'
    visited_turn w = record {
      used = λ m s e f v i q. elim (same_test m n) [
        | yes z ↦ w.uses_here f v (subst (λ (k : ℕ). Has (row k) f v) z i) q
        | no z ↦ (let u = h.used m s (sym (rest_else turn m z) ∙ e) f v i q in
            (w.uses_else v (λ g j. z (table.sound.once m n f g v q i j).0) ∙ u.0, u.1))
      ];
      expected = left_turn h.expected turn (λ k e. elim (same_test k n) [ yes z ↦ rw z w.words_here | no z ↦ (λ f. w.words_else k z f ∙ e f) ]) w.words_here;
    }

    clear_a : bit a n ≡ false
    clear_a = over_clear Any sides turn a safe.a_in

    clear_b : bit b n ≡ false
    clear_b = over_clear Any sides turn b safe.b_in

    module _ (used on : ℕ) (two : HandedTwo t n used on booleans a b uses a' b' uses')
        (i : Has (row n) false (a_of t n)) (j : Has (row n) true (b_of t n))
        (p : SideOperand t row booleans sides truth x n (a_of t n)) (q : SideOperand t row booleans sides truth x n (b_of t n))
        (u : used ≡ use_code (given (row n) false)) (v : on ≡ use_code (given (row n) true))
        (o : (given (row n) false).owner ≡ 64) (r : (given (row n) true).owner ≡ 64) where
      one : HandedRight false (a_of t n) a a' uses two.between
      one = handed_right false (a_of t n) used a a' uses two.between two.first i p safe.size clear_a u o

      other : HandedRight true (b_of t n) b b' two.between uses'
      other = handed_right true (b_of t n) on b b' two.between uses' two.second j q (handed_length two.first ∙ safe.size) clear_b v r

      apart : IsSequence (row (a_of t n)) → a_of t n ≡ b_of t n → ⊥
      apart s z = subst T (sym (table.sound.once n n false true (a_of t n) s i (subst (λ (k : ℕ). Has (row n) true k) (sym z) j)).1) tt

      two_visited : VisitedRight
      two_visited = record {
        words_here = here_by;
        words_else = else_by;
        uses_here = uses_by;
        uses_else = λ k z. other.use_else k (λ e. z true (subst (λ (w : ℕ). Has (row n) true w) (sym e) j)) ∙ one.use_else k (λ e. z false (subst (λ (w : ℕ). Has (row n) false w) (sym e) i));
      }
        where
          here_by : (f : Bool) → live_in a' b' n f ≡ whole.after n f
          here_by false = one.word_here
          here_by true = other.word_here

          else_by : (k : ℕ) → (k ≡ n → ⊥) → (f : Bool) → live_in a' b' k f ≡ live_in a b k f
          else_by k z false = one.word_else k z
          else_by k z true = other.word_else k z

          uses_by : (f : Bool) (w : ℕ) → Has (row n) f w → IsSequence (row w) → Used uses' w
          uses_by false w e s = rw (has_one (row n) false w (a_of t n) e i) (left_by (subst (λ (k : ℕ). IsSequence (row k)) (has_one (row n) false w (a_of t n) e i) s))
            where
              left_by : IsSequence (row (a_of t n)) → Used uses' (a_of t n)
              left_by y = let k = one.use_here y in (other.use_else (a_of t n) (apart y) ∙ k.0, k.1)
          uses_by true w e s = rw (has_one (row n) true w (b_of t n) e j) (other.use_here (subst (λ (k : ℕ). IsSequence (row k)) (has_one (row n) true w (b_of t n) e j) s))

    module _ (used : ℕ) (got : HandedOne t n used booleans a b uses a' b' uses')
        (i : Has (row n) false (a_of t n)) (none : (v : ℕ) → Has (row n) true v → ⊥) (p : SideOperand t row booleans sides truth x n (a_of t n))
        (u : used ≡ use_code (given (row n) false)) (o : (given (row n) false).owner ≡ 64) where
      only : HandedRight false (a_of t n) a a' uses uses'
      only = handed_right false (a_of t n) used a a' uses uses' got.first i p safe.size clear_a u o

      one_visited : VisitedRight
      one_visited = record {
        words_here = here_by;
        words_else = else_by;
        uses_here = uses_by;
        uses_else = λ k z. only.use_else k (λ e. z false (subst (λ (w : ℕ). Has (row n) false w) (sym e) i));
      }
        where
          here_by : (f : Bool) → live_in a' b' n f ≡ whole.after n f
          here_by false = only.word_here
          here_by true = ap (λ (w : ℕ). bit w n) got.second ∙ clear_b ∙ sym (dark true (λ v e. absurd (none v e)))

          else_by : (k : ℕ) → (k ≡ n → ⊥) → (f : Bool) → live_in a' b' k f ≡ live_in a b k f
          else_by k z false = only.word_else k z
          else_by k z true = ap (λ (w : ℕ). bit w k) got.second

          uses_by : (f : Bool) (w : ℕ) → Has (row n) f w → IsSequence (row w) → Used uses' w
          uses_by false w e s = rw (has_one (row n) false w (a_of t n) e i) (only.use_here (subst (λ (k : ℕ). IsSequence (row k)) (has_one (row n) false w (a_of t n) e i) s))
          uses_by true w e s = absurd (none w e)

    -- the numbers that the row starts from
    left_number : get_or lefts (n % 64) 0 ≡ side_code (first n)
    left_number = ap (λ (i : ℕ). get_or lefts i 0) small ∙ found n here

    use_number : kind_of t n < 32 → get_or uses (n % 64) 0 ≡ use_code (whole.uses n)
    use_number l = ap (λ (i : ℕ). get_or uses i 0) small ∙ (own_use l).0

    enter_number : (used : ℕ) → 40 ≤ kind_of t n → kind_of t n ≤ 42 → Only n (kind_of t n) (get_or lefts (n % 64) 0) (get_or uses (n % 64) 0) begin held used → used ≡ use_code (left_use (enter n))
    enter_number used l m g = elim (same_test (kind_of t n) 42) [
      | yes k ↦ g.never_is k ∙ ap (λ (i : ℕ). one_if (bit held i) 1) small ∙ ap (λ (on : Bool). one_if on 1) (sym (entering.runs n here k)) ∙ left_code (enter n)
      | no k ↦ g.left_is (omega arith) k ∙ ap (λ (i : ℕ). one_if (bit begin i) 1) small ∙ ap (λ (on : Bool). one_if on 1) (sym (entering.begins n here l (below k))) ∙ left_code (enter n)
    ]
      where
        below : (kind_of t n ≡ 42 → ⊥) → kind_of t n < 42
        below z = elim (dec_lt (kind_of t n) 42) [ yes q ↦ q | no q ↦ absurd (z (omega arith)) ]

    -- a row that reads as R hands on what R does
    module _ (R : Row) (e : row n ≡ R) where
      hands : (f : Bool) (number : ℕ) → number ≡ use_code (given R f) → (given R f).owner ≡ 64 → (number ≡ use_code (given (row n) f)) × ((given (row n) f).owner ≡ 64)
      hands f number c o = let z : given (row n) f ≡ given R f = ap (λ (S : Row). given S f) e in (c ∙ ap use_code (sym z), ap (λ (y : Use). y.owner) z ∙ o)

      has_in : (f : Bool) (v : ℕ) → Has R f v → Has (row n) f v
      has_in f v i = rw e i

      pair : Has R false (a_of t n) → Has R true (b_of t n) → kind_of t n ≤ 18 → given R false ≡ whole.uses n → (given R true).owner ≡ (whole.uses n).owner
          → ((on : ℕ) → Right (kind_of t n) (get_or lefts (n % 64) 0) (get_or uses (n % 64) 0) on → on ≡ use_code (given R true))
          → SideOperand t row booleans sides truth x n (a_of t n) → SideOperand t row booleans sides truth x n (b_of t n) → VisitedRight
      pair i j k same owner right p q =
          let g = d.pair_is k in
          let l : kind_of t n < 32 = omega arith in
          let u = hands false _ (use_number l ∙ ap use_code (sym same)) (ap (λ (y : Use). y.owner) same ∙ (own_use l).1) in
          let v = hands true g.0 (right g.0 g.1) (owner ∙ (own_use l).1) in
          two_visited _ g.0 g.2 (has_in false _ i) (has_in true _ j) p q u.0 v.0 u.1 v.1

      lone : Has R false (a_of t n) → ((v : ℕ) → Has R true v → ⊥) → 18 < kind_of t n → (given R false).owner ≡ 64
          → ((used : ℕ) → Only n (kind_of t n) (get_or lefts (n % 64) 0) (get_or uses (n % 64) 0) begin held used → used ≡ use_code (given R false))
          → SideOperand t row booleans sides truth x n (a_of t n) → VisitedRight
      lone i none k owner own_is p =
          let g = d.only_is k in
          let u = hands false g.0 (own_is g.0 g.1) owner in
          one_visited g.0 g.2 (has_in false _ i) (λ v z. none v (rw e at z)) p u.0 u.1

    -- ONE ROW DOWN
    pub down_turn : DownSofar rest uses' a' b'
    down_turn = visited_turn (by own)
      where
        own_owner : kind_of t n < 32 → (whole.uses n).owner ≡ 64
        own_owner l = (own_use l).1

        by : SideRow t row booleans sides truth x n → VisitedRight
        by (reads_then k e p q) = let l : kind_of t n < 32 = omega arith in
            pair _ e refl refl (omega arith) refl refl (λ on r. r.then_is k (first n) (whole.uses n) (own_owner l) left_number (use_number l)) p q
        by (reads_fuse k e p q) = let l : kind_of t n < 32 = omega arith in
            pair _ e refl refl (omega arith) refl refl (λ on r. r.fuse_is k (first n) (whole.uses n) (own_owner l) left_number (use_number l)) p q
        by (reads_alt k e p q) = let l : kind_of t n < 32 = omega arith in
            pair _ e refl refl (omega arith) refl refl (λ on r. r.alt_is k (first n) (whole.uses n) (own_owner l) left_number (use_number l)) p q
        by (reads_star k e p) = let l : kind_of t n < 32 = omega arith in
            lone _ e refl (λ v z. z) (omega arith) (own_owner l) (λ used o. o.loop_is l (first n) (whole.uses n) (own_owner l) left_number (use_number l)) p
        by (reads_plus k e p) = let l : kind_of t n < 32 = omega arith in
            lone _ e refl (λ v z. z) (omega arith) (own_owner l) (λ used o. o.loop_is l (first n) (whole.uses n) (own_owner l) left_number (use_number l)) p
        by (reads_left k m e p) = lone _ e refl (λ v z. z) (omega arith) refl (λ used o. enter_number used k m o) p
