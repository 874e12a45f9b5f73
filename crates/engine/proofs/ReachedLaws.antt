-- The set of reached rows, downwards row by row; and the chosen rows, upwards.
use Prim.Native.Nat.{ℕ, zero, suc, ◌+◌, ◌-◌, ◌%◌, ◌^◌, ◌≤◌, ◌<◌}
use native.Mathlib.Omega.{arith}
use native.Mathlib.Decide.{dec_lt}
use native.Mathlib.Nat.{mod-eq_of_lt}
use mathlib.Core.Path.{◌≡◌, refl, sym, ◌∙◌, ap, subst}
use mathlib.Core.Bool.{Bool, true, false, not, ◌&&◌, ◌||◌, and-true}
use mathlib.Core.List.{List}
use mathlib.Core.Logic.{◌⊎◌, inl, inr, ⊎_elim}
use borrow.Author.Tests.{eqb-true, eq-eqb, ne_eqb, lt-ltb}
use lib.Bits.{bit_and}
use lib.Dec.{T, eqb, ltb, leb}
use Rattle.psl.specs.Booleans.{bit}
use Rattle.words.specs.Sets.{WithBit}
use Rattle.words.specs.Bits.{bit_none, bit_and_lem, bit_not, set_below}
use Rattle.words.specs.Walk.{Turn, rest_in}
use Rattle.table.specs.Kinds.{takes_of, fields_by, fields_of}
use Rattle.table.specs.Rows.{row_at}
use Rattle.table.specs.Subset.{Field, field_a, field_b, field_c, value_in, holds_in, IsOperand, holds_at, value_at, kind_at, Subset}
use Rattle.table.proofs.Laws.Rows.{operand_test}
use Rattle.table.specs.declared.rows.Row.{Row}
use Rattle.table.specs.declared.kinds.Takes.{Takes}
use Rattle.table.specs.declared.kinds.Fields.{Fields}
use Rattle.table.specs.declared.Counts.{Counts}
use Rattle.table.specs.declared.kinds.Holds.{Holds}
use Rattle.table.specs.declared.kinds.Holds.TheVariants.{Nothing, Signal, B, Q, F}
use Rattle.engine.specs.Reached.{follows, Leads, Joined, Comes, Spread, is_chosen}
use Rattle.engine.proofs.TruthLaws.{set_here, set_other}

-- ---- Booleans

pub or_left : (a b : Bool) → a ≡ true → a || b ≡ true
or_left a b e = rw e

pub or_right : (a b : Bool) → b ≡ true → a || b ≡ true
or_right true b e = refl
or_right false b e = e

pub or_so : (a b : Bool) → a || b ≡ true → (a ≡ true) ⊎ (b ≡ true)
or_so true b e = inl refl
or_so false b e = inr e

pub and_so : (a b : Bool) → a && b ≡ true → (a ≡ true) × (b ≡ true)
and_so true b e = (refl, e)
and_so false b e = absurd (subst T (sym e) tt)

pub so_and : (a b : Bool) → a ≡ true → b ≡ true → a && b ≡ true
so_and a b p q = rw p q

-- ---- a word with one bit more

-- what reading bit n told
pub told : (rows n : ℕ) {r b : Bool} → n < 64 → r ≡ bit rows (n % 64) → r ≡ b → bit rows n ≡ b
told rows n l e q = ap (bit rows) (sym (mod-eq_of_lt l)) ∙ sym e ∙ q

pub with_same : {x v r : ℕ} {on test : Bool} → on ≡ test → WithBit x v on r → WithBit x v test r
with_same {x} {v} {r} e w = subst (λ (b : Bool). WithBit x v b r) e w

pub with_keeps : {x v r : ℕ} {on : Bool} → WithBit x v on r → (k : ℕ) → bit x k ≡ true → bit r k ≡ true
with_keeps {x} {v} {r} {on} w k e = w.each k ∙ or_left (bit x k) (on && eqb k (v % 64)) e

pub with_on : {x v r : ℕ} {on : Bool} → WithBit x v on r → on ≡ true → bit r (v % 64) ≡ true
with_on {x} {v} {r} {on} w e = w.each (v % 64) ∙ or_right (bit x (v % 64)) (on && eqb (v % 64) (v % 64)) (so_and on (eqb (v % 64) (v % 64)) e (eq-eqb (v % 64) (v % 64) refl))

pub with_so : {x v r : ℕ} {on : Bool} → WithBit x v on r → (k : ℕ) → bit r k ≡ true → (bit x k ≡ true) ⊎ ((on ≡ true) × (k ≡ v % 64))
with_so {x} {v} {r} {on} w k e = ⊎_elim inl
    (λ h. let b = and_so on (eqb k (v % 64)) h in inr (b.0, eqb-true k (v % 64) b.1))
    (or_so (bit x k) (on && eqb k (v % 64)) (sym (w.each k) ∙ e))

-- ---- one row

module _ (t : List ℕ) (least rows n : ℕ) where
  -- a row that is not in the set changes nothing
  pub joined_none : bit rows n ≡ false → Joined t least rows n rows
  joined_none out = record { keeps = λ k e. e; leads = λ e. absurd (subst T (sym e ∙ out) tt); source = λ k e. inl e }

  -- the three fields, one after the other
  pub joined_fields : {x y z : ℕ} → bit rows n ≡ true
      → WithBit rows (value_at t n field_a) (follows t least (holds_at t n field_a) (value_at t n field_a)) x
      → WithBit x (value_at t n field_b) (follows t least (holds_at t n field_b) (value_at t n field_b)) y
      → WithBit y (value_at t n field_c) (follows t least (holds_at t n field_c) (value_at t n field_c)) z
      → Joined t least rows n z
  joined_fields {x} {y} {z} here a b c = record {
    keeps = λ k e. with_keeps c k (with_keeps b k (with_keeps a k e));
    leads = λ e f. led f;
    source = λ k e. ⊎_elim (λ h. ⊎_elim (λ i. ⊎_elim inl (λ s. inr (here, field_a, s.0, s.1)) (with_so a k i)) (λ s. inr (here, field_b, s.0, s.1)) (with_so b k h))
        (λ s. inr (here, field_c, s.0, s.1)) (with_so c k e);
  }
    where
      led : (f : Field) → Leads t least n f → bit z (value_at t n f % 64) ≡ true
      led field_a e = with_keeps c _ (with_keeps b _ (with_on a e))
      led field_b e = with_keeps c _ (with_on b e)
      led field_c e = with_on c e

  -- as the code reads them
  pub joined_is : {x y z : ℕ} (row : Row) (takes : Takes) (fields : Fields) → row ≡ row_at t n → takes ≡ takes_of row.kind → fields ≡ fields_by takes → bit rows n ≡ true
      → WithBit rows row.a (follows t least fields.a row.a) x
      → WithBit x row.b (follows t least fields.b row.b) y
      → WithBit y row.c (follows t least fields.c row.c) z
      → Joined t least rows n z
  unfolding fields_of
  joined_is row takes fields e p q here a b c = joined_fields here (moved field_a a) (moved field_b b) (moved field_c c)
    where
      read : fields ≡ fields_by (takes_of (kind_at t n))
      read = q ∙ ap fields_by (p ∙ ap (λ (r : Row). takes_of r.kind) e)

      moved : {x y : ℕ} (f : Field) → WithBit x (value_in row f) (follows t least (holds_in fields f) (value_in row f)) y
          → WithBit x (value_at t n f) (follows t least (holds_at t n f) (value_at t n f)) y
      moved {x} {y} f w = subst (λ (h : Fields). WithBit x (value_at t n f) (follows t least (holds_in h f) (value_at t n f)) y) read
          (subst (λ (r : Row). WithBit x (value_in r f) (follows t least (holds_in fields f) (value_in r f)) y) e w)

-- ---- the loop downwards

names_so : (h : Holds) → operand_test h ≡ true → IsOperand h
names_so Nothing e = absurd (subst T (sym e) tt)
names_so Signal e = absurd (subst T (sym e) tt)
names_so B e = tt
names_so Q e = tt
names_so F e = tt

pub so_names : (h : Holds) → IsOperand h → operand_test h ≡ true
so_names Nothing i = absurd i
so_names Signal i = absurd i
so_names B i = refl
so_names Q i = refl
so_names F i = refl

pub leads_operand : (t : List ℕ) (least n : ℕ) (f : Field) → Leads t least n f → IsOperand (holds_at t n f)
unfolding follows
leads_operand t least n f e = names_so (holds_at t n f) (and_so (operand_test (holds_at t n f)) (leb least (kind_at t (value_at t n f))) e).0

-- The rows from n on are done.
pub record Sofar (t : List ℕ) (least start nodes n rows : ℕ) : Type 0 where
  pub low : (k : ℕ) → bit rows k ≡ true → k < nodes
  pub starts : (k : ℕ) → bit start k ≡ true → bit rows k ≡ true
  pub closed : (m : ℕ) → n ≤ m → bit rows m ≡ true → (f : Field) → Leads t least m f → bit rows (value_at t m f) ≡ true
  pub source : (k : ℕ) → bit rows k ≡ true → (bit start k ≡ true) ⊎ Comes t least rows k

pub sofar_at : {t : List ℕ} {least start nodes m n rows : ℕ} → m ≡ n → Sofar t least start nodes m rows → Sofar t least start nodes n rows
sofar_at {t} {least} {start} {nodes} {m} {n} {rows} e s = subst (λ (k : ℕ). Sofar t least start nodes k rows) e s

module _ (t : List ℕ) (least start : ℕ) (c : Counts) (z : Subset t c) where
  abbrev Here : ℕ → ℕ → Type 0
  Here n rows = Sofar t least start c.nodes n rows

  pub spread_start : ((k : ℕ) → bit start k ≡ true → k < c.nodes) → Here 64 start
  spread_start low = record {
    low = low;
    starts = λ k e. e;
    closed = λ m l e. absurd (let h = low m e in omega (arith, z.layout.nodes_range));
    source = λ k e. inl e;
  }

  comes_more : {rows more : ℕ} → ((k : ℕ) → bit rows k ≡ true → bit more k ≡ true) → (k : ℕ) → Comes t least rows k → Comes t least more k
  comes_more keeps k w = record {
    from = w.from;
    within = w.within;
    larger = w.larger;
    reached = keeps w.from w.reached;
    field = w.field;
    leads = w.leads;
    value = w.value;
  }

  -- one row more: a field leads to a smaller row, so the rows from n on stay as they are
  module _ (n rows more : ℕ) (sofar : Here (n + 1) rows) (turn : Joined t least rows n more) where
    small : bit rows n ≡ true → (f : Field) → Leads t least n f → value_at t n f < n
    small e f l = z.smaller n (sofar.low n e) f (leads_operand t least n f l)

    same : bit rows n ≡ true → (f : Field) → Leads t least n f → value_at t n f % 64 ≡ value_at t n f
    same e f l = mod-eq_of_lt (let h = small e f l in let g = sofar.low n e in omega (arith, z.layout.nodes_range))

    new : (k : ℕ) → bit more k ≡ true → (bit rows k ≡ true) ⊎ ((bit rows n ≡ true) × (f : Field) × Leads t least n f × (k ≡ value_at t n f))
    new k e = ⊎_elim inl (λ s. inr (s.0, s.1, s.2, s.3 ∙ same s.0 s.1 s.2)) (turn.source k e)

    old : (m : ℕ) → n ≤ m → bit more m ≡ true → bit rows m ≡ true
    old m l e = ⊎_elim (λ h. h) (λ s. absurd (let h = small s.0 s.1 s.2 in omega (arith, s.3))) (new m e)

    closed_here : (m : ℕ) → n ≤ m → bit rows m ≡ true → (f : Field) → Leads t least m f → bit more (value_at t m f) ≡ true
    closed_here m l e f d = elim (dec_lt n m) [
      | yes g ↦ turn.keeps (value_at t m f) (sofar.closed m (omega arith) e f d)
      | no g ↦ (let q : m ≡ n = omega arith in
          let e' = subst (λ (j : ℕ). bit rows j ≡ true) q e in
          let d' = subst (λ (j : ℕ). Leads t least j f) q d in
          subst (λ (j : ℕ). bit more (value_at t j f) ≡ true) (sym q) (subst (λ (v : ℕ). bit more v ≡ true) (same e' f d') (turn.leads e' f d')))
    ]

    pub spread_turn : Here n more
    spread_turn = record {
      low = λ k e. ⊎_elim (sofar.low k) (λ s. let h = small s.0 s.1 s.2 in let g = sofar.low n s.0 in omega (arith, s.3)) (new k e);
      starts = λ k e. turn.keeps k (sofar.starts k e);
      closed = λ m l e f d. closed_here m l (old m l e) f d;
      source = λ k e. ⊎_elim (λ h. ⊎_elim inl (λ w. inr (comes_more turn.keeps k w)) (sofar.source k h))
          (λ s. inr (record {
            from = n;
            within = let g = sofar.low n s.0 in omega (arith, z.layout.nodes_range);
            larger = let h = small s.0 s.1 s.2 in omega (arith, s.3);
            reached = turn.keeps n s.0;
            field = s.1;
            leads = s.2;
            value = sym s.3;
          })) (new k e);
    }

  pub spread_end : {rows : ℕ} → Here 0 rows → Spread t least start rows
  spread_end s = record { starts = s.starts; closed = λ m e. s.closed m (omega arith) e; source = s.source }

-- What holds of the start, and passes on with each lead, holds of each row of the set.
pub least_spread : {t : List ℕ} {least start r : ℕ} (P : ℕ → Type 0) → Spread t least start r → ((k : ℕ) → bit start k ≡ true → P k)
    → ((n : ℕ) → bit r n ≡ true → P n → (f : Field) → Leads t least n f → P (value_at t n f)) → (k : ℕ) → bit r k ≡ true → P k
least_spread {t} {least} {start} {r} P s base step k e = go 64 k (omega arith) e
  where
    go : (fuel k : ℕ) → 64 ≤ k + fuel → bit r k ≡ true → P k
    go zero k l e = ⊎_elim (base k) (λ w. absurd (let h = w.larger in let g = w.within in omega arith)) (s.source k e)
    go (suc fuel) k l e = ⊎_elim (base k)
        (λ w. subst P w.value (step w.from w.reached (go fuel w.from (let h = w.larger in omega arith) w.reached) w.field w.leads))
        (s.source k e)

-- ---- the chosen rows, upwards

pub chosen_is : (t : List ℕ) (low high left n : ℕ) (row : Row) (kind : ℕ) → row ≡ row_at t n → kind ≡ kind_at t row.a
    → (leb low row.kind && leb row.kind high) && leb left kind ≡ is_chosen t low high left n
unfolding is_chosen
chosen_is t low high left n row kind e q =
    ap (λ (k : ℕ). (leb low row.kind && leb row.kind high) && leb left k) q
    ∙ ap (λ (r : Row). (leb low r.kind && leb r.kind high) && leb left (kind_at t r.a)) e

-- Of the rows that are not left.
pub record Chosen (rows : ℕ) (test : ℕ → Bool) (left r : ℕ) : Type 0 where
  pub within : (k : ℕ) → bit left k ≡ true → bit rows k ≡ true
  pub each : (k : ℕ) → bit r k ≡ (bit rows k && not (bit left k)) && test k

module _ (rows : ℕ) (test : ℕ → Bool) where
  pub chosen_start : Chosen rows test rows 0
  chosen_start = record { within = λ k e. e; each = λ k. bit_none k ∙ none (bit rows k) (test k) }
    where
      none : (b c : Bool) → false ≡ (b && not b) && c
      none true c = refl
      none false c = refl

  pub chosen_turn : {left n rest x r : ℕ} → Chosen rows test left x → Turn left n rest → WithBit x n (test n) r → Chosen rows test rest r
  chosen_turn {left} {n} {rest} {x} {r} s t w = record {
    within = λ k e. s.within k (rest_in t k e).0;
    each = λ k. elim (dec_lt k n) [
      | yes l ↦ other k (λ e. omega arith)
      | no l ↦ elim (dec_lt n k) [
        | yes g ↦ other k (λ e. omega arith)
        | no g ↦ (let e : k ≡ n = omega arith in subst (λ (k : ℕ). bit r k ≡ (bit rows k && not (bit rest k)) && test k) (sym e) here)
      ]
    ];
  }
    where
      gone : (b c : Bool) → c ≡ true → b && not c ≡ false
      gone true c e = ap not e
      gone false c e = refl

      stays : (b c : Bool) → c ≡ false → b && not c ≡ b
      stays true c e = ap not e
      stays false c e = refl

      hidden : (a b c : Bool) → b ≡ true → (a && not b) && c ≡ false
      hidden true b c e = rw e refl
      hidden false b c e = refl

      shown : (a b c : Bool) → a ≡ true → b ≡ false → (a && not b) && c ≡ c
      shown a b c e f = rw (e, f) refl

      here : bit r n ≡ (bit rows n && not (bit rest n)) && test n
      here = set_here t.small w (s.each n ∙ hidden (bit rows n) (bit left n) (test n) t.set) ∙ sym (shown (bit rows n) (bit rest n) (test n) (s.within n t.set) (t.each n ∙ gone (bit left n) (eqb n n) (eq-eqb n n refl)))

      other : (k : ℕ) → (k ≡ n → ⊥) → bit r k ≡ (bit rows k && not (bit rest k)) && test k
      other k e = set_other t.small w k e ∙ s.each k ∙ ap (λ (b : Bool). (bit rows k && not b) && test k) (sym (t.each k ∙ stays (bit left k) (eqb k n) (ne_eqb k n e)))

  pub chosen_end : {r : ℕ} → Chosen rows test 0 r → (k : ℕ) → bit r k ≡ bit rows k && test k
  chosen_end s k = s.each k ∙ ap (λ (b : Bool). (bit rows k && not b) && test k) (bit_none k) ∙ ap (λ (b : Bool). b && test k) (and-true (bit rows k))

-- ---- the rows of one set that are not in another

pub but_is : (rows others : ℕ) → rows < 2 ^ 64 → others < 2 ^ 64 → (k : ℕ) → bit (bit_and rows ((2 ^ 64 - 1) - others)) k ≡ bit rows k && not (bit others k)
but_is rows others fits small k =
    bit_and_lem rows ((2 ^ 64 - 1) - others) k ∙ ap (λ (b : Bool). bit rows k && b) (bit_not 64 others k small)
    ∙ drops (bit rows k) (ltb k 64) (not (bit others k)) (λ e. lt-ltb k 64 (set_below 64 rows k fits e))
  where
    drops : (b c d : Bool) → (b ≡ true → c ≡ true) → b && (c && d) ≡ b && d
    drops true c d h = rw (h refl)
    drops false c d h = refl
