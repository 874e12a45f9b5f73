-- The property rows of a property: which begin on a sample, which stay held, whether a never breaks.
use Rattle.std.specs.Prelude.{ℕ, suc, ◌≤◌, ◌<◌, ◌≡◌, Bool, true, false, ◌&&◌, ◌||◌, List}
use Rattle.psl.specs.Booleans.{Boolean, bit, holds}
use Rattle.psl.specs.Sequences.{Sequence}
use Rattle.psl.proofs.Marks.Automaton.{nullable}
use Rattle.psl.specs.Tells.{Tells}
use Rattle.psl.proofs.Model.Nodes.{Node, n_bool, n_weak, n_never, n_both, n_next, n_always, n_if_else, n_implies, n_or, n_until, n_suffix, n_suffix_next}
use Rattle.psl.proofs.Model.Step.{keeps}
use Rattle.psl.proofs.Model.Pass.{pass}
use Rattle.psl.proofs.Model.Monitor.{use_of}
use Rattle.lanes.specs.State.{entered}
use Rattle.engine.specs.Reads.{kind_of, a_of, b_of, c_of, Held}
use Rattle.engine.specs.declared.properties.Letter.{Letter}

-- A node that neither sends nor keeps anything.
pub data Inert : Node → Type 0 where
  inert_boolean : {b : Boolean} → Inert (n_bool b)
  inert_weak : {r : Sequence} → Inert (n_weak r)

-- A node that can stay held.
pub data Keeping : Node → Type 0 where
  keeping_next : {a : ℕ} → Keeping (n_next a)
  keeping_always : {a : ℕ} → Keeping (n_always a)
  keeping_until : {a : ℕ} {b : Boolean} → Keeping (n_until a b)
  keeping_suffix_next : {r : Sequence} {a : ℕ} → Keeping (n_suffix_next r a)
  keeping_never : {r : Sequence} → Keeping (n_never r)

-- An operand that is a property: smaller, and reached.
pub record Operand (reached : ℕ → Bool) (n v : ℕ) : Type 0 where
  pub smaller : v < n
  pub is_reached : reached v ≡ true

-- A Boolean operand whose truth on the sample x is known.
pub record Condition (truth x v : ℕ) (b : Boolean) : Type 0 where
  pub low : v < 64
  pub is : bit truth v ≡ holds b x

-- Row n reads as the node.
pub data PropertyRow (t : List ℕ) (l : Letter) (x : ℕ) (reached : ℕ → Bool) (n : ℕ) : Node → Type 0 where
  reads_both : kind_of t n ≡ 33 → Operand reached n (a_of t n) → Operand reached n (b_of t n) → PropertyRow t l x reached n (n_both (a_of t n) (b_of t n))
  reads_next : kind_of t n ≡ 34 → Operand reached n (a_of t n) → PropertyRow t l x reached n (n_next (a_of t n))
  reads_if : {b : Boolean} → kind_of t n ≡ 35 → Condition l.truth x (a_of t n) b → Operand reached n (b_of t n) → Operand reached n (c_of t n)
      → PropertyRow t l x reached n (n_if_else b (b_of t n) (c_of t n))
  reads_implies : {b : Boolean} → kind_of t n ≡ 36 → Condition l.truth x (a_of t n) b → Operand reached n (b_of t n) → PropertyRow t l x reached n (n_implies b (b_of t n))
  reads_or : {b : Boolean} → kind_of t n ≡ 37 → Operand reached n (a_of t n) → Condition l.truth x (b_of t n) b → PropertyRow t l x reached n (n_or (a_of t n) b)
  reads_always : kind_of t n ≡ 38 → Operand reached n (a_of t n) → PropertyRow t l x reached n (n_always (a_of t n))
  reads_until : {b : Boolean} → kind_of t n ≡ 39 → Operand reached n (a_of t n) → Condition l.truth x (b_of t n) b → PropertyRow t l x reached n (n_until (a_of t n) b)
  reads_suffix : {r : Sequence} → kind_of t n ≡ 40 → a_of t n < 64 → Operand reached n (b_of t n) → PropertyRow t l x reached n (n_suffix r (b_of t n))
  reads_suffix_next : {r : Sequence} → kind_of t n ≡ 41 → a_of t n < 64 → bit l.hits.empty n ≡ nullable r → Operand reached n (b_of t n) → PropertyRow t l x reached n (n_suffix_next r (b_of t n))
  reads_never : {r : Sequence} → kind_of t n ≡ 42 → a_of t n < 64 → PropertyRow t l x reached n (n_never r)

-- What the pass is told: the rows held before, the truth of the Booleans, and which left sides end, under way (ends) or at once (early), or can be empty.
pub record PropertyRows (t : List ℕ) (leaves first : ℕ) (l : Letter) (x root : ℕ) (node : ℕ → Node) (reached : ℕ → Bool) (hit : ℕ → Bool → Bool) : Type 0 where
  pub root_low : root < 64
  pub up_to_root : (n : ℕ) → reached n ≡ true → n ≤ root
  pub first_in : (n : ℕ) → bit first n ≡ true → reached n ≡ true
  pub was_in : (n : ℕ) → bit l.was n ≡ true → reached n ≡ true
  pub was_kept : (n : ℕ) → bit l.was n ≡ true → Keeping (node n)
  pub ends_in : (n : ℕ) → bit l.hits.ends n ≡ true → reached n ≡ true
  pub ends_over : (n : ℕ) → bit l.hits.ends n ≡ true → 40 ≤ kind_of t n
  pub leaf : (n : ℕ) → bit leaves n ≡ true → Inert (node n)
  pub beyond : (n : ℕ) → reached n ≡ false → Inert (node n)
  pub row : (n : ℕ) → reached n ≡ true → bit leaves n ≡ false → PropertyRow t l x reached n (node n)
  pub hits : (n : ℕ) → reached n ≡ true → bit leaves n ≡ false → 40 ≤ kind_of t n → (now : Bool)
      → hit n now ≡ bit l.hits.ends n || ((bit l.hits.early n || bit l.truth (a_of t n)) && entered (use_of (node n)) now (bit l.was n))

-- The bytes hold each row that is visited first.
abbrev pub Visits : List ℕ → ℕ → ℕ → ℕ → ℕ → Type 0
Visits t leaves first was ends = (n : ℕ) → (bit first n || bit was n) || bit ends n ≡ true → bit leaves n ≡ false → Held t n

-- A never whose sequence matches now.
abbrev pub NeverHit : (ℕ → Node) → (ℕ → Bool → Bool) → (ℕ → Bool) → Type 0
NeverHit node hit begins = (n : ℕ) × (r : Sequence) × (node n ≡ n_never r) × (hit n (begins n) ≡ true)

-- What it leaves: begin, held, broken.
pub record Passed (first was x root : ℕ) (node : ℕ → Node) (hit : ℕ → Bool → Bool) (begin held : ℕ) (broken : Bool) : Type 0 where
  pub begin_is : (m : ℕ) → bit begin m ≡ pass node (bit was) hit x (suc root) (bit first) m
  pub held_is : (n : ℕ) → bit held n ≡ keeps (node n) (bit begin n) (bit was n) (hit n (bit begin n)) x
  pub broken_is : Tells (NeverHit node hit (bit begin)) broken
