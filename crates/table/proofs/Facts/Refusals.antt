-- What a refusal of a table holds: a number from 1 to 11, and a place below 64.
use Prim.Native.Nat.{ℕ, zero, suc, ◌+◌, ◌≤◌, ◌<◌}
use Rattle.std.proofs.Common.{arith}
use borrow.Author.Tests.{eqb-false}
use Rattle.std.specs.Prelude.{Bool, true, false, List, ◌≡◌, eqb, Result, Ok, Err, ⊤}
use Rattle.std.proofs.Math.Path.{refl, subst}
use Rattle.little.specs.Bytes.{u16_at}
use Rattle.table.specs.Choice.{pick}
use Rattle.table.specs.Header.{counts_of, laid_out, header_of}
use Rattle.table.specs.Kinds.{class_of, kind_rule}
use Rattle.table.specs.Rows.{row_at, row_rule}
use Rattle.table.specs.Roots.{root_rule}
use Rattle.table.specs.Uses.{use_rule}
use Rattle.table.specs.Cells.{cell_rule}
use Rattle.table.specs.First.{first_from, first_refusal}
use Rattle.table.specs.Check.{or_else, uses_onward, roots_onward, rows_onward, answer, after_header, check_of}
use Rattle.table.proofs.Laws.Headers.{header_so}
use Rattle.table.specs.Subset.{Layout}
use Rattle.table.specs.declared.Counts.{Counts}
use Rattle.table.specs.declared.Refusal.{Refusal}
use Rattle.table.specs.declared.kinds.Class.{Class}
use Rattle.table.specs.declared.kinds.Class.TheVariants.{Boolean, Sequence, Property, Strong, Unknown}

pub record OfTable (r : Refusal) : Type 0 where
  pub number_from : 1 ≤ r.number
  pub number_to : r.number ≤ 11
  pub place_below : r.place < 64

-- P holds of the refusal that a run gives, if it gives one
abbrev FoundSo : (Refusal → Type 0) → Result ⊤ Refusal → Type 0
FoundSo P (Ok tt) = Unit
FoundSo P (Err r) = P r

abbrev AnswerSo : Result Counts Refusal → Type 0
AnswerSo (Ok c) = Unit
AnswerSo (Err r) = OfTable r

-- what holds of each that may be chosen holds of the one that is
chosen : {A : Type 0} (P : A → Type 0) (b : Bool) (x y : A) → (b ≡ true → P x) → (b ≡ false → P y) → P (pick b x y)
unfolding pick
chosen P true x y p q = p refl
chosen P false x y p q = q refl

either : {A : Type 0} (P : A → Type 0) (b : Bool) (x y : A) → P x → P y → P (pick b x y)
either P b x y p q = chosen P b x y (λ e. p) (λ e. q)

-- the refusal of a rule tried at n places: its place is below n, and its number is what the rule gives there
module _ (P : Refusal → Type 0) (rule : ℕ → ℕ) (n : ℕ) (each : (i : ℕ) → i < n → 1 ≤ rule i → P (record { number = rule i; place = i })) where
  from_so : (k i : ℕ) → i + k ≤ n → FoundSo P (first_from rule k i)
  unfolding first_from
  from_so zero i l = tt
  from_so (suc k) i l =
      chosen (FoundSo P) (eqb (rule i) 0) _ _ (λ e. from_so k (suc i) (omega arith)) (λ e. each i (omega arith) (omega (arith, eqb-false (rule i) 0 e)))

  first_so : FoundSo P (first_refusal rule n)
  unfolding first_refusal
  first_so = from_so n 0 (omega arith)

-- the numbers that the rules give, 0 where nothing is wrong
abbrev Number : ℕ → Type 0
Number k = k ≤ 11

kind_number : (k : Class) → Number (kind_rule k)
kind_number Boolean = omega arith
kind_number Sequence = omega arith
kind_number Property = omega arith
kind_number Strong = omega arith
kind_number Unknown = omega arith

run_so : (rule : ℕ → ℕ) (n : ℕ) → ((i : ℕ) → Number (rule i)) → n ≤ 64 → FoundSo OfTable (first_refusal rule n)
run_so rule n number l = first_so OfTable rule n (λ i m p. record { number_from = p; number_to = number i; place_below = omega arith })

-- and one run after another
then_so : (rule : ℕ → ℕ) (n : ℕ) (y : Result ⊤ Refusal) → ((i : ℕ) → Number (rule i)) → n ≤ 64 → FoundSo OfTable y → FoundSo OfTable (or_else (first_refusal rule n) y)
then_so rule n y number l q = go (first_refusal rule n) (run_so rule n number l)
  where
    go : (x : Result ⊤ Refusal) → FoundSo OfTable x → FoundSo OfTable (or_else x y)
    go (Ok tt) p = q
    go (Err r) p = p

answer_so : (c : Counts) (x : Result ⊤ Refusal) → FoundSo OfTable x → AnswerSo (answer c x)
answer_so c (Ok tt) p = tt
answer_so c (Err r) p = p

-- the header: each number at place 0
start : (k : ℕ) → 1 ≤ k → Number k → OfTable (record { number = k; place = 0 })
start k p q = record { number_from = p; number_to = q; place_below = omega arith }

counts_so : (s n p : ℕ) → AnswerSo (counts_of s n p)
unfolding counts_of
counts_so s n p = either AnswerSo _ _ _ (either AnswerSo _ _ _ (either AnswerSo _ _ _ tt three) three) three
  where
    three : OfTable (record { number = 3; place = 0 })
    three = start 3 (omega arith) (omega arith)

module _ (t : List ℕ) where
  laid_so : (h : Result Counts Refusal) → AnswerSo h → AnswerSo (laid_out t h)
  laid_so (Ok c) p = either AnswerSo _ _ _ tt (start 4 (omega arith) (omega arith))
  laid_so (Err r) p = p

  head_so : AnswerSo (header_of t)
  unfolding header_of
  head_so =
      either AnswerSo _ _ _ (start 1 (omega arith) (omega arith))
      (either AnswerSo _ _ _ (laid_so (counts_of (u16_at t 2) (u16_at t 4) (u16_at t 6)) (counts_so _ _ _)) (start 2 (omega arith) (omega arith)))

  -- the rows, the roots, the uses, the cells
  row_number : (s n : ℕ) → Number (row_rule t s n)
  unfolding row_rule
  row_number s n =
      either Number _ _ _ (either Number _ _ _ (either Number _ _ _ (omega arith) (omega arith)) (omega arith)) (kind_number (class_of (row_at t n).kind))

  root_number : (n p : ℕ) → Number (root_rule t n p)
  unfolding root_rule
  root_number n p = either Number _ _ _ (either Number _ _ _ (omega arith) (omega arith)) (omega arith)

  use_number : (n p node : ℕ) → Number (use_rule t n p node)
  unfolding use_rule
  use_number n p node = either Number _ _ _ (omega arith) (either Number _ _ _ (omega arith) (omega arith))

  cell_number : (n : ℕ) → Number (cell_rule t n)
  unfolding cell_rule
  cell_number n = either Number _ _ _ (either Number _ _ _ (omega arith) (omega arith)) (omega arith)

  onward_so : (c : Counts) → Layout t c → FoundSo OfTable (rows_onward t c)
  unfolding rows_onward roots_onward uses_onward
  onward_so c l =
      then_so _ _ (roots_onward t c) (row_number c.signals) nodes
      (then_so _ c.properties (uses_onward t c) (root_number c.nodes) (omega (arith, l.properties_range))
      (then_so _ _ (first_refusal (cell_rule t) c.nodes) (use_number c.nodes c.properties) nodes
      (run_so _ _ cell_number nodes)))
    where
      nodes : c.nodes ≤ 64
      nodes = l.nodes_range.1

  after_so : (h : Result Counts Refusal) → header_of t ≡ h → AnswerSo h → AnswerSo (after_header t h)
  after_so (Ok c) e p = answer_so c (rows_onward t c) (onward_so c (header_so t c e))
  after_so (Err r) e p = p

  pub refusal_of_table : (r : Refusal) → check_of t ≡ Err r → OfTable r
  unfolding check_of
  refusal_of_table r e = subst AnswerSo e (after_so (header_of t) refl head_so)
