-- What a visit of a property row does to the pass, bit by bit, by the kind of the row. The numbers of rows count modulo 64, as in a word.
use Rattle.std.specs.Prelude.{ℕ, ◌%◌, ◌<◌, ◌≡◌, Bool, true, false, not, ◌&&◌, ◌||◌, List, eqb, ltb, leb}
use Rattle.psl.specs.Booleans.{bit}
use Rattle.table.specs.Choice.{pick}
use Rattle.engine.specs.Reads.{kind_of, a_of, b_of, c_of, Held, Within}
use Rattle.engine.specs.declared.properties.Letter.{Letter}
use Rattle.engine.specs.declared.properties.Pass.{Pass}

-- A pass: the rows that begin, the rows that stay held, whether a never breaks.
pub record Stage : Type 0 where
  pub begin : ℕ → Bool
  pub held : ℕ → Bool
  pub broken : Bool

unfoldable pub stage_of : Pass → Stage
stage_of p = record { begin = bit p.begin; held = bit p.held; broken = p.broken }

-- Row v begins, row n is held, where on.
unfoldable pub begun_at : Stage → ℕ → Bool → Stage
begun_at s v on = record { begin = λ k. s.begin k || (on && eqb k (v % 64)); held = s.held; broken = s.broken }

unfoldable pub kept_at : Stage → ℕ → Bool → Stage
kept_at s n on = record { begin = s.begin; held = λ k. s.held k || (on && eqb k (n % 64)); broken = s.broken }

-- both, if
unfoldable pub branch_at : List ℕ → ℕ → ℕ → ℕ → Stage → Stage
branch_at t n kind truth s =
    pick (eqb kind 33) (begun_at (begun_at s (a_of t n) true) (b_of t n) true)
    (pick (bit truth (a_of t n % 64)) (begun_at s (b_of t n) true) (begun_at s (c_of t n) true))

-- ->, or
unfoldable pub guard_at : List ℕ → ℕ → ℕ → ℕ → Stage → Stage
guard_at t n kind truth s =
    pick (eqb kind 36) (begun_at s (b_of t n) (bit truth (a_of t n % 64))) (begun_at s (a_of t n) (not (bit truth (b_of t n % 64))))

-- next
unfoldable pub later_at : List ℕ → ℕ → ℕ → Stage → Stage
later_at t n was s = kept_at (begun_at s (a_of t n) (bit was (n % 64))) n (s.begin (n % 64))

-- always, until
unfoldable pub lasts_at : List ℕ → ℕ → ℕ → ℕ → Bool
lasts_at t n kind truth = pick (eqb kind 38) true (not (bit truth (b_of t n % 64)))

unfoldable pub lasting_at : List ℕ → ℕ → ℕ → ℕ → Stage → Stage
lasting_at t n kind truth s = kept_at (begun_at s (a_of t n) (lasts_at t n kind truth)) n (lasts_at t n kind truth)

unfoldable pub plain_at : List ℕ → ℕ → ℕ → Letter → Stage → Stage
plain_at t n kind l s =
    pick (eqb kind 34) (later_at t n l.was s)
    (pick (leb 38 kind) (lasting_at t n kind l.truth s) (pick (leb 36 kind) (guard_at t n kind l.truth s) (branch_at t n kind l.truth s)))

-- Whether the left side of row n, or the Boolean standing as one, can end at once; whether a match of it ends, entered where `on`.
unfoldable pub early_at : List ℕ → ℕ → Letter → Bool
early_at t n l = bit l.hits.early (n % 64) || bit l.truth (a_of t n % 64)

unfoldable pub matched_at : List ℕ → ℕ → Letter → Bool → Bool
matched_at t n l on = bit l.hits.ends (n % 64) || (early_at t n l && on)

-- never
unfoldable pub running_at : List ℕ → ℕ → Letter → Stage → Stage
running_at t n l s = record {
  begin = s.begin;
  held = λ k. s.held k || ((s.begin (n % 64) || bit l.was (n % 64)) && eqb k (n % 64));
  broken = s.broken || matched_at t n l (s.begin (n % 64) || bit l.was (n % 64));
}

-- |=>: its left side ended on the last letter, or can be empty and the row begins.
unfoldable pub owes_at : ℕ → Letter → Stage → Bool
owes_at n l s = bit l.was (n % 64) || (s.begin (n % 64) && bit l.hits.empty (n % 64))

-- |->, |=>, never
unfoldable pub left_at : List ℕ → ℕ → ℕ → Letter → Stage → Stage
left_at t n kind l s =
    pick (eqb kind 42) (running_at t n l s)
    (pick (eqb kind 40) (begun_at s (b_of t n) (matched_at t n l (s.begin (n % 64))))
    (kept_at (begun_at s (b_of t n) (owes_at n l s)) n (matched_at t n l (s.begin (n % 64)))))

unfoldable pub visit_at : List ℕ → ℕ → Letter → Stage → Stage
visit_at t n l s = pick (ltb (kind_of t n) 40) (plain_at t n (kind_of t n) l s) (left_at t n (kind_of t n) l s)

-- Whether there is something to do at a row: an attempt begins, it was held, or its left side ends.
abbrev pub called : ℕ → ℕ → ℕ → ℕ → Bool
called begin was ends k = (bit begin k || bit was k) || bit ends k

-- Whether a row is visited.
abbrev pub visited : ℕ → ℕ → ℕ → ℕ → ℕ → Bool
visited begin was ends leaves k = called begin was ends k && not (bit leaves k)

-- The word has the rows that can be visited: those that the bytes hold, but for the leaves.
pub record Visitable (t : List ℕ) (leaves word : ℕ) : Type 0 where
  pub in_bytes : Within t word
  pub no_leaf : (k : ℕ) → bit word k ≡ true → bit leaves k ≡ false
  pub all : (k : ℕ) → k < 64 → Held t k → bit leaves k ≡ false → bit word k ≡ true
