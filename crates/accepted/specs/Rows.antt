-- The rows of a table as the sequences see them.
use Rattle.std.specs.Prelude.{ℕ, List, eqb, ltb}
use Rattle.psl.specs.Booleans.{Boolean}
use Rattle.lanes.specs.Rows.{Row, r_bool, r_then, r_fuse, r_alt, r_star, r_plus, r_weak, r_left, r_rest}
use Rattle.table.specs.Choice.{pick, within}
use Rattle.table.specs.Rows.{row_at}
use Rattle.table.specs.Trees.{boolean_at}

-- the shape of a kind
pub data Shape : Type 0 where
  h_bool h_then h_fuse h_alt h_star h_plus h_weak h_left h_rest : Shape

unfoldable pub shape_of : ℕ → Shape
shape_of k =
    pick (within 1 6 k) h_bool
    (pick (eqb k 16) h_then
    (pick (eqb k 17) h_fuse
    (pick (eqb k 18) h_alt
    (pick (eqb k 19) h_star
    (pick (eqb k 20) h_plus
    (pick (eqb k 32) h_weak
    (pick (within 40 42 k) h_left
    h_rest)))))))

abbrev pub made : Shape → ℕ → ℕ → Boolean → Row
made h_bool a b x = r_bool x
made h_then a b x = r_then a b
made h_fuse a b x = r_fuse a b
made h_alt a b x = r_alt a b
made h_star a b x = r_star a
made h_plus a b x = r_plus a
made h_weak a b x = r_weak a
made h_left a b x = r_left a
made h_rest a b x = r_rest

-- The rows of a table with n nodes.
unfoldable pub row_of : List ℕ → ℕ → ℕ → Row
row_of t nodes n = pick (ltb n nodes) (made (shape_of (row_at t n).kind) (row_at t n).a (row_at t n).b (boolean_at t n)) r_rest
