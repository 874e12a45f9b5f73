-- Document 01's example table: it is accepted, so some table is, and what its properties read as.
use Rattle.std.specs.Prelude.{ℕ, List, [], ◌∷◌, ◌≡◌, refl, Ok}
use Rattle.psl.specs.Booleans.{signal}
use Rattle.psl.specs.Properties.{boolean, next, always, until}
use Rattle.table.specs.Choice.{pick}
use Rattle.table.specs.Header.{counts_of, layout_fits, header_of}
use Rattle.table.specs.Kinds.{class_of, takes_of, fields_of}
use Rattle.table.specs.Rows.{edge_row, row_at, fields_ok, operand_ok, operands_ok, row_rule}
use Rattle.table.specs.Roots.{root_at, root_rule}
use Rattle.table.specs.Uses.{uses_in_row, root_use, uses_of, use_rule}
use Rattle.table.specs.Cells.{cell_rule}
use Rattle.table.specs.First.{first_from, first_refusal, sum_to}
use Rattle.table.specs.Trees.{read_by, read_at, boolean_by, boolean_row, boolean_at, property_by, property_row, property_at, property_of}
use Rattle.table.specs.Check.{uses_onward, roots_onward, rows_onward, check_of}

abbrev pub example : List ℕ
example =
    -- version 1; 3 signals; 5 nodes; 3 properties
    1 ∷ 0 ∷ 3 ∷ 0 ∷ 5 ∷ 0 ∷ 3 ∷ 0
    -- node rows from byte 16, property rows from byte 36, 42 bytes
    ∷ 16 ∷ 0 ∷ 36 ∷ 0 ∷ 42 ∷ 0 ∷ 0 ∷ 0
    -- node 0: signal 0
    ∷ 3 ∷ 0 ∷ 0 ∷ 0
    -- node 1: signal 1
    ∷ 3 ∷ 1 ∷ 0 ∷ 0
    -- node 2: node 0 until node 1
    ∷ 39 ∷ 0 ∷ 1 ∷ 0
    -- node 3: always node 0
    ∷ 38 ∷ 0 ∷ 0 ∷ 0
    -- node 4: next node 1
    ∷ 34 ∷ 1 ∷ 0 ∷ 0
    -- roots: nodes 2, 3, 4
    ∷ 2 ∷ 0 ∷ 3 ∷ 0 ∷ 4 ∷ 0 ∷ []

pub example_accepted : check_of example ≡ Ok (record { signals = 3; nodes = 5; properties = 3 })
unfolding
    pick counts_of layout_fits header_of class_of takes_of fields_of edge_row row_at fields_ok operand_ok operands_ok row_rule root_at root_rule
    uses_in_row root_use uses_of use_rule cell_rule first_from first_refusal sum_to uses_onward roots_onward rows_onward check_of
example_accepted = refl

pub example_properties : (property_of example 5 0 ≡ until (boolean (signal 0)) (signal 1))
    × (property_of example 5 1 ≡ always (boolean (signal 0)))
    × (property_of example 5 2 ≡ next (boolean (signal 1)))
unfolding pick edge_row row_at root_at read_by read_at boolean_by boolean_row boolean_at property_by property_row property_at property_of
example_properties = (refl, refl, refl)
