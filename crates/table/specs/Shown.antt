-- The line that a refusal is shown as: "refused NUMBER PLACE".
use Rattle.std.specs.Prelude.{ℕ, List, ◌++◌, codes, decimal}
use Rattle.table.specs.declared.Refusal.{Refusal}

abbrev pub refusal_text : Refusal → List ℕ
refusal_text r = codes "refused " ++ decimal r.number ++ codes " " ++ decimal r.place
