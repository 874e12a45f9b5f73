-- The starred small runs: each verdict is right by the definitions.
use Rattle.std.specs.Prelude.{Bool, true, ◌&&◌, List, [], ◌∷◌, T}
use Rattle.psl.specs.Tells.{any}
use Rattle.psl.specs.StarredRuns.{Run, starred, AllRight}
use Rattle.psl.proofs.Decide.Verdicts.{right_test, right_of}
use Rattle.psl.proofs.Marks.Words.{and_l, and_r}

abbrev all_right_test : List Run → Bool
all_right_test [] = true
all_right_test (r ∷ rs) = right_test r.property r.trace r.verdict && all_right_test rs

all_right : (rs : List Run) → T (all_right_test rs) → AllRight rs
all_right [] t = tt
all_right (r ∷ rs) t = (
  right_of r.property r.trace r.verdict (and_l (right_test r.property r.trace r.verdict) (all_right_test rs) t),
  all_right rs (and_r (right_test r.property r.trace r.verdict) (all_right_test rs) t),
)

pub starred_right : AllRight starred
unfolding any
starred_right = all_right starred tt
