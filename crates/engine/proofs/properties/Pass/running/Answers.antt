use Rattle.std.proofs.Common.{ap, ap₂, ◌||◌, ◌∙◌}
use Rattle.engine.specs.PropertyVisits.{stage_of, kept_at, matched_at, running_at}
use Rattle.engine.proofs.properties.Pass.running.Goals as goal

pub returns : goal.returns
unfolding stage_of running_at kept_at
returns c =
    let on = ap₂ ◌||◌ c.bit.ensures c.bit-2.ensures in
    let kept = c.kept.ensures ∙ ap (kept_at (stage_of c.args.self) c.args.row.n) on in
    let broken = c.matched.ensures ∙ ap (matched_at c.args.row.table.now c.args.row.n c.args.l) on in
    λ i. record { begin = (kept i).begin; held = (kept i).held; broken = c.args.self.broken || broken i }
