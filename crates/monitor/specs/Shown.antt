-- The words that a verdict is shown as: "broken N", "settled N", "pending N".
use Rattle.std.specs.Prelude.{ℕ, List, ◌++◌, codes, decimal}
use Rattle.monitor.specs.declared.verdict.Verdict.{Verdict}
use Rattle.monitor.specs.declared.verdict.Verdict.TheVariants.{Broken, Settled, Pending}

abbrev pub verdict_text : Verdict → List ℕ
verdict_text (Broken n) = codes "broken " ++ decimal n
verdict_text (Settled n) = codes "settled " ++ decimal n
verdict_text (Pending n) = codes "pending " ++ decimal n
