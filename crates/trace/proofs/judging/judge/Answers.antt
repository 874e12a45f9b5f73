use Rattle.std.proofs.lemmas.Result.{err_from_is_err_and}
use Rattle.trace.proofs.Feeds.{not_in, trace_refused, trace_judged}
use Rattle.trace.proofs.judging.judge.Goals as goal

pub returns-in_err-counts : goal.returns-in_err-counts
returns-in_err-counts c =
    let p = err_from_is_err_and c.from_residual.result c.from_residual.ensures.1 in
    rw (p.1, p.2) (not_in _ _ _ _ _ c.open-answer.ensures _ c.in_err-counts.was)

pub returns-in_err-check_trace : goal.returns-in_err-check_trace
returns-in_err-check_trace c =
    let p = err_from_is_err_and c.from_residual-in_err-check_trace.result c.from_residual-in_err-check_trace.ensures.1 in
    rw (p.1, p.2) (trace_refused _ _ _ _ _ c.open-answer.ensures _ c.in_ok-counts.was _ c.check_trace.ensures _ c.in_err-check_trace.was)

pub returns : goal.returns
returns c = trace_judged _ _ _ _ _ c.open-answer.ensures _ c.in_ok-counts.was _ c.check_trace.ensures _ _ c.in_ok-check_trace.was c.last.ensures
