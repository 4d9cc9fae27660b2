use Rattle.std.proofs.Common.{sym, subst}
use Rattle.fault_slips.specs.LineMarks.Spans.{StandsUnderAToken}
use Rattle.fault_slips.proofs.LineMarks.Spans.{under_a_token}
use Rattle.fault_slips.proofs.line_marks.span.token_span.Goals as goal

pub returns-clause-token : goal.returns-clause-token
returns-clause-token c =
    subst (StandsUnderAToken c.args.line.now) (sym c.found_span.ensures.value)
    (under_a_token c.args.index c.args.line.now c.found_span.ensures.begun)
