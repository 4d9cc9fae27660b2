use Rattle.std.proofs.lemmas.Result.{err_from_is_err_and}
use Rattle.wiring_text.proofs.WiringReader.LineGrammar.{content_sayable}
use Rattle.wiring_text.proofs.WiringReader.LineSteps.{fault_more, reads_more, reads_all, reads_no_end}
use Rattle.wiring_text.proofs.wiring_reader.read.read_lines.Goals as goal

pub take_line-requires : goal.take_line-requires
take_line-requires c = content_sayable _ _ c.in_ok-content.content c.in_ok-content.ensures

pub returns-in_err-take_line : goal.returns-in_err-take_line
returns-in_err-take_line c =
    let p = err_from_is_err_and c.from_residual-in_err-take_line.result c.from_residual-in_err-take_line.ensures.1 in
    rw (p.1, p.2)
    (fault_more _ _ _ _ _ _ _ _ _ _ _ c.in-Some.ensures.first c.in_ok-content.ensures c.in_err-take_line.ensures.refused
    c.loop-line.invariant)

pub loop-line-preserved : goal.loop-line-preserved
loop-line-preserved c =
    reads_more _ _ _ _ _ _ _ _ _ _ _ _ c.in-Some.ensures.first c.in_ok-content.ensures c.in_ok-take_line.ensures.taken
    c.loop-line.invariant

pub returns-then-ended : goal.returns-then-ended
returns-then-ended c = reads_all _ _ _ _ _ _ _ c.in_default.ensures.none c.if-ended.true c.loop-line.invariant

pub returns-else-ended : goal.returns-else-ended
returns-else-ended c = reads_no_end _ _ _ _ _ _ _ c.in_default.ensures.none c.if-ended.false c.loop-line.invariant
