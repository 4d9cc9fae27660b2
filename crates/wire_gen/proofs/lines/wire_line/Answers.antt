use Rattle.std.proofs.lemmas.Result.{on_ok_weaker}
use Rattle.wire_gen.proofs.WholeLines.{line-wired}
use Rattle.wire_gen.proofs.lines.wire_line.Goals as goal

pub returns : goal.returns
returns c =
    on_ok_weaker c.wire_statement.result
    (line-wired c.args.chart.now.lines c.args.plan.now c.args.line.now.number c.args.line.now.statement _ _ c.requires)
    c.wire_statement.ensures
