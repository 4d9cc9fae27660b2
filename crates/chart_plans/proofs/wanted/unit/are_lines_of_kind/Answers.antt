use Rattle.std.proofs.Common.{◌≡◌, sym, ◌∙◌}
use Rattle.chart_plans.specs.WantedWords.Units.{is_of_kind, lines_of_kind}
use Rattle.chart_plans.proofs.WantedWords.Reading.{IsTrue-ended, IsTrue-differs, IsReadTo-end_filter, IsReadTo-fails_filter}
use Rattle.chart_plans.proofs.wanted.unit.are_lines_of_kind.Goals as goal

pub returns-in-None : goal.returns-in-None
returns-in-None c =
    IsTrue-differs (c.args.list.now ≡ lines_of_kind c.args.chart.now.lines c.args.kind)
    (rw c.lines-lines.ensures.value at
    (IsReadTo-fails_filter (λ line. is_of_kind c.args.chart.now.lines c.args.kind line.statement) (λ line. line.number) c.lines-lines.result.now c.args.list.now c.loop-line.rest.now
    c.loop-line.line-index c.line-item.result c.loop-line-test.true c.line-item.is c.loop-line.invariant (sym c.is_of_kind.ensures ∙ c.if-is_of_kind.true) c.in-None.ensures))

pub returns : goal.returns
returns c =
    IsTrue-ended c.loop-line.rest.now (c.args.list.now ≡ lines_of_kind c.args.chart.now.lines c.args.kind) c.is_empty.result c.is_empty.ensures
    (rw c.lines-lines.ensures.value at
    (IsReadTo-end_filter (λ line. is_of_kind c.args.chart.now.lines c.args.kind line.statement) (λ line. line.number) c.lines-lines.result.now c.args.list.now c.loop-line.rest.now
    c.loop-line.line-index c.loop-line-test.false c.loop-line.invariant))
