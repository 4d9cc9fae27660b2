use Rattle.std.proofs.Common.{append-nil, Contains, List, ap, filter_map, subst, sym, ◌++◌, ◌∙◌}
use Rattle.std.proofs.lemmas.List.{drop_all}
use Rattle.chart_lines.specs.declared.charts.chart.Line.{Line}
use Rattle.match_plans.specs.Wired.{served_by, served_on}
use Rattle.match_plans.proofs.Found.{found-alike, served-there}
use Rattle.match_plans.proofs.Steps.{no-more, none-of, one-more, value-of}
use Rattle.match_plans.proofs.Whole.{all-counters}
use Rattle.match_plans.proofs.plan.shown_counters.Goals as goal
use Rattle.match_plans.proofs.plan.shown_counters.Goals.{then-is_some+in-Some+in_ok-push-in-Some, else-is_some}

pub loop-line-init : goal.loop-line-init
loop-line-init c = λ other its shows.
    let lines = c.args.chart.now.lines in
    ap (λ items. items ++ filter_map (served_on lines its) c.lines-lines.result.now) c.new-counters.ensures.items
    ∙ ap (filter_map (served_on lines its)) c.lines-lines.ensures.value
    ∙ all-counters lines c.args.chart.now.end its c.lines-lines.ensures.rising shows.wired.planned

pub returns-in-None : goal.returns-in-None
returns-in-None c = λ other its shows.
    let listed : Contains c.args.chart.now.lines c.line-item.result =
    subst (λ (ls : List Line). Contains ls c.line-item.result) c.lines-lines.ensures.value
    (c.loop-line.line-index, c.loop-line-test.true, sym c.line-item.is) in
    let total = value-of c.line_total.result c.if-is_some.ensures in
    let is = sym c.line_total.ensures ∙ total.1 in
    let found = found-alike c.args.chart.now c.lines-lines.ensures.lawful c.lines-lines.ensures.rising c.args.setup.now other its shows
    c.line-item.result c.shown_on.result total.0 listed is c.shown_on.ensures.shown c.shown_on.ensures.none in
    let served = served-there c.args.chart.now c.lines-lines.ensures.lawful c.lines-lines.ensures.rising other its shows.wired
    c.line-item.result total.0 listed is in
    let none = sym c.in-None.is ∙ found ∙ served.1 in
    cc

pub loop-line-preserved : goal.loop-line-preserved
loop-line-preserved c = λ other its shows.
    let lines = c.args.chart.now.lines in
    let listed : Contains lines c.line-item.result =
    subst (λ (ls : List Line). Contains ls c.line-item.result) c.lines-lines.ensures.value
    (c.loop-line.line-index, c.loop-line-test.true, sym c.line-item.is) in
    elim c.if-is_some.branch [
      | then-is_some+in-Some+in_ok-push-in-Some w ↦
          let total = value-of c.line_total.result w.if-is_some.ensures in
          let found = found-alike c.args.chart.now c.lines-lines.ensures.lawful c.lines-lines.ensures.rising c.args.setup.now other its shows
          c.line-item.result w.shown_on.result total.0 listed (sym c.line_total.ensures ∙ total.1) w.shown_on.ensures.shown
          w.shown_on.ensures.none in
          let gives = sym found ∙ w.in-Some.is in
          rw (w.counters-is, w.in_ok-push-in-Some.ensures.items)
          (one-more (served_on lines its) c.lines-lines.result.now c.loop-line.line-index c.line-item.result c.loop-line-test.true
          c.line-item.is _ c.loop-line.counters.items its.counters gives (c.loop-line.invariant other its shows))
      | else-is_some w ↦
          let gives = ap (served_by lines its c.line-item.result.number)
          (sym c.line_total.ensures ∙ none-of c.line_total.result w.if-is_some.ensures) in
          rw w.counters-is
          (no-more (served_on lines its) c.lines-lines.result.now c.loop-line.line-index c.line-item.result c.loop-line-test.true
          c.line-item.is c.loop-line.counters.items its.counters gives (c.loop-line.invariant other its shows))
    ]

pub returns : goal.returns
returns c = λ other its shows.
    let past = drop_all c.loop-line.line-index c.lines-lines.result.now c.loop-line-test.false in
    sym (append-nil c.loop-line.counters.items)
    ∙ ap (λ rest. c.loop-line.counters.items ++ filter_map (served_on c.args.chart.now.lines its) rest) (sym past)
    ∙ c.loop-line.invariant other its shows
