use Rattle.std.proofs.Common.{sym, ap, ◌∙◌}
use Rattle.chart_lines.specs.declared.charts.statement.Statement.TheVariants as says
use Rattle.match_plans.specs.NamingWires.NamesPart.{marking}
use Rattle.match_plans.proofs.PilotsTold.{mark-no, mark-yes, total-no, total-yes}
use Rattle.chart_plans.specs.WantedWords.ChartTotals.{line_total}
use Rattle.match_plans.proofs.pilots.tells_pilot.Goals as goal

pub returns-then-is-clause-yes : goal.returns-then-is-clause-yes
returns-then-is-clause-yes c = λ other its shows listed leads.
    let d = c.in-DetailField in
    let m = c.in-Marked in
    mark-yes c.args.chart.now other c.lines-lines.ensures.lawful c.lines-lines.ensures.rising its shows.wired c.args.amount.now c.requires
    d.name (sym c.if-is.ensures) c.args.line.now d.wheel m.field-0 c.args.pilot c.wheel_of_mark-mark.result listed
    (d.is ∙ ap (says.DetailField d.wheel d.name) m.is) c.wheel_of_mark-mark.ensures
    ((shows.alike _ _ (marking c.args.amount.now.rule c.args.pilot c.wheel_of_mark-mark.result)).0 (c.leads_to_mark.ensures.0 leads))

pub returns-then-is-clause-no : goal.returns-then-is-clause-no
returns-then-is-clause-no c = λ other its shows listed served tells.
    let d = c.in-DetailField in
    let m = c.in-Marked in
    c.leads_to_mark.ensures.1
    ((shows.alike _ _ (marking c.args.amount.now.rule c.args.pilot c.wheel_of_mark-mark.result)).1
    (mark-no c.args.chart.now other c.lines-lines.ensures.lawful c.lines-lines.ensures.rising its shows.wired c.args.amount.now c.requires
    d.name (sym c.if-is.ensures) c.args.line.now d.wheel m.field-0 c.args.pilot c.wheel_of_mark-mark.result listed
    (d.is ∙ ap (says.DetailField d.wheel d.name) m.is) c.wheel_of_mark-mark.ensures served))

pub returns-then-is-2-clause-yes : goal.returns-then-is-2-clause-yes
returns-then-is-2-clause-yes c = λ other its shows listed leads.
    let t = c.in-TotalAmount in
    total-yes c.args.chart.now other c.lines-lines.ensures.lawful c.lines-lines.ensures.rising its shows.wired c.args.amount.now c.requires
    c.args.line.now t.total c.args.pilot (sym c.if-is-2.ensures) listed t.is
    ((c.leads_to_total.ensures other its _ shows listed (ap (line_total c.args.chart.now.lines c.args.line.now.number) t.is)).0 leads)

pub returns-then-is-2-clause-no : goal.returns-then-is-2-clause-no
returns-then-is-2-clause-no c = λ other its shows listed served tells.
    let t = c.in-TotalAmount in
    (c.leads_to_total.ensures other its _ shows listed (ap (line_total c.args.chart.now.lines c.args.line.now.number) t.is)).1
    (total-no c.args.chart.now other c.lines-lines.ensures.lawful c.lines-lines.ensures.rising its shows.wired c.args.amount.now c.requires
    c.args.line.now t.total c.args.pilot listed t.is served tells)
