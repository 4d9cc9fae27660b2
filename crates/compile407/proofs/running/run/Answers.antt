use Rattle.std.proofs.Common.{ap, ◌∙◌}
use Rattle.page_text.specs.Pages.{Pages}
use Rattle.report_misfits.specs.Below.report_definition.Report.{report_lines}
use Rattle.compile407.proofs.Headline.{compiled_lines}
use Rattle.compile407.proofs.running.run.Goals as goal

pub returns-clause-report : goal.returns-clause-report
returns-clause-report c =
    let served = c.in_ok-check_run.ensures.served in
    let lines = compiled_lines c.args.compiled.now c.setup.result.now c.args.cards.now c.in_ok-lines.lines.items
    c.setup.ensures.compiled c.setup.ensures.value served.deck served.fits c.in_ok-lines.ensures.lines in
    let long = c.from.ensures ∙ c.lines-long.ensures.value
    ∙ ap (λ t. t.lines) (c.tape.ensures.value ∙ ap (λ s. s.tape) c.setup-2.ensures.value)
    ∙ c.setup.ensures.compiled.wired.tape.form_lines in
    c.in_ok-bytes.ensures ∙ ap (λ l. Pages l c.from.result) (c.deref.ensures.value ∙ lines)
    ∙ ap (Pages (report_lines c.args.compiled.now.chart c.args.cards.now)) long

pub returns-clause-served : goal.returns-clause-served
returns-clause-served c = c.in_ok-check_run.ensures.served
