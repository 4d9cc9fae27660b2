use Rattle.std.proofs.Common.{◌∙◌, inr, refl, sym}
use Rattle.std.proofs.lemmas.Result.{err_from_is_err_and}
use Rattle.cli_calls.proofs.WholeRuns.Printing.{pages_unwritten, pages_written}
use Rattle.fault_lines.proofs.ProgramIo.Fronting.{front_of_bytes}
use Rattle.cli_calls.specs.WholeRuns.Whole.{lacking}
use Rattle.cli_calls.proofs.whole_runs.serving.print_chosen.Goals as goal

pub returns-then-not-has_page-clause-stopped : goal.returns-then-not-has_page-clause-stopped
returns-then-not-has_page-clause-stopped g c = lacking (sym c.has_page.ensures ∙ c.if-not-has_page.true) c.no_page.ensures refl

pub returns-in_err-put-clause-stopped : goal.returns-in_err-put-clause-stopped
returns-in_err-put-clause-stopped g c =
    let exit = err_from_is_err_and c.from_residual.result c.from_residual.ensures.1 in
    rw exit.1 (pages_unwritten c.args.text.now c.args.pages c.in_err-put.field-0.0 exit.0 _ c.in_err-put.ensures.told exit.2)

pub returns-in_err-put-clause-front : goal.returns-in_err-put-clause-front
returns-in_err-put-clause-front g c =
    inr (front_of_bytes c.chosen_pages.result.now (λ after.
    pages_written c.args.text.now c.chosen_pages.result.now c.args.pages _ after (sym c.has_page.ensures ∙ c.if-not-has_page.false)
    c.chosen_pages.ensures) c.in_err-put.ensures.front)

pub returns-clause-front : goal.returns-clause-front
returns-clause-front g c =
    inr (front_of_bytes c.chosen_pages.result.now (λ after.
    pages_written c.args.text.now c.chosen_pages.result.now c.args.pages _ after (sym c.has_page.ensures ∙ c.if-not-has_page.false)
    c.chosen_pages.ensures) c.in_ok-put.ensures.front)
