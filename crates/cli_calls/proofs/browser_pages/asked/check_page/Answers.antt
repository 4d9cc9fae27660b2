use Rattle.std.proofs.Common.{◌∙◌, ap}
use Rattle.std.proofs.lemmas.Result.{err_from_is_err_and}
use Rattle.cli_commands.specs.declared.panel_guides.unexplained.Unexplained.TheVariants as why
use Rattle.cli_calls.proofs.browser_pages.asked.check_page.Goals as goal

pub returns-in_err-is_there-clause-lacks : goal.returns-in_err-is_there-clause-lacks
returns-in_err-is_there-clause-lacks c =
    let exit = err_from_is_err_and c.from_residual.result c.from_residual.ensures.1 in
    rw exit.1 (λ not_memory. absurd (not_memory (exit.2 ∙ ap why.Failed c.in_err-is_there.ensures.memory)))
