use Rattle.std.proofs.Common.{inr}
use Rattle.std.proofs.lemmas.Result.{err_from_is_err_and}
use Rattle.cli_commands.specs.PanelGuides.Known as known
use Rattle.cli_commands.specs.PanelGuides.Panels.{reported}
use Rattle.cli_commands.proofs.panel_guides.text_runs.TextRun.of_chart.Goals as goal

pub returns-in_err-run-clause-refused : goal.returns-in_err-run-clause-refused
returns-in_err-run-clause-refused c =
    let exit = err_from_is_err_and c.from_residual.result c.from_residual.ensures.1 in
    rw exit.1 (rw exit.2 (λ not_memory. inr (c.requires, c.in_err-run.ensures.refused not_memory)))

pub returns-clause-run : goal.returns-clause-run
returns-clause-run c =
    let compiled = c.in_ok-run.run'.compiled in
    record {
      is = record {
        run = reported c.requires compiled c.in_ok-run.ensures.compiles c.in_ok-run.ensures.deck c.in_ok-run.ensures.runnable;
        is_known = known.planned c.requires compiled c.in_ok-run.ensures.compiles;
      };
      few = c.in_ok-run.ensures.deck.few;
      served = c.in_ok-run.ensures.compiles.wired.serves;
    }
