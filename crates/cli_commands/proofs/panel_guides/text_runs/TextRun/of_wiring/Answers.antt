use Rattle.std.proofs.Common.{inl}
use Rattle.std.proofs.lemmas.Result.{err_from_is_err_and}
use Rattle.readback_charts.specs.KnownCharts.{known_in}
use Rattle.cli_commands.proofs.PanelGuides.Explaining.{read_serves}
use Rattle.cli_commands.specs.PanelGuides.Known.{by_hand}
use Rattle.cli_commands.specs.PanelGuides.Panels.{replayed}
use Rattle.cli_commands.proofs.panel_guides.text_runs.TextRun.of_wiring.Goals as goal

pub returns-in_err-run-clause-refused : goal.returns-in_err-run-clause-refused
returns-in_err-run-clause-refused c =
    let exit = err_from_is_err_and c.from_residual.result c.from_residual.ensures.1 in
    rw exit.1 (rw exit.2 (λ not_memory. inl (c.requires, c.in_err-run.ensures.refused not_memory)))

pub returns-clause-run : goal.returns-clause-run
returns-clause-run c =
    let setup = c.in_ok-run.run'.setup in
    let known = known_in c.in_ok-read.read in
    record {
      is = record {
        run = replayed c.requires setup c.in_ok-run.ensures.reads c.in_ok-run.ensures.deck;
        is_known = by_hand c.requires setup known c.in_ok-read.ensures.known;
      };
      few = c.in_ok-run.ensures.deck.few;
      served = read_serves setup known c.in_ok-read.ensures.known;
    }
