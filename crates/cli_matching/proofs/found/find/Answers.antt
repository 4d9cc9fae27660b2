use Rattle.std.proofs.Common.{subst}
use Rattle.chart_lines.specs.ChartsWords.Chart.{Chart}
use Rattle.cli_matching.proofs.Finding.{found_text}
use Rattle.cli_matching.specs.MatchTexts.Progress.{IsToldText}
use Rattle.std.specs.String.{string_bytes}
use Rattle.cli_matching.proofs.found.find.Goals as goal

pub returns : goal.returns
returns c =
    found_text c.args.telling c.args.wiring.now c.args.panels.now.version c.args.panels.now.compiled c.args.panels.now.setup c.in_ok-matching.matching c.told_counts-counts.result
    (string_bytes c.in_ok-text.text) c.in_ok-matching.ensures.told c.in_ok-matching.ensures.found c.in_ok-matching.ensures.shown
    c.in_ok-matching.ensures.prints c.in_ok-matching.ensures.begins c.told_counts-counts.ensures
    (subst (λ (chart : Chart). IsToldText c.args.telling c.args.wiring.now c.args.panels.now.version chart.lines c.args.panels.now.setup c.in_ok-matching.matching (string_bytes c.in_ok-text.text))
    c.chart-chart.ensures.value c.in_ok-text.ensures)
