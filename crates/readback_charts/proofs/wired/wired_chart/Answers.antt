use Rattle.std.proofs.Common.{◌∙◌, ap}
use Rattle.std.specs.Prelude.{string_bytes}
use Rattle.readback_charts.proofs.MatchedCharts.{known_of_text, none_beside, none_of_text}
use Rattle.readback_charts.proofs.wired.wired_chart.Goals as goal

pub returns-in_default-clause-known : goal.returns-in_default-clause-known
returns-in_default-clause-known c =
    none_of_text c.args.setup.now (string_bytes c.in_ok-text.text) c.in_ok-text.ensures (rw c.in_default.is at c.in_ok-chart.ensures.none)

pub returns-then-is_wired-clause-known : goal.returns-then-is_wired-clause-known
returns-then-is_wired-clause-known c =
    known_of_text c.args.setup.now (string_bytes c.in_ok-text.text) c.in_ok-text.ensures c.in_ok-panel.panel
    (ap string_bytes (c.in_ok-panel.ensures.text ∙ (rw c.in-Some.is at c.in_ok-chart.ensures.text))) c.in_ok-panel.ensures.read
    (c.is_wired.ensures.wired c.if-is_wired.true)

pub returns-else-is_wired-clause-known : goal.returns-else-is_wired-clause-known
returns-else-is_wired-clause-known c =
    none_beside c.args.setup.now (string_bytes c.in_ok-text.text) c.in_ok-text.ensures c.in_ok-panel.panel
    (ap string_bytes (c.in_ok-panel.ensures.text ∙ (rw c.in-Some.is at c.in_ok-chart.ensures.text))) c.in_ok-panel.ensures.read
    (c.is_wired.ensures.unwired c.if-is_wired.false)
