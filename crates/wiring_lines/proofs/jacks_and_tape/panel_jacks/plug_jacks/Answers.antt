use Rattle.std.proofs.Common.{ap, ◌+◌}
use Rattle.wiring_lines.proofs.JacksAndTape.ChartJacks.{panel-jacks}
use Rattle.wiring_lines.proofs.jacks_and_tape.panel_jacks.plug_jacks.Goals as goal

pub returns : goal.returns
returns c =
    panel-jacks c.args.chart.now.lines c.lines-lines.result.now _ _ _ _ _ _ c.lines-lines.ensures.value c.plug_list.ensures
    c.plug_totals.ensures c.plug_heads.ensures (ap (λ n. n + 1) c.heading_count-heads.ensures.value) c.plug_lines.ensures
