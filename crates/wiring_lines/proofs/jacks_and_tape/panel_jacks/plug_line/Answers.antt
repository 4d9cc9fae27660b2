use Rattle.std.proofs.Common.{sym}
use Rattle.wiring_lines.proofs.JacksAndTape.LineJacks.{line-jacks}
use Rattle.wiring_lines.proofs.jacks_and_tape.panel_jacks.plug_line.Goals as goal

pub plug_figure-requires : goal.plug_figure-requires
plug_figure-requires c =
    let is_figure = c.requires.there c.in-Some.item c.in-Some-figure.figure (sym c.in-Some.ensures) c.in-Some-figure.is in
    c.requires.good is_figure.0 c.in-Some.item.first c.in-Some-figure.figure is_figure.1

pub returns-in-Some-figure : goal.returns-in-Some-figure
returns-in-Some-figure c =
    line-jacks c.args.chart.now.lines c.args.statement.now c.in-Some.item c.in-Some-figure.figure _ _ c.requires
    (sym c.in-Some.ensures) c.in-Some-figure.is c.plug_figure.ensures
