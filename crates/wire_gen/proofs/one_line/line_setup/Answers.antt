use Rattle.wire_gen.proofs.FigureLines.{figures-are}
use Rattle.wire_gen.proofs.KeptLines.{good-line}
use Rattle.wire_gen.proofs.OneLine.{whole-line}
use Rattle.wire_gen.proofs.one_line.line_setup.Goals as goal

pub plug_line_jacks-requires : goal.plug_line_jacks-requires
plug_line_jacks-requires c =
    figures-are c.args.chart.now.lines c.args.plan.now c.args.line.now.number c.args.line.now.statement
    (good-line c.args.chart.now c.args.plan.now c.lines-lines.ensures.lawful c.lines-lines.ensures.rising c.requires.plan c.args.line.now c.requires.listed)

pub wire_line-requires : goal.wire_line-requires
wire_line-requires c =
    good-line c.args.chart.now c.args.plan.now c.lines-lines.ensures.lawful c.lines-lines.ensures.rising c.requires.plan c.args.line.now c.requires.listed

pub returns : goal.returns
returns c =
    whole-line c.args.chart.now.lines c.args.plan.now c.args.line.now c.line_tape.result c.new-setup.result c.plug_line_jacks.new.setup
    c.wire_line.new.setup c.line_tape.ensures c.new-setup.ensures.wires c.new-setup.ensures.jacks c.new-setup.ensures.tape
    c.plug_line_jacks.ensures c.in_ok-wire_line.ensures
