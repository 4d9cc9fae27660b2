use Rattle.wire_gen.proofs.FigureLines.{figures-are}
use Rattle.wire_gen.proofs.KeptLines.{good-lines}
use Rattle.wire_gen.proofs.Whole.{whole}
use Rattle.wire_gen.proofs.WholeLines.{chart-wires}
use Rattle.wire_gen.proofs.wiring.wire.Goals as goal

pub plug_jacks-requires : goal.plug_jacks-requires
plug_jacks-requires c =
    λ place line at.
    figures-are c.args.chart.now.lines c.args.plan.now line.number line.statement
    (good-lines c.args.chart.now c.args.plan.now c.lines-lines.ensures.lawful c.lines-lines.ensures.rising c.requires place line at)

pub wire_lines-requires : goal.wire_lines-requires
wire_lines-requires c = good-lines c.args.chart.now c.args.plan.now c.lines-lines.ensures.lawful c.lines-lines.ensures.rising c.requires

pub returns : goal.returns
returns c =
    whole c.args.chart.now.lines c.args.plan.now c.tape_of.result c.new-setup.result c.plug_jacks.new.setup c.wire_lines.new.setup
    c.tape_of.ensures c.new-setup.ensures.wires c.new-setup.ensures.jacks c.new-setup.ensures.tape c.plug_jacks.ensures
    (chart-wires c.args.chart.now.lines c.args.plan.now c.plug_jacks.new.setup c.wire_lines.new.setup c.in_ok-wire_lines.ensures)
