use Rattle.wiring_lines.proofs.LineWires.Steps.{upto-more, upto-none}
use Rattle.match_panels.proofs.DifferencesWords.Wires.{wires-all}
use Rattle.match_panels.proofs.differences.between.add_wires.Goals as goal

pub loop-number-init : goal.loop-number-init
loop-number-init c = upto-none

pub loop-number-preserved : goal.loop-number-preserved
loop-number-preserved c = upto-more c.loop-number.invariant c.in_ok-add_from.ensures

pub returns : goal.returns
returns c = wires-all c.known-its.ensures.wires c.loop-number-test.false c.loop-number.invariant
