use Rattle.wiring_lines.proofs.LineWires.Steps.{adds-one}
use Rattle.wiring_lines.proofs.line_wires.adding.connect.Goals as goal

pub returns-in-Ok : goal.returns-in-Ok
returns-in-Ok c = adds-one c.in-Ok.ensures.wires c.in-Ok.ensures.jacks c.in-Ok.ensures.tape
