use Rattle.std.proofs.lemmas.Result.{on_ok_weaker}
use Rattle.wiring_lines.specs.LineWires.HelperAdds.{One}
use Rattle.wiring_totals.specs.HelperControls.{control_entry}
use Rattle.wiring_totals.proofs.CounterHubs.{adds-pair}
use Rattle.wiring_totals.proofs.counter.wire_controls.Goals as goal

pub returns-in_ok-wire_group_control-in-Coupled : goal.returns-in_ok-wire_group_control-in-Coupled
returns-in_ok-wire_group_control-in-Coupled c =
    on_ok_weaker c.wire_group_control-in-Coupled-2.result
    (adds-pair (λ group. One c.args.exit (control_entry c.args.control group)) c.in-Coupled.is c.panel_group-in-Coupled.ensures
    c.panel_group-in-Coupled-2.ensures c.in_ok-wire_group_control-in-Coupled.ensures)
    c.wire_group_control-in-Coupled-2.ensures
