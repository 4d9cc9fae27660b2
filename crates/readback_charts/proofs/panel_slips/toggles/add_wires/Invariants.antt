use Rattle.std.specs.Prelude.{◌≡◌}
use Rattle.readback_charts.specs.PanelSlips.Slips.{HasOnly}
use Rattle.readback_charts.proofs.panel_slips.toggles.add_wires.Given as goal

abbrev pub invariant-loop-wire : goal.invariant-loop-wire
invariant-loop-wire l = record { sound : HasOnly l.setup l.copy; tape : l.copy.tape ≡ l.initial.copy.tape }
