use Rattle.std.specs.Prelude.{◌≡◌}
use Rattle.hubs.specs.SetupsWords.Wiring.{SameWires}
use Rattle.readback_charts.proofs.panel_slips.toggles.plug_jacks.Given as goal

abbrev pub invariant-loop-place : goal.invariant-loop-place
invariant-loop-place l = record { wires : SameWires l.initial.copy l.copy; tape : l.copy.tape ≡ l.initial.copy.tape }
