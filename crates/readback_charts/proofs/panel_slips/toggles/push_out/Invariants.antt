use Rattle.std.specs.Prelude.{◌≡◌, ◌++◌, map, take}
use Rattle.readback_charts.specs.declared.panel_slips.toggles.Toggle.TheVariants as changes
use Rattle.readback_charts.proofs.panel_slips.toggles.push_out.Given as goal

abbrev pub invariant-loop-wire : goal.invariant-loop-wire
invariant-loop-wire l = l.toggles.items ≡ l.initial.toggles.items ++ map changes.Out (take l.wire-index l.wires)
