use Rattle.std.specs.Prelude.{◌≡◌, take}
use Rattle.std.specs.List.{filter}
use Rattle.net.specs.HubSets.{has_hub}
use Rattle.show_page.specs.CycleSteps.Live.{leaves_any}
use Rattle.show_page.proofs.cycle_steps.live.wires_in.Given as goal

-- the wires so far that leave a hub of the picture
abbrev pub invariant-loop-wire : goal.invariant-loop-wire
invariant-loop-wire l = l.live.items ≡ filter (leaves_any (has_hub l.picture)) (take l.wire-index l.wires)
