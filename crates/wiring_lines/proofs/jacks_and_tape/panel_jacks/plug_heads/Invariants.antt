use Rattle.std.proofs.Common.{◌≤◌}
use Rattle.wiring_lines.specs.JacksAndTape.HelperJacks.{Plugs, Ranged}
use Rattle.hubs.specs.declared.jack.Jack.TheVariants as jack
use Rattle.wiring_lines.proofs.jacks_and_tape.panel_jacks.plug_heads.Given as goal

abbrev pub invariant-loop-heading : goal.invariant-loop-heading
invariant-loop-heading l =
    (1 ≤ l.heading) × (l.heading ≤ l.end) × Plugs (Ranged jack.Head 1 l.heading) l.initial.setup l.setup
