use Rattle.std.proofs.Common.{◌≤◌}
use Rattle.wiring_lines.specs.JacksAndTape.HelperJacks.{Plugs, TotalsBelow}
use Rattle.wiring_lines.proofs.jacks_and_tape.panel_jacks.plug_totals.Given as goal

abbrev pub invariant-loop-level : goal.invariant-loop-level
invariant-loop-level l = (l.level ≤ 5) × Plugs (TotalsBelow l.lines l.level) l.initial.setup l.setup
