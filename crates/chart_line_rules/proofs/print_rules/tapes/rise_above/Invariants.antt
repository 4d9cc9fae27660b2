use Rattle.std.proofs.Common.{◌≡◌, drop}
use Rattle.chart_line_rules.specs.PrintRules.Tapes.{rise_above}
use Rattle.chart_line_rules.proofs.print_rules.tapes.rise_above.Given as goal

abbrev pub invariant-loop-stop : goal.invariant-loop-stop
invariant-loop-stop l = rise_above l.last (drop l.stop-index l.stops) ≡ rise_above l.before l.stops
