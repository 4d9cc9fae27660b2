use Rattle.std.specs.Prelude.{All}
use Rattle.machine_sets.specs.BitSets.Bundles.{IsBundle}
use Rattle.machine_sets.proofs.bit_sets.rows.Rows.bundled.Given as goal

abbrev pub invariant-loop-from : goal.invariant-loop-from
invariant-loop-from l = All (IsBundle l.self) l.runs.items
