use Rattle.std.specs.Prelude.{All}
use Rattle.machine_sets.specs.BitSets.Bundles.{IsBundle}
use Rattle.machine_sets.proofs.bit_sets.rows.Rows.bundle_row.Given as goal

abbrev pub invariant-loop-to : goal.invariant-loop-to
invariant-loop-to l = All (IsBundle l.self) l.runs.items
