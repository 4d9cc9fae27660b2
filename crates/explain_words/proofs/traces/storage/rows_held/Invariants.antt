use Rattle.std.proofs.Common.{◌≡◌, drop, map}
use Rattle.card_code.specs.Rows.{rows}
use Rattle.print_unit.specs.ZeroControl.{set_from}
use Rattle.storage_units.specs.Storage.{holds}
use Rattle.explain_words.proofs.traces.storage.rows_held.Given as goal

-- the rows from the last one up to here are read
abbrev pub invariant-loop-place : goal.invariant-loop-place
invariant-loop-place l = l.held ≡ set_from (drop l.place rows) (drop l.place (map (λ row. holds l.storage row l.column) rows))
