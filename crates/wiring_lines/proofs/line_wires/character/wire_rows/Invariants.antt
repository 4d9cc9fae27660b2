use Rattle.wiring_lines.specs.LineWires.HelperAdds.{Adds, Upto}
use Rattle.wiring_lines.specs.LineWires.HelperRows.{RowWire, number_at}
use Rattle.wiring_lines.proofs.line_wires.character.wire_rows.Given as goal

-- the rows before this one are wired
abbrev pub invariant-loop-row : goal.invariant-loop-row
invariant-loop-row l = Adds (Upto l.row-index (λ place. RowWire l.emitter l.entry l.column (number_at place))) l.initial.setup l.setup
