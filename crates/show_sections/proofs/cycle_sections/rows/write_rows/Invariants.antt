use Rattle.std.specs.Prelude.{◌≡◌, ◌≤◌, ◌++◌, drop}
use Rattle.show_sections.specs.CycleSections.Rows.{in_rows, rows_of}
use Rattle.show_sections.proofs.cycle_sections.rows.write_rows.Given as goal

-- the rows so far, and those of the bytes that are left
abbrev pub invariant-loop-byte : goal.invariant-loop-byte
invariant-loop-byte l = record {
  written : l.rows.items ++ in_rows l.inside l.spaces (drop l.byte-index l.line) ≡ l.initial.rows.items ++ rows_of l.line;
  few : l.spaces ≤ l.byte-index;
}
