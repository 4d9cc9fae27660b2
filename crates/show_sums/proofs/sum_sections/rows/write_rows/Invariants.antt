use Rattle.std.specs.Prelude.{◌≡◌, ◌++◌, take}
use Rattle.std.specs.List.{flat_map}
use Rattle.std.specs.String.{string_bytes}
use Rattle.show_sums.specs.SumSections.Rows.{entry_row}
use Rattle.show_sums.proofs.sum_sections.rows.write_rows.Given as goal

-- those so far are written
abbrev pub invariant-loop-entry : goal.invariant-loop-entry
invariant-loop-entry l =
    string_bytes l.text
    ≡ string_bytes l.initial.text ++ flat_map (entry_row l.shown l.sums l.sum) (take l.entry-index l.entries)
