use Rattle.std.specs.Prelude.{◌≡◌, ◌++◌, take}
use Rattle.std.specs.List.{flat_map}
use Rattle.std.specs.String.{string_bytes}
use Rattle.show_sections.specs.WheelSections.Sections.{way_text}
use Rattle.show_sections.proofs.wheel_sections.sections.write_ways.Given as goal

-- the ways so far are written
abbrev pub invariant-loop-row : goal.invariant-loop-row
invariant-loop-row l = string_bytes l.text ≡ string_bytes l.initial.text ++ flat_map way_text (take l.row-index l.rows)
