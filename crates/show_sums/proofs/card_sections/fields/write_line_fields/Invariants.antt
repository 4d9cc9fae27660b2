use Rattle.std.specs.Prelude.{◌≡◌, ◌++◌, take}
use Rattle.std.specs.List.{flat_map}
use Rattle.std.specs.String.{string_bytes}
use Rattle.show_sums.specs.CardSections.Fields.{line_field}
use Rattle.show_sums.proofs.card_sections.fields.write_line_fields.Given as goal

-- those so far are written
abbrev pub invariant-loop-line : goal.invariant-loop-line
invariant-loop-line l = string_bytes l.text ≡ string_bytes l.initial.text ++ flat_map (line_field l.characters) (take l.line-index l.lines)
