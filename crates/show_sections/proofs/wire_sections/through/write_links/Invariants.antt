use Rattle.std.specs.Prelude.{◌≡◌, ◌++◌, take}
use Rattle.std.specs.String.{string_bytes}
use Rattle.show_sections.specs.WireSections.Sections.{through_links}
use Rattle.show_sections.proofs.wire_sections.through.write_links.Given as goal

-- the links so far are written
abbrev pub invariant-loop-one : goal.invariant-loop-one
invariant-loop-one l = string_bytes l.text ≡ string_bytes l.initial.text ++ through_links l.part (take l.one-index l.told)
