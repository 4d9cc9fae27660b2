use Rattle.std.specs.Prelude.{◌≡◌, ◌++◌, take}
use Rattle.std.specs.List.{flat_map}
use Rattle.std.specs.String.{string_bytes}
use Rattle.show_sections.specs.WireSections.Sections.{path_at}
use Rattle.show_sections.proofs.wire_sections.hub_sections.write_paths.Given as goal

-- the wires so far are written
abbrev pub invariant-loop-wire : goal.invariant-loop-wire
invariant-loop-wire l = string_bytes l.text ≡ string_bytes l.initial.text ++ flat_map (path_at l.hub) (take l.wire-index l.wires)
