use Rattle.std.specs.Prelude.{◌≡◌, ◌++◌, take}
use Rattle.std.specs.List.{flat_map}
use Rattle.std.specs.String.{string_bytes}
use Rattle.show_sections.specs.WireSections.Held.{held_link}
use Rattle.show_sections.proofs.wire_sections.held.write_held_links.Given as goal

-- the links so far are written
abbrev pub invariant-loop-sum : goal.invariant-loop-sum
invariant-loop-sum l = string_bytes l.text ≡ string_bytes l.initial.text ++ flat_map (held_link l.group) (take l.sum-index l.sums)
