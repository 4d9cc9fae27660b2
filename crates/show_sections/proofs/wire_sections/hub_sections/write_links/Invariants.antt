use Rattle.std.specs.Prelude.{◌≡◌, ◌+◌, ◌++◌, drop}
use Rattle.std.specs.String.{string_bytes}
use Rattle.show_drawings.specs.MarkupWords.Pieces.{numbered_words}
use Rattle.show_sections.specs.WireSections.Sections.{link_at}
use Rattle.show_sections.proofs.wire_sections.hub_sections.write_links.Given as goal

-- what is written, and the wires that are left
abbrev pub invariant-loop-place : goal.invariant-loop-place
invariant-loop-place l =
    string_bytes l.text ++ numbered_words (link_at l.hub) (l.place + 1) (drop l.place l.wires)
    ≡ string_bytes l.initial.text ++ numbered_words (link_at l.hub) 1 l.wires
