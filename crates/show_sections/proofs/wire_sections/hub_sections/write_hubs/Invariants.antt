use Rattle.std.specs.String.{string_bytes}
use Rattle.show_drawings.specs.DrawingsWords.PanelDrawing.Helper.{GainsHubs}
use Rattle.show_sections.specs.WireSections.Sections.{hub_section}
use Rattle.show_sections.proofs.wire_sections.hub_sections.write_hubs.Given as goal

-- the hubs so far are written
abbrev pub invariant-loop-passed : goal.invariant-loop-passed
invariant-loop-passed l = GainsHubs (hub_section l.wires l.told l.sums) l.passed (string_bytes l.initial.text) (string_bytes l.text)
