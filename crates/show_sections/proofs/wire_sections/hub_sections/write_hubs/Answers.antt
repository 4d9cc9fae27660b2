use Rattle.std.specs.String.{string_bytes}
use Rattle.show_drawings.proofs.DrawingsWords.PanelDrawing.Written.{hubs_more}
use Rattle.show_sections.specs.WireSections.Sections.{hub_section}
use Rattle.show_sections.proofs.wire_sections.hub_sections.write_hubs.Goals as goal

pub loop-passed-preserved : goal.loop-passed-preserved
loop-passed-preserved c =
    hubs_more (hub_section c.args.wires.now c.args.told.now c.args.sums.now) c.loop-passed.passed (string_bytes c.args.text.now)
    (string_bytes c.loop-passed.text) (string_bytes c.write_hub_section.new.text) c.in-Some.hub c.loop-passed.invariant
    c.in-Some.ensures.numbered c.in_ok-write_hub_section.ensures
