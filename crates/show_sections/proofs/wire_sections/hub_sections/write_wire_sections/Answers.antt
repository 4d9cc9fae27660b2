use Rattle.std.specs.String.{string_bytes}
use Rattle.show_drawings.proofs.MarkupWords.Pieces.{where_ok}
use Rattle.show_sections.proofs.WireSections.Gained.{sections_gained}
use Rattle.show_sections.proofs.wire_sections.hub_sections.write_wire_sections.Goals as goal

pub returns : goal.returns
returns c =
    where_ok _ _ c.write_hubs.result
    (sections_gained c.args.wires.now c.args.told.now c.args.sums.now (string_bytes c.args.text.now) (string_bytes c.write_all.new.text)
    (string_bytes c.write_hubs.new.text) c.in_ok-write_all.ensures)
    c.write_hubs.ensures
