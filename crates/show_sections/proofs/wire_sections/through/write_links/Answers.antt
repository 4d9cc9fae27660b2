use Rattle.std.proofs.Common.{sym}
use Rattle.std.specs.String.{string_bytes}
use Rattle.show_drawings.proofs.MarkupWords.Pieces.{one_more}
use Rattle.show_sections.specs.WireSections.Sections.{through_link}
use Rattle.show_sections.proofs.wire_sections.through.write_links.Goals as goal

pub loop-one-preserved : goal.loop-one-preserved
loop-one-preserved c =
    one_more (through_link c.args.part) (string_bytes c.args.text.now) (string_bytes c.loop-one.text) (string_bytes c.write_link.new.text)
    c.args.told.now c.loop-one.one-index c.one-item.result c.loop-one-test.true (sym c.one-item.is) c.loop-one.invariant
    c.in_ok-write_link.ensures
