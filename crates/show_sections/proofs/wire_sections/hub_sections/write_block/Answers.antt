use Rattle.std.proofs.Common.{◌≡◌, ◌++◌}
use Rattle.std.specs.Prelude.{codes}
use Rattle.std.specs.String.{string_bytes}
use Rattle.show_drawings.proofs.MarkupWords.Pieces.{and_more, pushed, where_ok}
use Rattle.show_drawings.specs.DrawingsWords.PanelDrawing.Drawing.{block_name}
use Rattle.show_sections.specs.WireSections.Sections.{block_part}
use Rattle.show_sections.proofs.wire_sections.hub_sections.write_block.Goals as goal

pub returns : goal.returns
unfolding block_part
returns c =
    let t0 = string_bytes c.args.text.now in
    let t1 = string_bytes c.push_str.new.self in
    let t2 = string_bytes c.write_block_name.new.text in
    let t3 = string_bytes c.push_str-2.new.self in
    let front = codes " (" in
    let name = block_name c.args.hub in
    let close = codes "). Its wires:</p>\n" in
    where_ok (t3 ≡ t2 ++ close) (t3 ≡ t0 ++ block_part c.args.hub) c.push_str-2.result
    (and_more t0 t2 t3 (front ++ name) close
    (and_more t0 t1 t2 front name c.in_ok-push_str.ensures.bytes c.in_ok-write_block_name.ensures))
    (pushed c.push_str-2.result t3 (t2 ++ close) t2 c.push_str-2.ensures.bytes)
