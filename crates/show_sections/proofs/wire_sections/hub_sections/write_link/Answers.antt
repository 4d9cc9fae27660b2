use Rattle.std.proofs.Common.{◌≡◌, ◌++◌}
use Rattle.std.specs.Prelude.{codes}
use Rattle.std.specs.String.{string_bytes}
use Rattle.show_drawings.proofs.MarkupWords.Pieces.{and_more, pushed, where_ok}
use Rattle.show_drawings.specs.DrawingsWords.PanelDrawing.Drawing.{wire_name}
use Rattle.show_sections.specs.WireSections.Sections.{asking_text, wire_link, wire_link_open}
use Rattle.show_sections.proofs.wire_sections.hub_sections.write_link.Goals as goal

pub returns : goal.returns
returns c =
    let wire = c.args.wire in
    let number = c.args.number in
    let t0 = string_bytes c.args.text.now in
    let t1 = string_bytes c.write_link_open.new.text in
    let t2 = string_bytes c.write_wire_name.new.text in
    let t3 = string_bytes c.push_str.new.self in
    let t4 = string_bytes c.write_asking.new.text in
    let t5 = string_bytes c.push_str-2.new.self in
    let named = wire_link_open number ++ wire_name wire in
    let end = codes "</a>" in
    let close = codes "</p>\n" in
    where_ok (t5 ≡ t4 ++ close) (t5 ≡ t0 ++ wire_link number wire) c.push_str-2.result
    (and_more t0 t4 t5 (named ++ end ++ asking_text wire.line) close
    (and_more t0 t3 t4 (named ++ end) (asking_text wire.line)
    (and_more t0 t2 t3 named end
    (and_more t0 t1 t2 (wire_link_open number) (wire_name wire) c.in_ok-write_link_open.ensures c.in_ok-write_wire_name.ensures)
    c.in_ok-push_str.ensures.bytes) c.in_ok-write_asking.ensures))
    (pushed c.push_str-2.result t5 (t4 ++ close) t4 c.push_str-2.ensures.bytes)
