use Rattle.std.proofs.Common.{◌≡◌, ◌++◌}
use Rattle.std.specs.Prelude.{codes}
use Rattle.std.specs.String.{string_bytes}
use Rattle.show_drawings.specs.DrawingsWords.PanelDrawing.Drawing.{colour_text, link_text, wire_name, wire_path, wire_text}
use Rattle.show_drawings.proofs.MarkupWords.Pieces.{and_more, pushed, where_ok}
use Rattle.show_drawings.proofs.drawings.panel_drawing.drawing.write_wire.Goals as goal

pub returns : goal.returns
unfolding wire_text
returns c =
    let wire = c.args.wire in
    let t0 = string_bytes c.args.text.now in
    let t1 = string_bytes c.write_link.new.text in
    let t2 = string_bytes c.write_colour.new.text in
    let t3 = string_bytes c.write_path.new.text in
    let t4 = string_bytes c.push_str.new.self in
    let t5 = string_bytes c.write_wire_name.new.text in
    let t6 = string_bytes c.push_str-2.new.self in
    let number = c.args.number in
    let front = link_text number ++ colour_text wire.line in
    let title = codes "\"><title>" in
    let close = codes "</title></path></a>\n" in
    where_ok (t6 ≡ t5 ++ close) (t6 ≡ t0 ++ wire_text number wire) c.push_str-2.result
    (and_more t0 t5 t6 (front ++ wire_path wire ++ title ++ wire_name wire) close
    (and_more t0 t4 t5 (front ++ wire_path wire ++ title) (wire_name wire)
    (and_more t0 t3 t4 (front ++ wire_path wire) title
    (and_more t0 t2 t3 front (wire_path wire)
    (and_more t0 t1 t2 (link_text number) (colour_text wire.line) c.in_ok-write_link.ensures c.in_ok-write_colour.ensures)
    c.in_ok-write_path.ensures) c.in_ok-push_str.ensures.bytes) c.in_ok-write_wire_name.ensures))
    (pushed c.push_str-2.result t6 (t5 ++ close) t5 c.push_str-2.ensures.bytes)
