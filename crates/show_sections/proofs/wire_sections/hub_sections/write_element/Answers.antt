use Rattle.std.proofs.Common.{◌≡◌, ◌++◌}
use Rattle.std.specs.List.{flat_map}
use Rattle.std.specs.String.{string_bytes}
use Rattle.show_drawings.specs.MarkupWords.Pieces.{numbered_words}
use Rattle.show_drawings.proofs.MarkupWords.Pieces.{and_more, where_ok}
use Rattle.show_drawings.specs.DrawingsWords.PanelDrawing.Drawing.{picture_open}
use Rattle.show_sections.specs.WheelSections.Sections.{section_close}
use Rattle.show_sections.specs.WireSections.Sections.{hub_element, hub_head, link_at, path_at, through_text}
use Rattle.show_sections.specs.declared.wire_sections.passing.Part.TheVariants as part
use Rattle.show_sections.proofs.wire_sections.hub_sections.write_element.Goals as goal

pub returns : goal.returns
returns c =
    let wires = c.args.wires.now in
    let told = c.args.told.now in
    let sums = c.args.sums.now in
    let number = c.args.number in
    let t0 = string_bytes c.args.text.now in
    let t1 = string_bytes c.write_head.new.text in
    let t2 = string_bytes c.write_links.new.text in
    let t3 = string_bytes c.write_through.new.text in
    let t4 = string_bytes c.write_picture_open.new.text in
    let t5 = string_bytes c.write_paths.new.text in
    let t6 = string_bytes c.write_section_close.new.text in
    let head = hub_head number c.args.hub in
    let links = numbered_words (link_at number) 1 wires in
    let through = through_text told sums (part.Hub number) c.args.hub in
    let paths = flat_map (path_at number) wires in
    where_ok (t6 ≡ t5 ++ section_close) (t6 ≡ t0 ++ hub_element wires told sums number c.args.hub) c.write_section_close.result
    (and_more t0 t5 t6 (head ++ links ++ through ++ picture_open ++ paths) section_close
    (and_more t0 t4 t5 (head ++ links ++ through ++ picture_open) paths
    (and_more t0 t3 t4 (head ++ links ++ through) picture_open
    (and_more t0 t2 t3 (head ++ links) through
    (and_more t0 t1 t2 head links c.in_ok-write_head.ensures c.in_ok-write_links.ensures) c.in_ok-write_through.ensures)
    c.in_ok-write_picture_open.ensures) c.in_ok-write_paths.ensures))
    c.write_section_close.ensures
