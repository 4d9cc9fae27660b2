use Rattle.std.proofs.Common.{◌≡◌, ◌++◌}
use Rattle.std.specs.List.{flat_map}
use Rattle.std.specs.String.{string_bytes}
use Rattle.show_drawings.proofs.MarkupWords.Pieces.{and_more, where_ok}
use Rattle.show_drawings.specs.DrawingsWords.PanelDrawing.Drawing.{picture_open}
use Rattle.show_sections.specs.WheelSections.Sections.{rest_text, section_close, way_text, words_text}
use Rattle.show_sections.proofs.wheel_sections.sections.write_rest.Goals as goal

pub returns : goal.returns
unfolding rest_text
returns c =
    let old = string_bytes c.args.text.now in
    let one = string_bytes c.write_words.new.text in
    let two = string_bytes c.write_picture_open.new.text in
    let three = string_bytes c.write_ways.new.text in
    let new = string_bytes c.write_section_close.new.text in
    let words = words_text c.args.words.now in
    let ways = flat_map way_text c.args.rows.now in
    where_ok (new ≡ three ++ section_close) (new ≡ old ++ rest_text c.args.words.now c.args.rows.now) c.write_section_close.result
    (and_more old three new (words ++ picture_open ++ ways) section_close
    (and_more old two three (words ++ picture_open) ways
    (and_more old one two words picture_open c.in_ok-write_words.ensures c.in_ok-write_picture_open.ensures)
    c.in_ok-write_ways.ensures))
    c.write_section_close.ensures
