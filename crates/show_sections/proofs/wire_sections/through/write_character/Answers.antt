use Rattle.std.proofs.Common.{◌≡◌, ◌++◌, [], ◌∷◌}
use Rattle.std.specs.Prelude.{codes}
use Rattle.std.specs.String.{string_bytes}
use Rattle.show_drawings.specs.MarkupWords.Escapes.{escaped}
use Rattle.show_drawings.proofs.MarkupWords.Pieces.{and_more, pushed, where_ok}
use Rattle.show_sections.specs.ReportSheets.Sheets.{link_text}
use Rattle.show_sections.specs.WireSections.Sections.{character_link, place_words}
use Rattle.show_sections.proofs.wire_sections.through.write_character.Goals as goal

pub returns : goal.returns
returns c =
    let t0 = string_bytes c.args.text.now in
    let t1 = string_bytes c.write_wheel_link.new.text in
    let t2 = string_bytes c.write_place.new.text in
    let t3 = string_bytes c.push_escaped.new.text in
    let t4 = string_bytes c.push_str.new.self in
    let link = link_text c.args.page c.args.line c.args.wheel in
    let place = place_words c.args.page c.args.line c.args.wheel in
    let character = escaped (c.args.character ∷ []) in
    let close = codes "</a>\n" in
    where_ok (t4 ≡ t3 ++ close) (t4 ≡ t0 ++ character_link c.args.page c.args.line c.args.wheel c.args.character) c.push_str.result
    (and_more t0 t3 t4 (link ++ place ++ character) close
    (and_more t0 t2 t3 (link ++ place) character
    (and_more t0 t1 t2 link place c.in_ok-write_wheel_link.ensures c.in_ok-write_place.ensures) c.in_ok-push_escaped.ensures))
    (pushed c.push_str.result t4 (t3 ++ close) t3 c.push_str.ensures.bytes)
