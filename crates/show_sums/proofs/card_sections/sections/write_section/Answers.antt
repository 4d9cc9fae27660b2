use Rattle.std.proofs.Common.{◌≡◌, ◌++◌, codes}
use Rattle.std.specs.String.{string_bytes}
use Rattle.show_drawings.proofs.MarkupWords.Pieces.{and_more, pushed, where_ok}
use Rattle.show_sums.specs.CardSections.Fields.{card_fields}
use Rattle.show_sums.specs.CardSections.Sections.{section_front, section_text}
use Rattle.show_sums.proofs.card_sections.sections.write_section.Goals as goal

pub returns : goal.returns
unfolding section_text
returns c =
    let old = string_bytes c.args.text.now in
    let one = string_bytes c.write_section_front.new.text in
    let two = string_bytes c.write_card_fields.new.text in
    let new = string_bytes c.push_str.new.self in
    let lines = c.args.lines.now in
    let card = c.args.card.now in
    let front = section_front c.args.shown c.args.trace.now c.args.sums.now c.args.number in
    where_ok (new ≡ two ++ codes "</section>\n") (new ≡ old ++ section_text lines c.args.shown c.args.trace.now c.args.sums.now c.args.number card)
    c.push_str.result
    (and_more old two new (front ++ card_fields lines card) (codes "</section>\n")
    (and_more old one two front (card_fields lines card) c.in_ok-write_section_front.ensures c.in_ok-write_card_fields.ensures))
    (pushed c.push_str.result new (two ++ codes "</section>\n") two c.push_str.ensures.bytes)
