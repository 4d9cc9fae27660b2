use Rattle.std.proofs.Common.{◌≡◌, ◌++◌, subst, ℕ, List}
use Rattle.std.specs.String.{string_bytes}
use Rattle.show_sums.specs.CardSections.Sections.{sections_text}
use Rattle.show_drawings.proofs.MarkupWords.Pieces.{where_ok}
use Rattle.show_page.specs.Frame.{document_close}
use Rattle.show_page.specs.Helper.{GainsBody}
use Rattle.show_page.proofs.Parts.{body_whole}
use Rattle.show_page.proofs.show.write_body.Goals as goal

pub returns : goal.returns
returns c =
    let old = string_bytes c.args.text.now in
    let one = string_bytes c.write_drawing.new.text in
    let two = string_bytes c.push_str.new.self in
    let three = string_bytes c.write_stage_open.new.text in
    let four = string_bytes c.write_begin.new.text in
    let five = string_bytes c.write_told_sections.new.text in
    let six = string_bytes c.write_sum_sections.new.text in
    let seven = string_bytes c.write_card_sections.new.text in
    let eight = string_bytes c.write_wire_sections.new.text in
    let nine = string_bytes c.write_shown_cycles.new.text in
    let ten = string_bytes c.write_step_links.new.text in
    let eleven = string_bytes c.write_step_sections.new.text in
    let new = string_bytes c.write_document_close.new.text in
    let totals = c.args.totals.now in
    let told = c.args.told.now in
    let sums = c.args.sums.now in
    let places = c.args.places.now in
    let chart = c.args.chart.now in
    let cards = c.args.cards.now in
    let part = c.args.part.now in
    let setup = c.args.setup.now in
    let found = c.args.found.now in
    where_ok (new ≡ eleven ++ document_close)
    (GainsBody setup found chart c.args.run cards part c.args.wires.now c.args.legend.now totals told sums places old new)
    c.write_document_close.result
    (body_whole setup found chart c.args.run cards part c.args.wires.now totals told sums places c.args.legend.now old one two three four
    five six seven eight nine ten eleven new c.in_ok-write_drawing.ensures c.in_ok-push_str.ensures.bytes c.in_ok-write_stage_open.ensures
    c.in_ok-write_begin.ensures c.in_ok-write_told_sections.ensures c.in_ok-write_sum_sections.ensures (subst (λ (t : List ℕ). seven ≡ six ++ sections_text chart c.args.run t sums cards) c.deref.ensures.value
    c.in_ok-write_card_sections.ensures)
    c.in_ok-write_wire_sections.ensures c.in_ok-write_shown_cycles.ensures c.in_ok-write_step_links.ensures
    c.in_ok-write_step_sections.ensures)
    c.write_document_close.ensures
