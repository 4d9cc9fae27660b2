use Rattle.std.proofs.Common.{◌≡◌, ◌++◌}
use Rattle.std.specs.String.{string_bytes}
use Rattle.show_drawings.proofs.MarkupWords.Pieces.{and_more, where_ok}
use Rattle.show_page.specs.Frame.{document_open, header_open, style_open}
use Rattle.show_page.specs.Helper.{GainsHead}
use Rattle.show_page.specs.Marks.{page_rules}
use Rattle.show_page.specs.Titles.{counts_words, head_text, title_of}
use Rattle.show_page.proofs.MarkRules.{style_append}
use Rattle.show_page.proofs.head.write_head.Goals as goal

pub returns : goal.returns
unfolding head_text
returns c =
    let t0 = string_bytes c.args.text.now in
    let t1 = string_bytes c.write_document_open.new.text in
    let t2 = string_bytes c.write_title.new.text in
    let t3 = string_bytes c.write_style_open.new.text in
    let t4 = string_bytes c.write_style.new.text in
    let t5 = string_bytes c.write_marks.new.text in
    let t6 = string_bytes c.write_header_open.new.text in
    let t7 = string_bytes c.write_title-2.new.text in
    let t8 = string_bytes c.write_counts.new.text in
    let sheet = c.in_ok-write_style.ensures in
    let rules = page_rules c.args.lines.now in
    let style = sheet.text ++ rules in
    let title = title_of c.args.heading.now c.args.counts.cards in
    let counts = counts_words c.args.counts in
    where_ok (t8 ≡ t7 ++ counts) (GainsHead c.args.heading.now c.args.counts c.args.lines.now t0 t8) c.write_counts.result
    (λ last. record {
      style = sheet.text;
      is_style = style_append sheet.text rules sheet.is c.in_ok-write_marks.ensures.style;
      gained = and_more t0 t7 t8 (document_open ++ title ++ style_open ++ style ++ header_open ++ title) counts
          (and_more t0 t6 t7 (document_open ++ title ++ style_open ++ style ++ header_open) title
          (and_more t0 t5 t6 (document_open ++ title ++ style_open ++ style) header_open
          (and_more t0 t3 t5 (document_open ++ title ++ style_open) style
          (and_more t0 t2 t3 (document_open ++ title) style_open
          (and_more t0 t1 t2 document_open title c.in_ok-write_document_open.ensures c.in_ok-write_title.ensures)
          c.in_ok-write_style_open.ensures)
          (and_more t3 t4 t5 sheet.text rules sheet.gained c.in_ok-write_marks.ensures.rules))
          c.in_ok-write_header_open.ensures) c.in_ok-write_title-2.ensures) last;
    })
    c.write_counts.ensures
