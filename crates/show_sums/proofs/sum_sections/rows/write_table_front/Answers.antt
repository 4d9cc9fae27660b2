use Rattle.std.proofs.Common.{◌≡◌, ◌∙◌, ap, List, ◌++◌, codes}
use Rattle.std.specs.List.{flat_map}
use Rattle.std.specs.String.{string_bytes}
use Rattle.explain_ledgers.specs.declared.ledgers.entry.Entry.{Entry}
use Rattle.show_drawings.proofs.MarkupWords.Pieces.{and_more, where_ok}
use Rattle.show_sums.specs.SumSections.Rows.{entry_row, table_front}
use Rattle.show_sums.proofs.sum_sections.rows.write_table_front.Goals as goal

pub returns : goal.returns
unfolding table_front
returns c =
    let old = string_bytes c.args.text.now in
    let one = string_bytes c.push_str.new.self in
    let new = string_bytes c.write_rows.new.text in
    let word = entry_row c.args.shown c.args.sums.now c.args.sum.now in
    where_ok (new ≡ one ++ flat_map word c.first.result.now) (new ≡ old ++ table_front c.args.shown c.args.sums.now c.args.sum.now)
    c.write_rows.result
    (λ written. and_more old one new (codes "<table class=\"sum\">\n") (flat_map word c.args.sum.now.ledger.first)
    c.in_ok-push_str.ensures.bytes (written ∙ ap (λ (l : List Entry). one ++ flat_map word l) c.first.ensures))
    c.write_rows.ensures
