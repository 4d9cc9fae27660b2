use Rattle.std.proofs.Common.{◌≡◌, ◌∙◌, ap, ℕ, List, ◌++◌, codes}
use Rattle.std.specs.String.{string_bytes}
use Rattle.explain_ledgers.specs.LedgersWords.LedgerText.Entries.{gap_line}
use Rattle.show_drawings.specs.MarkupWords.Escapes.{escaped}
use Rattle.show_drawings.proofs.MarkupWords.Pieces.{pushed, where_ok}
use Rattle.show_sums.proofs.SumSections.Framed.{three}
use Rattle.explain_wheel_ledgers.specs.ToldLedgers.{words_told}
use Rattle.show_sums.specs.SumSections.Rows.{gap_row}
use Rattle.show_sums.proofs.sum_sections.rows.write_gap_row.Goals as goal

pub returns : goal.returns
unfolding gap_row
returns c =
    let old = string_bytes c.args.text.now in
    let one = string_bytes c.push_str.new.self in
    let two = string_bytes c.push_escaped.new.text in
    let new = string_bytes c.push_str-2.new.self in
    where_ok (new ≡ two ++ codes "</td></tr>\n") (new ≡ old ++ gap_row c.args.total.now c.args.left_out) c.push_str-2.result
    (three old one two new (codes "<tr><td colspan=\"3\">") (escaped (gap_line (words_told c.args.total.now) c.args.left_out)) (codes "</td></tr>\n") c.in_ok-push_str.ensures.bytes
    (c.in_ok-push_escaped.ensures ∙ ap (λ (l : List ℕ). one ++ escaped l) (c.deref.ensures.value ∙ c.in_ok-words.ensures)))
    (pushed c.push_str-2.result new (two ++ codes "</td></tr>\n") two c.push_str-2.ensures.bytes)
