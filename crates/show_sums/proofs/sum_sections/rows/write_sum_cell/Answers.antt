use Rattle.std.proofs.Common.{◌≡◌, ◌∙◌, ap, ℕ, List, ◌++◌, codes}
use Rattle.std.specs.String.{string_bytes}
use Rattle.explain_ledgers.specs.LedgersWords.LedgerText.Entries.{sum_text}
use Rattle.show_drawings.specs.MarkupWords.Escapes.{escaped}
use Rattle.show_drawings.proofs.MarkupWords.Pieces.{pushed, where_ok}
use Rattle.show_sums.proofs.SumSections.Framed.{three}
use Rattle.show_sums.specs.SumSections.Rows.{sum_cell}
use Rattle.show_sums.proofs.sum_sections.rows.write_sum_cell.Goals as goal

pub returns : goal.returns
unfolding sum_cell
returns c =
    let old = string_bytes c.args.text.now in
    let one = string_bytes c.push_str.new.self in
    let two = string_bytes c.push_escaped.new.text in
    let new = string_bytes c.push_str-2.new.self in
    where_ok (new ≡ two ++ codes "</code></td></tr>\n") (new ≡ old ++ sum_cell c.args.positions c.args.entry.now) c.push_str-2.result
    (three old one two new (codes "</td><td><code>") (escaped (sum_text c.args.positions c.args.entry.now)) (codes "</code></td></tr>\n") c.in_ok-push_str.ensures.bytes
    (c.in_ok-push_escaped.ensures ∙ ap (λ (l : List ℕ). one ++ escaped l) (c.deref.ensures.value ∙ c.in_ok-words.ensures)))
    (pushed c.push_str-2.result new (two ++ codes "</code></td></tr>\n") two c.push_str-2.ensures.bytes)
