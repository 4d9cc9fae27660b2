use Rattle.std.proofs.Common.{◌≡◌, ◌++◌, codes}
use Rattle.std.specs.String.{string_bytes}
use Rattle.show_drawings.proofs.MarkupWords.Pieces.{pushed, where_ok}
use Rattle.show_sums.proofs.SumSections.Framed.{three}
use Rattle.show_links.specs.Links.{row_name}
use Rattle.show_sums.specs.SumSections.Sections.{back_text}
use Rattle.show_sums.proofs.sum_sections.sections.write_back.Goals as goal

pub returns : goal.returns
unfolding back_text
returns c =
    let old = string_bytes c.args.text.now in
    let one = string_bytes c.push_str.new.self in
    let two = string_bytes c.write_row_name.new.text in
    let new = string_bytes c.push_str-2.new.self in
    where_ok (new ≡ two ++ codes "\">back</a>\n<h2>") (new ≡ old ++ back_text c.args.sum.now) c.push_str-2.result
    (three old one two new (codes "<a href=\"#") (row_name c.args.sum.now.at.page c.args.sum.now.at.line) (codes "\">back</a>\n<h2>") c.in_ok-push_str.ensures.bytes
    (c.in_ok-write_row_name.ensures))
    (pushed c.push_str-2.result new (two ++ codes "\">back</a>\n<h2>") two c.push_str-2.ensures.bytes)
