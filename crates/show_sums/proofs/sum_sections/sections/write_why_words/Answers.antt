use Rattle.std.proofs.Common.{◌≡◌, ◌++◌, codes}
use Rattle.std.specs.String.{string_bytes}
use Rattle.show_drawings.specs.MarkupWords.Escapes.{escaped}
use Rattle.show_drawings.proofs.MarkupWords.Pieces.{pushed, where_ok}
use Rattle.show_sums.proofs.SumSections.Framed.{three}
use Rattle.show_sums.specs.SumSections.Sections.{why_words}
use Rattle.show_sums.proofs.sum_sections.sections.write_why_words.Goals as goal

pub returns : goal.returns
unfolding why_words
returns c =
    let old = string_bytes c.args.text.now in
    let one = string_bytes c.push_str.new.self in
    let two = string_bytes c.push_escaped.new.text in
    let new = string_bytes c.push_str-2.new.self in
    where_ok (new ≡ two ++ codes "</pre>\n") (new ≡ old ++ why_words c.args.why.now) c.push_str-2.result
    (three old one two new (codes "<p>Why it was printed then:</p>\n<pre>") (escaped c.args.why.now) (codes "</pre>\n") c.in_ok-push_str.ensures.bytes
    (c.in_ok-push_escaped.ensures))
    (pushed c.push_str-2.result new (two ++ codes "</pre>\n") two c.push_str-2.ensures.bytes)
