use Rattle.std.proofs.Common.{◌≡◌, ◌∙◌, ap, ℕ, List, ◌++◌, codes}
use Rattle.std.specs.String.{string_bytes}
use Rattle.show_drawings.proofs.MarkupWords.Pieces.{pushed, where_ok}
use Rattle.show_sums.proofs.SumSections.Framed.{three}
use Rattle.show_sums.specs.SumSections.Into.{higher_sums}
use Rattle.show_sums.specs.SumSections.Sections.{behind_text, why_text}
use Rattle.show_sums.proofs.sum_sections.sections.write_behind.Goals as goal

pub returns : goal.returns
unfolding behind_text
returns c =
    let old = string_bytes c.args.text.now in
    let one = string_bytes c.write_higher_sums.new.text in
    let two = string_bytes c.write_why.new.text in
    let new = string_bytes c.push_str.new.self in
    where_ok (new ≡ two ++ codes "</section>\n") (new ≡ old ++ behind_text c.args.shown c.args.sums.now c.args.sum.now) c.push_str.result
    (three old one two new (higher_sums c.args.sums.now c.args.sum.now) (why_text c.args.shown c.args.sum.now.found.card c.args.sum.now.why.items) (codes "</section>\n") c.in_ok-write_higher_sums.ensures
    (c.in_ok-write_why.ensures ∙ ap (λ (l : List ℕ). one ++ why_text c.args.shown c.args.sum.now.found.card l) c.deref.ensures.value))
    (pushed c.push_str.result new (two ++ codes "</section>\n") two c.push_str.ensures.bytes)
