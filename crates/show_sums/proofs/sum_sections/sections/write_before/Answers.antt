use Rattle.std.proofs.Common.{◌≡◌, ◌∙◌, ap, ℕ, List, ◌++◌, codes}
use Rattle.std.specs.String.{string_bytes}
use Rattle.explain_ledgers.specs.LedgersWords.LedgerText.Names.{cycle_text}
use Rattle.show_drawings.specs.MarkupWords.Escapes.{escaped}
use Rattle.show_drawings.proofs.MarkupWords.Pieces.{pushed, where_ok}
use Rattle.show_sums.proofs.SumSections.Framed.{five}
use Rattle.show_sums.specs.SumSections.Sections.{before_text}
use Rattle.show_sums.proofs.sum_sections.sections.write_before.Goals as goal

pub returns : goal.returns
unfolding before_text
returns c =
    let old = string_bytes c.args.text.now in
    let one = string_bytes c.push_str.new.self in
    let two = string_bytes c.push_escaped.new.text in
    let three = string_bytes c.push_str-2.new.self in
    let four = string_bytes c.push_escaped-2.new.text in
    let new = string_bytes c.push_str-3.new.self in
    let groups = escaped c.args.sum.now.groups.items in
    let cycle = escaped (cycle_text c.args.sum.now.found.cycle c.args.sum.now.found.card) in
    where_ok (new ≡ four ++ codes ":</p>\n") (new ≡ old ++ before_text c.args.sum.now) c.push_str-3.result
    (five old one two three four new (codes "</h2>\n<p>Counter ") groups (codes " before ") cycle (codes ":</p>\n")
    c.in_ok-push_str.ensures.bytes
    (c.in_ok-push_escaped.ensures ∙ ap (λ (l : List ℕ). one ++ escaped l) c.deref.ensures.value)
    c.in_ok-push_str-2.ensures.bytes
    (c.in_ok-push_escaped-2.ensures ∙ ap (λ (l : List ℕ). three ++ escaped l) (c.deref-2.ensures.value ∙ c.in_ok-cycle.ensures)))
    (pushed c.push_str-3.result new (four ++ codes ":</p>\n") four c.push_str-3.ensures.bytes)
