use Rattle.std.proofs.Common.{◌≡◌, ◌++◌, codes}
use Rattle.std.specs.String.{string_bytes}
use Rattle.show_drawings.proofs.MarkupWords.Pieces.{and_more, pushed, where_ok}
use Rattle.show_links.specs.Links.{row_name}
use Rattle.show_page.specs.CycleSteps.Steps.{back_text}
use Rattle.show_page.proofs.cycle_steps.steps.write_back.Goals as goal

pub returns : goal.returns
returns c =
    let old = string_bytes c.args.text.now in
    let one = string_bytes c.push_str.new.self in
    let two = string_bytes c.write_row_name.new.text in
    let new = string_bytes c.push_str-2.new.self in
    let before = codes "<a href=\"#" in
    let row = row_name c.args.page c.args.line in
    let behind = codes "\">back</a>\n" in
    where_ok (new ≡ two ++ behind) (new ≡ old ++ back_text c.args.page c.args.line) c.push_str-2.result
    (and_more old two new (before ++ row) behind
    (and_more old one two before row c.in_ok-push_str.ensures.bytes c.in_ok-write_row_name.ensures))
    (pushed c.push_str-2.result new (two ++ behind) two c.push_str-2.ensures.bytes)
