use Rattle.std.proofs.Common.{◌≡◌, ◌++◌, codes}
use Rattle.std.specs.String.{string_bytes}
use Rattle.show_drawings.proofs.MarkupWords.Pieces.{and_more, pushed, where_ok}
use Rattle.show_drawings.specs.MarkupWords.Escapes.{escaped}
use Rattle.show_sections.specs.WheelSections.Words.{bracket_open}
use Rattle.show_sections.proofs.wheel_sections.words.write_bracket_open.Goals as goal

pub returns : goal.returns
unfolding bracket_open
returns c =
    let old = string_bytes c.args.text.now in
    let one = string_bytes c.push_str.new.self in
    let two = string_bytes c.push_escaped.new.text in
    let new = string_bytes c.push_str-2.new.self in
    let number = escaped c.args.number.now in
    where_ok (new ≡ two ++ codes "\">") (new ≡ old ++ bracket_open c.args.number.now) c.push_str-2.result
    (and_more old two new (codes "(<a href=\"#line" ++ number) (codes "\">")
    (and_more old one two (codes "(<a href=\"#line") number c.in_ok-push_str.ensures.bytes c.in_ok-push_escaped.ensures))
    (pushed c.push_str-2.result new (two ++ codes "\">") two c.push_str-2.ensures.bytes)
