use Rattle.std.proofs.Common.{◌≡◌, ◌++◌, codes}
use Rattle.std.specs.String.{string_bytes}
use Rattle.show_drawings.proofs.MarkupWords.Pieces.{and_more, pushed, where_ok}
use Rattle.show_sections.specs.WireSections.Sections.{some_text}
use Rattle.show_sections.proofs.wire_sections.through.write_some.Goals as goal

pub returns : goal.returns
returns c =
    let old = string_bytes c.args.text.now in
    let one = string_bytes c.push_str.new.self in
    let two = string_bytes c.push_str-2.new.self in
    let new = string_bytes c.push_str-3.new.self in
    let front = codes "<p>The ways shown for these characters lead through it:</p>\n<div>" in
    let close = codes "</div>\n" in
    let links = c.args.links.now in
    where_ok (new ≡ two ++ close) (new ≡ old ++ some_text links) c.push_str-3.result
    (and_more old two new (front ++ links) close
    (and_more old one two front links c.in_ok-push_str.ensures.bytes c.in_ok-push_str-2.ensures.bytes))
    (pushed c.push_str-3.result new (two ++ close) two c.push_str-3.ensures.bytes)
