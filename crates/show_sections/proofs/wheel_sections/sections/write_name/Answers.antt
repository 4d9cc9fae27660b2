use Rattle.std.proofs.Common.{◌≡◌, ◌++◌, codes}
use Rattle.std.specs.String.{string_bytes}
use Rattle.show_drawings.proofs.MarkupWords.Pieces.{and_more, pushed, where_ok}
use Rattle.show_sections.specs.ReportSheets.Sheets.{wheel_name}
use Rattle.show_sections.specs.WheelSections.Sections.{name_open}
use Rattle.show_sections.proofs.wheel_sections.sections.write_name.Goals as goal

pub returns : goal.returns
returns c =
    let old = string_bytes c.args.text.now in
    let one = string_bytes c.push_str.new.self in
    let two = string_bytes c.write_wheel_name.new.text in
    let new = string_bytes c.push_str-2.new.self in
    let name = wheel_name c.args.page c.args.line c.args.wheel in
    where_ok (new ≡ two ++ codes "\">") (new ≡ old ++ name_open c.args.page c.args.line c.args.wheel) c.push_str-2.result
    (and_more old two new (codes "<section id=\"" ++ name) (codes "\">")
    (and_more old one two (codes "<section id=\"") name c.in_ok-push_str.ensures.bytes c.in_ok-write_wheel_name.ensures))
    (pushed c.push_str-2.result new (two ++ codes "\">") two c.push_str-2.ensures.bytes)
