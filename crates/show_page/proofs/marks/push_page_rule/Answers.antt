use Rattle.std.proofs.Common.{◌≡◌, ◌++◌, codes, decimal}
use Rattle.std.specs.String.{string_bytes}
use Rattle.show_drawings.proofs.MarkupWords.Pieces.{and_more, pushed, where_ok}
use Rattle.show_page.specs.Marks.{page_rule}
use Rattle.show_page.proofs.marks.push_page_rule.Goals as goal

pub returns : goal.returns
unfolding page_rule
returns c =
    let old = string_bytes c.args.text.now in
    let one = string_bytes c.push_between.new.text in
    let two = string_bytes c.push_number.new.text in
    let new = string_bytes c.push_str.new.self in
    let number = decimal c.args.page in
    let target = codes "body:has(>aside>:target[id^=p" ++ number ++ codes "l][id*=w]) #page" in
    let end = codes "{--lt:inherit;--lu:inherit;--wt:inherit;--wu:inherit}\n" in
    where_ok (new ≡ two ++ end) (new ≡ old ++ page_rule c.args.page) c.push_str.result
    (and_more old two new (target ++ number) end
    (and_more old one two target number c.in_ok-push_between.ensures c.in_ok-push_number.ensures.pushed))
    (pushed c.push_str.result new (two ++ end) two c.push_str.ensures.bytes)
