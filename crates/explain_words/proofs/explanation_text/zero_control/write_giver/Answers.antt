use Rattle.std.proofs.Common.{◌≡◌, refl, ◌++◌, codes, decimal}
use Rattle.std.specs.String.{string_bytes}
use Rattle.explain_words.specs.ExplanationText.Closing.{giver_words, links_words}
use Rattle.explain_words.proofs.ExplanationText.Gains.{two_pieces, when_ok, where_ok}
use Rattle.explain_words.proofs.explanation_text.zero_control.write_giver.Goals as goal

pub returns : goal.returns
returns c =
    let old = string_bytes c.args.text.now in
    let one = string_bytes c.push_numbered.new.text in
    let two = string_bytes c.push_numbered-2.new.text in
    let three = string_bytes c.write_links.new.text in
    let new = string_bytes c.push_str.new.self in
    let giver = c.args.giver in
    let wheel = decimal giver.wheel in
    let figure = decimal giver.figure in
    let links = links_words giver.wheel c.args.wheel in
    let front = codes "; wheel " in
    let mid = codes " received one figure, " in
    let first = two_pieces old (old ++ front) one front wheel refl c.in_ok-push_numbered.ensures in
    let second = two_pieces old one (one ++ mid) (front ++ wheel) mid first refl in
    let third = two_pieces old (one ++ mid) two (front ++ wheel ++ mid) figure second c.in_ok-push_numbered-2.ensures in
    let fourth = two_pieces old two three (front ++ wheel ++ mid ++ figure) links third c.in_ok-write_links.ensures in
    where_ok (new ≡ three ++ codes ": so ") (new ≡ old ++ giver_words giver c.args.wheel) c.push_str.result
    (two_pieces old three new (front ++ wheel ++ mid ++ figure ++ links) (codes ": so ") fourth)
    (when_ok c.push_str.result new (three ++ codes ": so ") three c.push_str.ensures.bytes)
