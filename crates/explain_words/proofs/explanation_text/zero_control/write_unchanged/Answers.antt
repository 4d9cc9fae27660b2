use Rattle.std.proofs.Common.{◌≡◌, ◌∙◌, ap, ℕ, List, ◌++◌, codes}
use Rattle.std.specs.String.{string_bytes}
use Rattle.explain_words.specs.ExplanationText.Closing.{kept_words, unchanged_words}
use Rattle.explain_words.proofs.ExplanationText.Gains.{two_pieces, when_ok, where_ok}
use Rattle.explain_words.proofs.explanation_text.zero_control.write_unchanged.Goals as goal

pub returns : goal.returns
returns c =
    let old = string_bytes c.args.text.now in
    let one = string_bytes c.push_str.new.self in
    let new = string_bytes c.push_str-2.new.self in
    let words = kept_words c.args.character in
    where_ok (new ≡ one ++ c.kept_words.result.now) (new ≡ old ++ unchanged_words c.args.character) c.push_str-2.result
    (λ is. two_pieces old one new (codes " blanks only a zero, and this is none: ") words c.in_ok-push_str.ensures.bytes
    (is ∙ ap (λ (l : List ℕ). one ++ l) c.kept_words.ensures))
    (when_ok c.push_str-2.result new (one ++ c.kept_words.result.now) one c.push_str-2.ensures.bytes)
