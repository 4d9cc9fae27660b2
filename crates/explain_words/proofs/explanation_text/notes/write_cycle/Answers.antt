use Rattle.std.proofs.Common.{◌≡◌, ◌∙◌, sym, ap, subst, ℕ, List, ◌++◌, codes}
use Rattle.std.specs.Prelude.{OnOk}
use Rattle.std.specs.String.{string_bytes}
use Rattle.net.specs.declared.cycle.Cycle.{Cycle}
use Rattle.explain_words.specs.ExplanationText.Notes.{cycle_words, ordinal_word}
use Rattle.explain_words.proofs.ExplanationText.Gains.{two_pieces, when_ok, where_ok}
use Rattle.explain_words.proofs.explanation_text.notes.write_cycle.Goals as goal

pub returns-in_ok-push_str-in-Head : goal.returns-in_ok-push_str-in-Head
returns-in_ok-push_str-in-Head c =
    let old = string_bytes c.args.text.now in
    let one = string_bytes c.push_str-in-Head.new.self in
    let new = string_bytes c.push_str-in-Head-2.new.self in
    let words = ordinal_word c.in-Head.heading in
    let result = c.push_str-in-Head-2.result in
    subst (λ (cycle : Cycle). OnOk result (new ≡ old ++ cycle_words cycle)) (sym c.in-Head.is)
    (where_ok (new ≡ one ++ codes " heading cycle") (new ≡ old ++ (words ++ codes " heading cycle")) result
    (two_pieces old one new words (codes " heading cycle")
    (c.in_ok-push_str-in-Head.ensures.bytes ∙ ap (λ (l : List ℕ). old ++ l) c.ordinal_word-in-Head.ensures))
    (when_ok result new (one ++ codes " heading cycle") one c.push_str-in-Head-2.ensures.bytes))
