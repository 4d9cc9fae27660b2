use Rattle.std.proofs.Common.{◌≡◌, ◌++◌}
use Rattle.std.specs.String.{string_bytes}
use Rattle.explain_words.specs.ExplanationText.Text.{after_text, level_text, program_line, spaced_text}
use Rattle.explain_words.proofs.ExplanationText.Gains.{three_pieces, where_ok}
use Rattle.explain_words.proofs.explanation_text.lines.write_program_line.Goals as goal

pub returns : goal.returns
returns c =
    let old = string_bytes c.args.text.now in
    let one = string_bytes c.write_level.new.text in
    let two = string_bytes c.write_spaced.new.text in
    let new = string_bytes c.push_between.new.text in
    let level = c.args.level in
    let ordinal = c.args.ordinal in
    let cards = c.args.cards in
    where_ok (new ≡ two ++ after_text cards) (new ≡ old ++ program_line level ordinal cards) c.push_between.result
    (three_pieces old one two new (level_text level) (spaced_text ordinal) (after_text cards) c.in_ok-write_level.ensures
    c.in_ok-write_spaced.ensures)
    c.push_between.ensures
