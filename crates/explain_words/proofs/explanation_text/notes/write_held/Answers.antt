use Rattle.std.specs.String.{string_bytes}
use Rattle.explain_words.specs.ExplanationText.Notes.{digit_down}
use Rattle.explain_words.proofs.ExplanationText.Gains.{number_more}
use Rattle.explain_words.proofs.explanation_text.notes.write_held.Goals as goal

pub loop-down-preserved : goal.loop-down-preserved
loop-down-preserved c =
    number_more (digit_down c.args.points.now c.args.group) (string_bytes c.args.text.now) (string_bytes c.loop-down.text)
    (string_bytes c.write_digit.new.text) c.loop-down.down c.loop-down.invariant c.in_ok-write_digit.ensures
