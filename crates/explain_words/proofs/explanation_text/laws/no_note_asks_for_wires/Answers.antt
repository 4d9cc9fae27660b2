use Rattle.explain_words.proofs.ExplanationText.NoNotes.{no_note}
use Rattle.explain_words.proofs.explanation_text.laws.no_note_asks_for_wires.Goals as goal

pub returns : goal.returns
returns c = no_note
