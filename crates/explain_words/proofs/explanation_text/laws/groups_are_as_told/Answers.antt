use Rattle.explain_words.proofs.ExplanationText.ReadOuts.{groups-told}
use Rattle.explain_words.proofs.explanation_text.laws.groups_are_as_told.Goals as goal

pub returns : goal.returns
returns c = groups-told
