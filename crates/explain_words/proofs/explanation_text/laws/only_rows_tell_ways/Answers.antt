use Rattle.explain_words.proofs.ExplanationText.OnlyWays.{only_rows}
use Rattle.explain_words.proofs.explanation_text.laws.only_rows_tell_ways.Goals as goal

pub returns : goal.returns
returns c = only_rows
