use Rattle.chart_lines.proofs.TokensWords.Answered.{one_number}
use Rattle.chart_lines.proofs.TokensWords.TokenGrammar.{one_division}
use Rattle.chart_lines.proofs.tokens.laws.tokens_are_unambiguous.Goals as goal

pub returns : goal.returns
returns c = record { one_division = λ line one other has also. one_division has also; one_number = one_number }
