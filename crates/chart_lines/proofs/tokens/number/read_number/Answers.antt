use Rattle.chart_lines.proofs.TokensWords.Answered.{number_by, no_number_by}
use Rattle.chart_lines.proofs.tokens.number.read_number.Goals as goal

pub returns-clause-number : goal.returns-clause-number
returns-clause-number c = number_by c.args.token.now _ c.read_digits.ensures.value

pub returns-clause-no_number : goal.returns-clause-no_number
returns-clause-no_number c = no_number_by c.args.token.now _ c.read_digits.ensures.value
