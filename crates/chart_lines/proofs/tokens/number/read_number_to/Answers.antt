use Rattle.chart_lines.proofs.TokensWords.Answered.{number_to_by, no_number_to_by}
use Rattle.chart_lines.proofs.tokens.number.read_number_to.Goals as goal

pub returns-clause-number : goal.returns-clause-number
returns-clause-number c = number_to_by c.args.greatest c.args.token.now _ c.read_digits_to.ensures

pub returns-clause-no_number : goal.returns-clause-no_number
returns-clause-no_number c = no_number_to_by c.args.greatest c.args.token.now _ c.read_digits_to.ensures
