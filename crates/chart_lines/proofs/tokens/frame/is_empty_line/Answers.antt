use Rattle.chart_lines.proofs.TokensWords.FirstWord.{empty_by}
use Rattle.chart_lines.proofs.tokens.frame.is_empty_line.Goals as goal

pub returns : goal.returns
returns c = rw c.is_empty.ensures (empty_by c.args.line.now _ c.without_spaces.ensures.tokens c.without_spaces.ensures.first)
