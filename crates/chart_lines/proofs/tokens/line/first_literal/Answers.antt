use Rattle.std.proofs.Common.{arith, ap, ◌∙◌}
use Rattle.std.specs.List.{prefix_len}
use Rattle.std.proofs.lemmas.List.{take_rest}
use Rattle.chart_lines.specs.TokensWords.Tokens.{is_inside}
use Rattle.chart_lines.proofs.TokensWords.Dividing.{tokens_of-cut_literal, tokens_of-open}
use Rattle.chart_lines.proofs.tokens.line.first_literal.Goals as goal

pub returns-then-length-line-clause-tokens : goal.returns-then-length-line-clause-tokens
returns-then-length-line-clause-tokens c =
    let line = c.args.line.now in
    let counted = c.bytes_inside-length.ensures.value ∙ ap (prefix_len is_inside) (take_rest line 1) in
    tokens_of-open line _ c.requires.some c.requires.apostrophe counted (omega arith)

pub returns-then-is_apart-clause-tokens : goal.returns-then-is_apart-clause-tokens
returns-then-is_apart-clause-tokens c =
    let line = c.args.line.now in
    let counted = c.bytes_inside-length.ensures.value ∙ ap (prefix_len is_inside) (take_rest line 1) in
    tokens_of-cut_literal line _ _ _ _ c.requires.some c.requires.apostrophe counted
    (omega arith) c.split_at.ensures.front c.split_at.ensures.back c.if-is_apart.ensures

pub returns-else-is_apart-clause-tokens : goal.returns-else-is_apart-clause-tokens
returns-else-is_apart-clause-tokens c =
    let line = c.args.line.now in
    let counted = c.bytes_inside-length.ensures.value ∙ ap (prefix_len is_inside) (take_rest line 1) in
    tokens_of-cut_literal line _ _ _ _ c.requires.some c.requires.apostrophe counted
    (omega arith) c.split_at.ensures.front c.split_at.ensures.back c.if-is_apart.ensures
