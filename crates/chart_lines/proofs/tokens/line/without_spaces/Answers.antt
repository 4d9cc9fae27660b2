use Rattle.std.proofs.Common.{ap, ◌∙◌, drop}
use Rattle.chart_lines.specs.TokensWords.Dividing.{tokens_of}
use Rattle.chart_lines.proofs.TokensWords.Dividing.{tokens_of-spaces, no_space_after}
use Rattle.chart_lines.proofs.tokens.line.without_spaces.Goals as goal

pub returns-clause-tokens : goal.returns-clause-tokens
returns-clause-tokens c =
    let xs = c.args.line.now in
    ap tokens_of (c.split_at.ensures.back ∙ ap (λ n. drop n xs) c.spaces_before.ensures.value) ∙ tokens_of-spaces xs

pub returns-clause-first : goal.returns-clause-first
returns-clause-first c =
    no_space_after c.args.line.now _ _ c.spaces_before.ensures.value c.split_at.ensures.back
