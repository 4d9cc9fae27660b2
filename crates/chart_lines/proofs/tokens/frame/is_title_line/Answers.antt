use Rattle.std.proofs.Common.{false, [], ◌∷◌}
use Rattle.chart_lines.proofs.TokensWords.TextFrame.{title_answered}
use Rattle.chart_lines.proofs.tokens.frame.is_title_line.Goals as goal

pub returns-in-Some-clause-value : goal.returns-in-Some-clause-value
returns-in-Some-clause-value c =
    let after = c.in-Some.ensures.first (c.args.version.now ∷ []) in
    let lone = c.is_lone_word.ensures in
    title_answered c.args.name.now c.args.version.now c.args.line.now c.is_lone_word.result
    (λ told. after.1 (lone.0 told), λ has. lone.1 (after.0 has))

pub returns-in-None-clause-value : goal.returns-in-None-clause-value
returns-in-None-clause-value c =
    title_answered c.args.name.now c.args.version.now c.args.line.now false
    (λ told. cc, λ has. absurd (c.in-None.ensures.other (c.args.version.now ∷ []) has))
