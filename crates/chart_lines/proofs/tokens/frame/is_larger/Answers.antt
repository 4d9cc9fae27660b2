use Rattle.std.proofs.Common.{refl, sym}
use Rattle.chart_lines.proofs.TokensWords.TextFrame.{larger_by}
use Rattle.chart_lines.proofs.TokensWords.TextSize.{larger_here}
use Rattle.chart_lines.proofs.tokens.frame.is_larger.Goals as goal

pub returns-then-lines-most_lines : goal.returns-then-lines-most_lines
returns-then-lines-most_lines c =
    let large = larger_here c.args.most_lines c.args.most_bytes _ _ _ _ _ c.in-Some.ensures.first c.loop-line.invariant.1
    c.then-lines-most_lines.either in
    record { value = sym large; larger = (λ _. (larger_by c.args.most_lines c.args.most_bytes _).0 large, λ _. refl) }
