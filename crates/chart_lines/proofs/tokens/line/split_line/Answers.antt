use Rattle.std.proofs.Common.{sym}
use Rattle.chart_lines.proofs.TokensWords.Answered.{divided_by, not_divided_by}
use Rattle.chart_lines.proofs.TokensWords.Dividing.{led_by-all, led_by-no_token}
use Rattle.chart_lines.proofs.tokens.line.split_line.Goals as goal

pub returns : goal.returns
returns c =
    let same = led_by-all _ c.loop-rest.rest.now c.args.line.now (sym c.loop-rest-test.ensures) c.loop-rest.invariant.same in
    record { value = same; divided = divided_by c.args.line.now _ same; not_divided = tt }

pub returns-in_default-clause-not_divided : goal.returns-in_default-clause-not_divided
returns-in_default-clause-not_divided c =
    not_divided_by c.args.line.now
    (led_by-no_token _ c.loop-rest.rest.now c.args.line.now c.in_default.ensures.tokens
    c.loop-rest.invariant.same)
