use Rattle.std.proofs.Common.{◌+◌}
use Rattle.std.proofs.lemmas.List.{take_rest}
use Rattle.card_code.proofs.Pieces.{lines_at_first}
use Rattle.card_code.proofs.lines.next_line.Goals as goal

pub returns-in-Some-clause-first : goal.returns-in-Some-clause-first
returns-in-Some-clause-first c =
    let cut = c.in-Some.ensures in
    lines_at_first _ _ _ c.in-Some.end cut.within cut.found cut.before c.without_cr.ensures.line
    (take_rest c.args.text.now (c.in-Some.end + 1))
