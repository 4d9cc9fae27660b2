use Rattle.std.proofs.Common.{length, ◌∙◌}
use Rattle.std.proofs.Math.Seq.{drop-length}
use Rattle.std.proofs.lemmas.List.{take_rest}
use Rattle.card_code.proofs.Pieces.{lines_of_none, lines_of_last}
use Rattle.card_code.proofs.lines.last_line.Goals as goal

pub returns-then-is_empty-clause-none : goal.returns-then-is_empty-clause-none
returns-then-is_empty-clause-none c =
    lines_of_none _ _ c.requires c.without_cr-line.ensures.line c.if-is_empty.ensures

pub returns-else-is_empty-clause-first : goal.returns-else-is_empty-clause-first
returns-else-is_empty-clause-first c =
    let text = c.args.text.now in
    lines_of_last _ _ _ c.requires c.without_cr-line.ensures.line c.if-is_empty.ensures
    (take_rest text (length text) ∙ drop-length text)
