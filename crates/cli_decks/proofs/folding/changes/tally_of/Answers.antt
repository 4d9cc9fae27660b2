use Rattle.std.proofs.Common.{◌≡◌, ◌+◌, ap, arith}
use Rattle.card_code.specs.Lines.{lines_of}
use Rattle.cli_decks.proofs.FoldingWords.Bounds.{count_of_lines_within}
use Rattle.cli_decks.specs.FoldingWords.Changes.{count_in, count_of}
use Rattle.cli_decks.proofs.folding.changes.tally_of.Goals as goal

pub overflow_add-tally : goal.overflow_add-tally
overflow_add-tally c =
    let kind = c.args.kind in
    let parts : count_of kind (lines_of c.loop-line.rest.now) ≡ count_in kind c.in-Some.line.now + count_of kind (lines_of c.in-Some.after.now) =
    ap (count_of kind) c.in-Some.ensures.first in
    let within = count_of_lines_within kind c.args.text.now in
    grind (arith, parts, within, c.loop-line.invariant.counted, c.count_in.ensures.counted, c.type_inv.text)
