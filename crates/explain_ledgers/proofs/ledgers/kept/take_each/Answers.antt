use Rattle.std.proofs.Common.{◌∙◌, sym, ap, set}
use Rattle.std.proofs.lemmas.List.Edits.{map_over_more}
use Rattle.explain_ledgers.specs.LedgersWords.KeptLedgers.{CanTake, kept_after}
use Rattle.explain_ledgers.proofs.LedgersWords.Loops.{still}
use Rattle.explain_ledgers.proofs.ledgers.kept.take_each.Goals as goal

pub take-requires-clause-can : goal.take-requires-clause-can
take-requires-clause-can c =
    still CanTake (kept_after c.args.cycle c.args.card c.args.passed c.args.groups.now) c.args.kept.now c.loop-one.kept
    c.loop-one.one-index c.one-item.result c.loop-one-test.true c.loop-one.invariant c.requires.can

pub loop-one-preserved : goal.loop-one-preserved
loop-one-preserved c =
    ap (set c.loop-one.kept c.loop-one.one-index)
    (c.in_ok-take.ensures ∙ ap (kept_after c.args.cycle c.args.card c.args.passed c.args.groups.now) (sym c.one-item.is))
    ∙ map_over_more (kept_after c.args.cycle c.args.card c.args.passed c.args.groups.now) c.args.kept.now c.loop-one.kept
    c.loop-one.one-index c.one-item.result
    c.loop-one-test.true
    c.loop-one.invariant
    c.one-item.is
