use Rattle.std.proofs.Common.{◌∙◌, ap, length, map}
use Rattle.std.proofs.lemmas.List.{length-map}
use Rattle.explain_ledgers.specs.LedgersWords.KeptLedgers.{CanTake, kept_after}
use Rattle.explain_ledgers.proofs.LedgersWords.Loops.{written-back}
use Rattle.std.proofs.lemmas.List.Elements.{All-same}
use Rattle.explain_ledgers.proofs.ledgers.kept.take_all.Goals as goal

pub take_each-requires-clause-can : goal.take_each-requires-clause-can
take_each-requires-clause-can c =
    All-same CanTake c.as_mut_slice.result.now c.args.kept.now.items c.as_mut_slice.ensures.value c.requires.can

pub returns : goal.returns
returns c =
    written-back c.args.kept.now.len c.take_each.new.kept c.args.kept.now.items
    (ap length c.in_ok-take_each.ensures
    ∙ length-map c.as_mut_slice.result.now (kept_after c.args.cycle c.args.card c.args.passed c.args.groups.now)
    ∙ c.as_mut_slice.ensures.len)
    ∙ c.in_ok-take_each.ensures
    ∙ ap (map (kept_after c.args.cycle c.args.card c.args.passed c.args.groups.now)) c.as_mut_slice.ensures.value
