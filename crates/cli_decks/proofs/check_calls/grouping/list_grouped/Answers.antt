use Rattle.std.proofs.Common.{◌∙◌}
use Rattle.std.proofs.lemmas.Result.{err_from_is_err_and}
use Rattle.cli_decks.proofs.CheckCalls.Grouped.{check_ends, grouped_broken, grouped_unbegun}
use Rattle.cli_decks.proofs.check_calls.grouping.list_grouped.Goals as goal

pub returns-in_err-check_cards-clause-ends : goal.returns-in_err-check_cards-clause-ends
returns-in_err-check_cards-clause-ends g c =
    let exit = err_from_is_err_and c.from_residual.result c.from_residual.ensures.1 in
    rw exit.1
    (check_ends c.args.chart.now c.args.deck.now _ _ c.in_err-check_cards.field-0.0 exit.0 c.in_err-check_cards.ensures.ends exit.2)

pub returns-in_err-text-clause-ends : goal.returns-in_err-text-clause-ends
returns-in_err-text-clause-ends g c =
    let exit = err_from_is_err_and c.from_residual-in_err-text.result c.from_residual-in_err-text.ensures.1 in
    rw (exit.1, exit.2)
    (grouped_unbegun c.args.chart.now c.args.deck.now (g.W.Write.contents c.args.out.now) _ c.in_ok-check_cards.ensures.fine
    c.in_err-text.field-0.0 c.in_err-text.ensures.told)

pub returns-clause-ends : goal.returns-clause-ends
returns-clause-ends g c =
    grouped_broken c.args.chart.now c.args.deck.now (g.W.Write.contents c.args.out.now) _ c.in_ok-check_cards.ensures.fine _
    c.as_slice.result.now c.put.result (λ cards deck. c.as_slice.ensures.value ∙ c.in_ok-text.ensures.returns cards deck) c.put.ensures.broken
