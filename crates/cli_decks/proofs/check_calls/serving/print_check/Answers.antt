use Rattle.std.proofs.Common.{refl}
use Rattle.std.proofs.lemmas.Result.{err_from_is_err_and}
use Rattle.cli_decks.proofs.CheckCalls.Checked.{chart_stops, deck_stops, prints_ok}
use Rattle.cli_decks.proofs.check_calls.serving.print_check.Goals as goal

pub returns-in_err-compiled-clause-stops : goal.returns-in_err-compiled-clause-stops
returns-in_err-compiled-clause-stops g c =
    let exit = err_from_is_err_and c.from_residual.result c.from_residual.ensures.1 in
    rw exit.1
    (chart_stops c.args.chart.now (g.R.Read.remaining c.args.deck) _ _ c.in_err-compiled.field-0.0 exit.0 _ c.in_err-compiled.ensures.refused
    exit.2 refl)

pub returns-clause-fine : goal.returns-clause-fine
returns-clause-fine g c =
    prints_ok c.args.chart.now (g.R.Read.remaining c.args.deck) _ _ c.in_ok-compiled.compiled _ c.chart.ensures.value
    (record { read = c.in_ok-compiled.ensures.read; wired = c.in_ok-compiled.ensures.compiled }) c.check_cards.result c.check_cards.ensures.fine

pub returns-clause-stops : goal.returns-clause-stops
returns-clause-stops g c =
    deck_stops c.args.chart.now (g.R.Read.remaining c.args.deck) _ _ c.in_ok-compiled.compiled _ c.chart.ensures.value
    (record { read = c.in_ok-compiled.ensures.read; wired = c.in_ok-compiled.ensures.compiled }) c.check_cards.result _ c.check_cards.ensures.ends
