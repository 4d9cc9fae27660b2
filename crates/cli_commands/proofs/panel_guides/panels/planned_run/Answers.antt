use Rattle.std.proofs.Common.{subst, sym}
use Rattle.std.proofs.lemmas.Result.{err_from_is_err_and}
use Rattle.card_code.specs.Deck.{Deck}
use Rattle.cli_commands.proofs.CommandsWords.Refusing.{cards_refused, chart_refused}
use Rattle.cli_commands.specs.CommandsWords.Refusals.{chart, punches}
use Rattle.compile407.specs.Runnable.{IsRunnable}
use Rattle.fault_lines.proofs.ProgramIo.Refusing.{deck_refused}
use Rattle.cli_commands.proofs.panel_guides.panels.planned_run.Goals as goal

pub returns-in_err-compiled-clause-refused : goal.returns-in_err-compiled-clause-refused
returns-in_err-compiled-clause-refused c =
    let exit = err_from_is_err_and c.from_residual.result c.from_residual.ensures.1 in
    rw exit.1 (λ not_memory. chart
    (chart_refused c.args.chart.now c.in_err-compiled.field-0.0 exit.0 c.in_err-compiled.ensures.refused exit.2 not_memory))

pub returns-in_err-cards-clause-refused : goal.returns-in_err-cards-clause-refused
returns-in_err-cards-clause-refused c =
    let exit = err_from_is_err_and c.from_residual-in_err-cards.result c.from_residual-in_err-cards.ensures.1 in
    rw exit.1 (λ not_memory. punches c.in_ok-compiled.compiled
    (record { read = c.in_ok-compiled.ensures.read; wired = c.in_ok-compiled.ensures.compiled })
    (deck_refused c.args.deck.now c.in_err-cards.field-0.0 exit.0 c.in_err-cards.ensures.fault exit.2 not_memory))

pub returns-in_err-check_run-clause-refused : goal.returns-in_err-check_run-clause-refused
returns-in_err-check_run-clause-refused c =
    let exit = err_from_is_err_and c.from_residual-in_err-check_run.result c.from_residual-in_err-check_run.ensures.1 in
    rw exit.1 (λ not_memory.
    cards_refused c.args.chart.now c.args.deck.now c.in_ok-compiled.compiled c.as_slice.result.now c.in_err-check_run.field-0.0 exit.0
    (record { read = c.in_ok-compiled.ensures.read; wired = c.in_ok-compiled.ensures.compiled })
    (subst (Deck c.args.deck.now) (sym c.as_slice.ensures.value) c.in_ok-cards.ensures.deck) (λ _. c.in_err-check_run.ensures.refused) exit.2 not_memory)

pub returns-clause-compiles : goal.returns-clause-compiles
returns-clause-compiles c = record { read = c.in_ok-compiled.ensures.read; wired = c.in_ok-compiled.ensures.compiled }

pub returns-clause-runnable : goal.returns-clause-runnable
returns-clause-runnable c =
    subst (IsRunnable c.in_ok-compiled.compiled.chart) c.as_slice.ensures.value c.in_ok-check_run.ensures.served
