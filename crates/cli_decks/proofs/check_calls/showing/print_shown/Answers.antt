use Rattle.std.proofs.Common.{List, Option, refl, subst, sym, ℕ}
use Rattle.std.proofs.lemmas.Result.{err_from_is_err_and}
use Rattle.cli_decks.proofs.CheckCalls.Shown.{cards_stop, chart_stops, output_stops, reading_stops, shown_ok, shown_stops}
use Rattle.cli_decks.specs.CheckCalls.DeckChecks.Shown.{IsShown}
use Rattle.fault_lines.specs.declared.faults.fault.Fault.{Fault}
use Rattle.fault_lines.proofs.ProgramIo.Refusing.{read_is_known}
use Rattle.cli_decks.proofs.check_calls.showing.print_shown.Goals as goal

pub returns-in_err-compiled-clause-stops : goal.returns-in_err-compiled-clause-stops
returns-in_err-compiled-clause-stops g c =
    let exit = err_from_is_err_and c.from_residual.result c.from_residual.ensures.1 in
    rw exit.1
    (chart_stops c.args.chart.now (g.R.Read.remaining c.args.deck) _ _ _ _ c.in_err-compiled.field-0.0 exit.0 c.in_err-compiled.ensures.refused
    exit.2 refl)

pub returns-in_err-bytes-clause-stops : goal.returns-in_err-bytes-clause-stops
returns-in_err-bytes-clause-stops g c =
    let exit = err_from_is_err_and c.from_residual-in_err-bytes.result c.from_residual-in_err-bytes.ensures.1 in
    rw exit.1
    (reading_stops c.args.chart.now (g.R.Read.remaining c.args.deck) _ _ _ _ c.in_ok-compiled.compiled c.in_err-bytes.field-0.0 exit.0
    (record { read = c.in_ok-compiled.ensures.read; wired = c.in_ok-compiled.ensures.compiled }) c.in_err-bytes.ensures.told exit.2 refl)

pub returns-in_err-shown-clause-stops : goal.returns-in_err-shown-clause-stops
returns-in_err-shown-clause-stops g c =
    let exit = err_from_is_err_and c.from_residual-in_err-shown.result c.from_residual-in_err-shown.ensures.1 in
    rw exit.1
    (cards_stop c.args.chart.now (g.R.Read.remaining c.args.deck) _ _ _ _ c.in_ok-compiled.compiled c.as_slice-cards.result.now
    c.in_err-shown.field-0.0 exit.0
    (record { read = c.in_ok-compiled.ensures.read; wired = c.in_ok-compiled.ensures.compiled })
    (read_is_known (g.R.Read.remaining c.args.deck) c.as_slice-cards.result.now c.in_ok-bytes.bytes.items c.as_slice-cards.ensures.value
    c.in_ok-bytes.ensures.whole) c.in_err-shown.ensures.told exit.2 refl)

pub returns-in_err-put-clause-stops : goal.returns-in_err-put-clause-stops
returns-in_err-put-clause-stops g c =
    let exit = err_from_is_err_and c.from_residual-in_err-put.result c.from_residual-in_err-put.ensures.1 in
    rw exit.1
    (output_stops c.args.chart.now (g.R.Read.remaining c.args.deck) _ _ _ _ c.in_err-put.field-0.0 exit.0 c.in_err-put.ensures.told exit.2)

pub returns-in-None-clause-fine : goal.returns-in-None-clause-fine
returns-in-None-clause-fine g c =
    shown_ok c.args.chart.now (g.R.Read.remaining c.args.deck) _ _ c.in_ok-compiled.compiled _ c.as_slice-cards.result.now c.as_slice.result.now
    (record { read = c.in_ok-compiled.ensures.read; wired = c.in_ok-compiled.ensures.compiled }) c.chart-chart.ensures.value
    (read_is_known (g.R.Read.remaining c.args.deck) c.as_slice-cards.result.now c.in_ok-bytes.bytes.items c.as_slice-cards.ensures.value
    c.in_ok-bytes.ensures.whole)
    (subst (λ (its : Option Fault). IsShown c.chart-chart.result.now c.as_slice-cards.result.now its c.as_slice.result.now) c.in-None.is
    (subst (λ (t : List ℕ). IsShown c.chart-chart.result.now c.as_slice-cards.result.now c.in_ok-shown.shown.first t) (sym c.as_slice.ensures.value)
    c.in_ok-shown.ensures.shown)) c.in_ok-put.ensures.written

pub returns-in_err-put_large-in-Some-clause-stops : goal.returns-in_err-put_large-in-Some-clause-stops
returns-in_err-put_large-in-Some-clause-stops g c =
    let exit = err_from_is_err_and c.from_residual-in_err-put_large-in-Some.result c.from_residual-in_err-put_large-in-Some.ensures.1 in
    rw exit.1
    (output_stops c.args.chart.now (g.R.Read.remaining c.args.deck) _ _ _ _ c.in_err-put_large-in-Some.field-0.0 exit.0 c.in_err-put_large-in-Some.ensures.told
    exit.2)

pub returns-clause-stops : goal.returns-clause-stops
returns-clause-stops g c =
    shown_stops c.args.chart.now (g.R.Read.remaining c.args.deck) _ _ _ _ c.in_ok-compiled.compiled _ c.as_slice-cards.result.now c.as_slice.result.now
    c.in-Some.fault _
    (record { read = c.in_ok-compiled.ensures.read; wired = c.in_ok-compiled.ensures.compiled }) c.chart-chart.ensures.value
    (read_is_known (g.R.Read.remaining c.args.deck) c.as_slice-cards.result.now c.in_ok-bytes.bytes.items c.as_slice-cards.ensures.value
    c.in_ok-bytes.ensures.whole)
    (subst (λ (its : Option Fault). IsShown c.chart-chart.result.now c.as_slice-cards.result.now its c.as_slice.result.now) c.in-Some.is
    (subst (λ (t : List ℕ). IsShown c.chart-chart.result.now c.as_slice-cards.result.now c.in_ok-shown.shown.first t) (sym c.as_slice.ensures.value)
    c.in_ok-shown.ensures.shown)) c.in_ok-put.ensures.written c.in_ok-put_large-in-Some.ensures.written
