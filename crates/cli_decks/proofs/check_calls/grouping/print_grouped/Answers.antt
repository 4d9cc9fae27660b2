use Rattle.std.proofs.Common.{refl}
use Rattle.std.proofs.lemmas.Result.{err_from_is_err_and}
use Rattle.cli_decks.proofs.CheckCalls.Grouped.{all_printed, chart_ends, listing_ends, reading_ends}
use Rattle.fault_lines.proofs.ProgramIo.Refusing.{read_is_known}
use Rattle.cli_decks.proofs.check_calls.grouping.print_grouped.Goals as goal

pub returns-in_err-compiled-clause-stops : goal.returns-in_err-compiled-clause-stops
returns-in_err-compiled-clause-stops g c =
    let exit = err_from_is_err_and c.from_residual.result c.from_residual.ensures.1 in
    rw exit.1
    (chart_ends c.args.chart.now (g.R.Read.remaining c.args.deck) _ _ _ _ c.in_err-compiled.field-0.0 exit.0 c.in_err-compiled.ensures.refused
    exit.2 refl)

pub returns-in_err-bytes-clause-stops : goal.returns-in_err-bytes-clause-stops
returns-in_err-bytes-clause-stops g c =
    let exit = err_from_is_err_and c.from_residual-in_err-bytes.result c.from_residual-in_err-bytes.ensures.1 in
    rw exit.1
    (reading_ends c.args.chart.now (g.R.Read.remaining c.args.deck) _ _ _ _ c.in_ok-compiled.compiled c.in_err-bytes.field-0.0 exit.0
    (record { read = c.in_ok-compiled.ensures.read; wired = c.in_ok-compiled.ensures.compiled }) c.in_err-bytes.ensures.told exit.2 refl)

pub returns-clause-fine : goal.returns-clause-fine
returns-clause-fine g c =
    all_printed c.args.chart.now (g.R.Read.remaining c.args.deck) _ _ c.in_ok-compiled.compiled _ c.as_slice.result.now
    (record { read = c.in_ok-compiled.ensures.read; wired = c.in_ok-compiled.ensures.compiled }) c.chart.ensures.value
    (read_is_known (g.R.Read.remaining c.args.deck) c.as_slice.result.now c.in_ok-bytes.bytes.items c.as_slice.ensures.value
    c.in_ok-bytes.ensures.whole) c.list_grouped.result c.list_grouped.ensures.fine

pub returns-clause-stops : goal.returns-clause-stops
returns-clause-stops g c =
    listing_ends c.args.chart.now (g.R.Read.remaining c.args.deck) _ _ c.in_ok-compiled.compiled _ c.as_slice.result.now
    (record { read = c.in_ok-compiled.ensures.read; wired = c.in_ok-compiled.ensures.compiled }) c.chart.ensures.value
    (read_is_known (g.R.Read.remaining c.args.deck) c.as_slice.result.now c.in_ok-bytes.bytes.items c.as_slice.ensures.value
    c.in_ok-bytes.ensures.whole) _ _ c.list_grouped.result c.list_grouped.ensures.ends
