use Rattle.std.proofs.Common.{None, Some, inr, refl}
use Rattle.std.proofs.lemmas.Result.{err_from_is_err_and}
use Rattle.std.specs.Prelude.{string_bytes}
use Rattle.cli_matching.proofs.ChartCalls.Finding.{counts_known}
use Rattle.cli_matching.proofs.ChartCalls.Telling.{output_stops, panels_stop}
use Rattle.cli_matching.specs.ChartCalls.ReadBack.{unread, unwired}
use Rattle.cli_matching.proofs.Written.{chart_written}
use Rattle.fault_lines.proofs.ProgramIo.Fronting.{front_of_bytes}
use Rattle.cli_matching.proofs.chart_calls.serving.print_chart.Goals as goal

pub returns-in_err-found-clause-stopped : goal.returns-in_err-found-clause-stopped
returns-in_err-found-clause-stopped g c =
    let exit = err_from_is_err_and c.from_residual.result c.from_residual.ensures.1 in
    rw exit.1 (panels_stop c.args.wiring.now _ _ _ c.in_err-found.field-0.0 exit.0 c.in_err-found.ensures.refused exit.2 refl)

pub returns-in_err-put-clause-stopped : goal.returns-in_err-put-clause-stopped
returns-in_err-put-clause-stopped g c =
    let exit = err_from_is_err_and c.from_residual-in_err-put.result c.from_residual-in_err-put.ensures.1 in
    rw exit.1 (output_stops c.args.wiring.now _ _ _ c.in_err-put.field-0.0 exit.0 c.in_err-put.ensures.told exit.2)

pub returns-in-None-clause-printed : goal.returns-in-None-clause-printed
returns-in-None-clause-printed g c = record {
  text = string_bytes c.in_ok-found.found.text;
  right = counts_known c.args.wiring.now _ c.in_ok-found.found.counts None c.in-None.is c.in_ok-found.ensures.found;
  written = rw (← c.as_bytes.ensures.value) c.in_ok-put.ensures.written;
}

pub returns-clause-stopped : goal.returns-clause-stopped
returns-clause-stopped g c =
    unread refl (unwired c.in-Some.counts refl
    (record {
      text = string_bytes c.in_ok-found.found.text;
      right = counts_known c.args.wiring.now _ c.in_ok-found.found.counts (Some c.in-Some.counts) c.in-Some.is c.in_ok-found.ensures.found;
      written = rw (← c.as_bytes.ensures.value) c.in_ok-put.ensures.written;
    }))

pub returns-in_err-put-clause-front : goal.returns-in_err-put-clause-front
returns-in_err-put-clause-front g c =
    inr (
      c.in_ok-found.found.counts,
      front_of_bytes c.as_bytes.result.now (λ after.
          chart_written c.args.wiring.now c.in_ok-found.found.counts (string_bytes c.in_ok-found.found.text) c.as_bytes.result.now _ after
          c.in_ok-found.ensures.found c.as_bytes.ensures.value) c.in_err-put.ensures.front,
    )

pub returns-in-None-clause-front : goal.returns-in-None-clause-front
returns-in-None-clause-front g c =
    inr (
      c.in_ok-found.found.counts,
      front_of_bytes c.as_bytes.result.now (λ after.
          chart_written c.args.wiring.now c.in_ok-found.found.counts (string_bytes c.in_ok-found.found.text) c.as_bytes.result.now _ after
          c.in_ok-found.ensures.found c.as_bytes.ensures.value) c.in_ok-put.ensures.front,
    )

pub returns-clause-front : goal.returns-clause-front
returns-clause-front g c =
    inr (
      c.in_ok-found.found.counts,
      front_of_bytes c.as_bytes.result.now (λ after.
          chart_written c.args.wiring.now c.in_ok-found.found.counts (string_bytes c.in_ok-found.found.text) c.as_bytes.result.now _ after
          c.in_ok-found.ensures.found c.as_bytes.ensures.value) c.in_ok-put.ensures.front,
    )
