use Rattle.std.proofs.Common.{inr, refl}
use Rattle.std.proofs.lemmas.Result.{err_from_is_err_and}
use Rattle.std.specs.Prelude.{string_bytes}
use Rattle.cli_matching.proofs.Finding.{unwired_found, wired_found}
use Rattle.cli_matching.proofs.Telling.{memory_stops, output_stops, texts_stop}
use Rattle.cli_matching.specs.Matched.{unmatched, unwired}
use Rattle.cli_matching.proofs.Written.{found_written}
use Rattle.fault_lines.proofs.ProgramIo.Fronting.{front_of_bytes}
use Rattle.cli_matching.proofs.serving.print_match.Goals as goal

pub returns-in_err-panels-clause-stopped : goal.returns-in_err-panels-clause-stopped
returns-in_err-panels-clause-stopped g c =
    let exit = err_from_is_err_and c.from_residual.result c.from_residual.ensures.1 in
    rw exit.1 (texts_stop c.args.telling c.args.chart.now c.args.wiring.now _ _ _ c.in_err-panels.field-0.0 exit.0 c.in_err-panels.ensures.refused exit.2 refl)

pub returns-in_err-found-clause-stopped : goal.returns-in_err-found-clause-stopped
returns-in_err-found-clause-stopped g c =
    let exit = err_from_is_err_and c.from_residual-in_err-found.result c.from_residual-in_err-found.ensures.1 in
    rw exit.1 (memory_stops c.args.telling c.args.chart.now c.args.wiring.now _ _ _ c.in_err-found.field-0.0 exit.0 c.in_err-found.ensures.memory exit.2)

pub returns-in_err-put-clause-stopped : goal.returns-in_err-put-clause-stopped
returns-in_err-put-clause-stopped g c =
    let exit = err_from_is_err_and c.from_residual-in_err-put.result c.from_residual-in_err-put.ensures.1 in
    rw exit.1 (output_stops c.args.telling c.args.chart.now c.args.wiring.now _ _ _ c.in_err-put.field-0.0 exit.0 c.in_err-put.ensures.told exit.2)

pub returns-in-None-clause-printed : goal.returns-in-None-clause-printed
returns-in-None-clause-printed g c = record {
  compiled = c.in_ok-panels.panels.compiled;
  version = c.in_ok-panels.panels.version;
  setup = c.in_ok-panels.panels.setup;
  panels = c.in_ok-panels.ensures.are;
  text = string_bytes c.in_ok-found.found.text;
  right = wired_found c.args.telling c.args.wiring.now c.in_ok-panels.panels.version c.in_ok-panels.panels.compiled c.in_ok-panels.panels.setup c.in_ok-found.found.counts _ c.in-None.is
      c.in_ok-found.ensures.found;
  written = rw (← c.as_bytes.ensures.value) c.in_ok-put.ensures.written;
}

pub returns-clause-stopped : goal.returns-clause-stopped
returns-clause-stopped g c =
    unmatched refl (unwired c.in-Some.counts refl
    (record {
      compiled = c.in_ok-panels.panels.compiled;
      version = c.in_ok-panels.panels.version;
      setup = c.in_ok-panels.panels.setup;
      panels = c.in_ok-panels.ensures.are;
      text = string_bytes c.in_ok-found.found.text;
      right = unwired_found c.args.telling c.args.wiring.now c.in_ok-panels.panels.version c.in_ok-panels.panels.compiled c.in_ok-panels.panels.setup c.in_ok-found.found.counts c.in-Some.counts _
          c.in-Some.is c.in_ok-found.ensures.found;
      written = rw (← c.as_bytes.ensures.value) c.in_ok-put.ensures.written;
    }))

pub returns-in_err-put-clause-front : goal.returns-in_err-put-clause-front
returns-in_err-put-clause-front g c =
    inr (
      c.in_ok-found.found.counts,
      front_of_bytes c.as_bytes.result.now (λ after written.
          found_written c.args.chart.now c.args.wiring.now c.in_ok-panels.panels.version c.in_ok-panels.panels.compiled c.in_ok-panels.panels.setup
          c.in_ok-panels.ensures.are (string_bytes c.in_ok-found.found.text) c.as_bytes.result.now c.as_bytes.ensures.value _ after written
          c.args.telling c.in_ok-found.found.counts c.in_ok-found.ensures.found) c.in_err-put.ensures.front,
    )

pub returns-in-None-clause-front : goal.returns-in-None-clause-front
returns-in-None-clause-front g c =
    inr (
      c.in_ok-found.found.counts,
      front_of_bytes c.as_bytes.result.now (λ after written.
          found_written c.args.chart.now c.args.wiring.now c.in_ok-panels.panels.version c.in_ok-panels.panels.compiled c.in_ok-panels.panels.setup
          c.in_ok-panels.ensures.are (string_bytes c.in_ok-found.found.text) c.as_bytes.result.now c.as_bytes.ensures.value _ after written
          c.args.telling c.in_ok-found.found.counts c.in_ok-found.ensures.found) c.in_ok-put.ensures.front,
    )

pub returns-clause-front : goal.returns-clause-front
returns-clause-front g c =
    inr (
      c.in_ok-found.found.counts,
      front_of_bytes c.as_bytes.result.now (λ after written.
          found_written c.args.chart.now c.args.wiring.now c.in_ok-panels.panels.version c.in_ok-panels.panels.compiled c.in_ok-panels.panels.setup
          c.in_ok-panels.ensures.are (string_bytes c.in_ok-found.found.text) c.as_bytes.result.now c.as_bytes.ensures.value _ after written
          c.args.telling c.in_ok-found.found.counts c.in_ok-found.ensures.found) c.in_ok-put.ensures.front,
    )
