use Rattle.std.proofs.Common.{inr, refl}
use Rattle.std.proofs.lemmas.Result.{err_from_is_err_and}
use Rattle.std.specs.String.{string_bytes}
use Rattle.cli_matching.proofs.Answering.{otherwise_over, unwired_over, wired_over}
use Rattle.cli_matching.proofs.TellingOver.{all_stop, deck_stops, output_stops_over, panels_stop}
use Rattle.cli_matching.specs.Decked.{alike, otherwise, unmatched}
use Rattle.cli_matching.specs.Panels.{of_deck}
use Rattle.fault_lines.proofs.ProgramIo.Refusing.{read_is_known}
use Rattle.cli_matching.proofs.Written.{over_written}
use Rattle.fault_lines.proofs.ProgramIo.Fronting.{front_of_bytes}
use Rattle.cli_matching.proofs.over_decks.print_deck_match.Goals as goal

pub returns-in_err-panels-clause-stopped : goal.returns-in_err-panels-clause-stopped
returns-in_err-panels-clause-stopped g c =
    let exit = err_from_is_err_and c.from_residual.result c.from_residual.ensures.1 in
    rw exit.1 (panels_stop c.args.chart.now c.args.wiring.now (g.R.Read.remaining c.args.deck) _ _ _ _ c.in_err-panels.field-0.0 exit.0
    c.in_err-panels.ensures.refused exit.2 refl)

pub returns-in_err-bytes-clause-stopped : goal.returns-in_err-bytes-clause-stopped
returns-in_err-bytes-clause-stopped g c =
    let exit = err_from_is_err_and c.from_residual-in_err-bytes.result c.from_residual-in_err-bytes.ensures.1 in
    rw exit.1 (deck_stops c.args.chart.now c.args.wiring.now (g.R.Read.remaining c.args.deck) _ _ _ _ c.in_err-bytes.field-0.0 exit.0
    c.in_err-bytes.ensures.told
    (record { compiled = c.in_ok-panels.panels.compiled; version = c.in_ok-panels.panels.version; setup = c.in_ok-panels.panels.setup; panels = c.in_ok-panels.ensures.are }) exit.2 refl)

pub returns-in_err-answer-clause-stopped : goal.returns-in_err-answer-clause-stopped
returns-in_err-answer-clause-stopped g c =
    let exit = err_from_is_err_and c.from_residual-in_err-answer.result c.from_residual-in_err-answer.ensures.1 in
    rw exit.1 (all_stop c.args.chart.now c.args.wiring.now (g.R.Read.remaining c.args.deck) _ _ _ _ c.as_slice.result.now
    c.in_err-answer.field-0.0 exit.0
    (read_is_known (g.R.Read.remaining c.args.deck) c.as_slice.result.now c.in_ok-bytes.bytes.items c.as_slice.ensures.value
    c.in_ok-bytes.ensures.whole)
    (λ not_memory. of_deck
    (record { compiled = c.in_ok-panels.panels.compiled; version = c.in_ok-panels.panels.version; setup = c.in_ok-panels.panels.setup; panels = c.in_ok-panels.ensures.are })
    (c.in_err-answer.ensures.refused not_memory)) exit.2 refl)

pub returns-in_err-put-clause-stopped : goal.returns-in_err-put-clause-stopped
returns-in_err-put-clause-stopped g c =
    let exit = err_from_is_err_and c.from_residual-in_err-put.result c.from_residual-in_err-put.ensures.1 in
    rw exit.1 (output_stops_over c.args.chart.now c.args.wiring.now (g.R.Read.remaining c.args.deck) _ _ _ _ c.in_err-put.field-0.0 exit.0
    c.in_err-put.ensures.told exit.2)

pub returns-in-Wired-clause-printed : goal.returns-in-Wired-clause-printed
returns-in-Wired-clause-printed g c = record {
  compiled = c.in_ok-panels.panels.compiled;
  version = c.in_ok-panels.panels.version;
  setup = c.in_ok-panels.panels.setup;
  panels = c.in_ok-panels.ensures.are;
  text = string_bytes c.in_ok-answer.answer.text;
  right = wired_over c.args.wiring.now c.as_slice.result.now c.in_ok-panels.panels.version c.in_ok-panels.panels.compiled c.in_ok-panels.panels.setup c.in_ok-answer.answer.outcome
      (string_bytes c.in_ok-answer.answer.text) c.in_ok-answer.ensures.answer c.in-Wired.is;
  written = rw (← c.as_bytes.ensures.value) c.in_ok-put.ensures.written;
}

pub returns-in-Unwired-clause-stopped : goal.returns-in-Unwired-clause-stopped
returns-in-Unwired-clause-stopped g c =
    unmatched refl
    (record {
      read = c.as_slice.result.now;
      is_deck = read_is_known (g.R.Read.remaining c.args.deck) c.as_slice.result.now c.in_ok-bytes.bytes.items c.as_slice.ensures.value
          c.in_ok-bytes.ensures.whole;
      leaves = alike c.in-Unwired.counts refl
          (record {
            compiled = c.in_ok-panels.panels.compiled;
            version = c.in_ok-panels.panels.version;
            setup = c.in_ok-panels.panels.setup;
            panels = c.in_ok-panels.ensures.are;
            text = string_bytes c.in_ok-answer.answer.text;
            right = unwired_over c.args.wiring.now c.as_slice.result.now c.in_ok-panels.panels.version c.in_ok-panels.panels.compiled c.in_ok-panels.panels.setup c.in_ok-answer.answer.outcome
                (string_bytes c.in_ok-answer.answer.text) c.in_ok-answer.ensures.answer c.in-Unwired.counts c.in-Unwired.is;
            written = rw (← c.as_bytes.ensures.value) c.in_ok-put.ensures.written;
          });
    })

pub returns-clause-stopped : goal.returns-clause-stopped
returns-clause-stopped g c =
    unmatched refl
    (record {
      read = c.as_slice.result.now;
      is_deck = read_is_known (g.R.Read.remaining c.args.deck) c.as_slice.result.now c.in_ok-bytes.bytes.items c.as_slice.ensures.value
          c.in_ok-bytes.ensures.whole;
      leaves = otherwise c.in-PrintsOtherwise.place refl
          (record {
            compiled = c.in_ok-panels.panels.compiled;
            version = c.in_ok-panels.panels.version;
            setup = c.in_ok-panels.panels.setup;
            panels = c.in_ok-panels.ensures.are;
            text = string_bytes c.in_ok-answer.answer.text;
            right = otherwise_over c.args.wiring.now c.as_slice.result.now c.in_ok-panels.panels.version c.in_ok-panels.panels.compiled c.in_ok-panels.panels.setup c.in_ok-answer.answer.outcome
                (string_bytes c.in_ok-answer.answer.text) c.in_ok-answer.ensures.answer c.in-PrintsOtherwise.place c.in-PrintsOtherwise.is;
            written = rw (← c.as_bytes.ensures.value) c.in_ok-put.ensures.written;
          });
    })

pub returns-in_err-put-clause-front : goal.returns-in_err-put-clause-front
returns-in_err-put-clause-front g c =
    inr (record {
      read = c.as_slice.result.now;
      is_deck = read_is_known (g.R.Read.remaining c.args.deck) c.as_slice.result.now c.in_ok-bytes.bytes.items c.as_slice.ensures.value
          c.in_ok-bytes.ensures.whole;
      found = c.in_ok-answer.answer.outcome;
      front = front_of_bytes c.as_bytes.result.now (λ after written.
          over_written c.args.chart.now c.args.wiring.now c.in_ok-panels.panels.version c.in_ok-panels.panels.compiled
          c.in_ok-panels.panels.setup c.in_ok-panels.ensures.are (string_bytes c.in_ok-answer.answer.text) c.as_bytes.result.now
          c.as_bytes.ensures.value _ after written c.as_slice.result.now c.in_ok-answer.answer.outcome c.in_ok-answer.ensures.answer)
          c.in_err-put.ensures.front;
    })

pub returns-in-Wired-clause-front : goal.returns-in-Wired-clause-front
returns-in-Wired-clause-front g c =
    inr (record {
      read = c.as_slice.result.now;
      is_deck = read_is_known (g.R.Read.remaining c.args.deck) c.as_slice.result.now c.in_ok-bytes.bytes.items c.as_slice.ensures.value
          c.in_ok-bytes.ensures.whole;
      found = c.in_ok-answer.answer.outcome;
      front = front_of_bytes c.as_bytes.result.now (λ after written.
          over_written c.args.chart.now c.args.wiring.now c.in_ok-panels.panels.version c.in_ok-panels.panels.compiled
          c.in_ok-panels.panels.setup c.in_ok-panels.ensures.are (string_bytes c.in_ok-answer.answer.text) c.as_bytes.result.now
          c.as_bytes.ensures.value _ after written c.as_slice.result.now c.in_ok-answer.answer.outcome c.in_ok-answer.ensures.answer)
          c.in_ok-put.ensures.front;
    })

pub returns-in-Unwired-clause-front : goal.returns-in-Unwired-clause-front
returns-in-Unwired-clause-front g c =
    inr (record {
      read = c.as_slice.result.now;
      is_deck = read_is_known (g.R.Read.remaining c.args.deck) c.as_slice.result.now c.in_ok-bytes.bytes.items c.as_slice.ensures.value
          c.in_ok-bytes.ensures.whole;
      found = c.in_ok-answer.answer.outcome;
      front = front_of_bytes c.as_bytes.result.now (λ after written.
          over_written c.args.chart.now c.args.wiring.now c.in_ok-panels.panels.version c.in_ok-panels.panels.compiled
          c.in_ok-panels.panels.setup c.in_ok-panels.ensures.are (string_bytes c.in_ok-answer.answer.text) c.as_bytes.result.now
          c.as_bytes.ensures.value _ after written c.as_slice.result.now c.in_ok-answer.answer.outcome c.in_ok-answer.ensures.answer)
          c.in_ok-put.ensures.front;
    })

pub returns-clause-front : goal.returns-clause-front
returns-clause-front g c =
    inr (record {
      read = c.as_slice.result.now;
      is_deck = read_is_known (g.R.Read.remaining c.args.deck) c.as_slice.result.now c.in_ok-bytes.bytes.items c.as_slice.ensures.value
          c.in_ok-bytes.ensures.whole;
      found = c.in_ok-answer.answer.outcome;
      front = front_of_bytes c.as_bytes.result.now (λ after written.
          over_written c.args.chart.now c.args.wiring.now c.in_ok-panels.panels.version c.in_ok-panels.panels.compiled
          c.in_ok-panels.panels.setup c.in_ok-panels.ensures.are (string_bytes c.in_ok-answer.answer.text) c.as_bytes.result.now
          c.as_bytes.ensures.value _ after written c.as_slice.result.now c.in_ok-answer.answer.outcome c.in_ok-answer.ensures.answer)
          c.in_ok-put.ensures.front;
    })
