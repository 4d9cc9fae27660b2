use denote.Ref.{MutBor}
use Rattle.std.proofs.Common.{◌∙◌, ap, refl, sym}
use Rattle.std.proofs.lemmas.Result.{err_from_is_err_and}
use Rattle.cli_commands.proofs.CommandsWords.Streaming.{ends_by_chart, handed_back, is_back, of_either_err, of_either_ok, run_by, run_whole, stopped_in_run}
use Rattle.cli_commands.specs.CommandsWords.Streamed.{run_stopped}
use Rattle.compile407.proofs.Promised.{begins, form_lines, prints}
use Rattle.cli_commands.proofs.commands.running.print_run.Goals as goal

pub returns-in_err-compiled-clause-ends : goal.returns-in_err-compiled-clause-ends
returns-in_err-compiled-clause-ends g c =
    let exit = err_from_is_err_and c.from_residual.result c.from_residual.ensures.1 in
    rw exit.1
    (ends_by_chart c.args.chart.now (g.R.Read.remaining c.args.deck.now) _ _ _ c.in_err-compiled.field-0.0 exit.0 _
    c.in_err-compiled.ensures.refused exit.2 refl)

pub stream_deck-source-requires-clause-prints : goal.stream_deck-source-requires-clause-prints
stream_deck-source-requires-clause-prints g c =
    prints c.chart.result.now c.setup.result.now c.in_ok-compiled.compiled c.chart.ensures.value c.setup.ensures.value
    c.chart.ensures.compiled

pub stream_deck-source-requires-clause-begins : goal.stream_deck-source-requires-clause-begins
stream_deck-source-requires-clause-begins g c =
    begins c.chart.result.now c.setup.result.now c.in_ok-compiled.compiled c.chart.ensures.value c.setup.ensures.value
    c.chart.ensures.compiled

pub stream_deck-source-requires-clause-form : goal.stream_deck-source-requires-clause-form
stream_deck-source-requires-clause-form g c =
    form_lines c.chart.result.now c.setup.result.now c.in_ok-compiled.compiled c.chart.ensures.value c.setup.ensures.value
    c.chart.ensures.compiled

pub returns-in-Ok-clause-whole : goal.returns-in-Ok-clause-whole
returns-in-Ok-clause-whole g c =
    run_whole c.in_ok-compiled.compiled c.args.chart.now c.in_ok-compiled.ensures.compiles (g.R.Read.remaining c.args.deck.now) _ _ c.in-Ok.field-0
    (λ known is.
    let ends = of_either_ok _ _ c.stream_deck-source.result.run _ c.in-Ok.is (run_by c.in_ok-compiled.compiled c.stream_deck-source.result.run _ _ _ _ c.chart.ensures.value c.stream_deck-source.ensures.run) in
    let ran = ends.run known (ap (λ (reader : MutBor g.row.R.Denot). g.R.Read.remaining reader.now) c.new.ensures.reader ∙ is) in
    let lent = ap (λ (writer : MutBor g.row.W.Denot). writer.ghost_name) c.new-2.ensures.writer in
    let back = ap (λ (writer : MutBor g.row.W.Denot). writer.ghost_name) c.into_writer-out.ensures in (
      ran.0,
      ran.1,
      handed_back g.W.Write.contents ran.0 c.out-1.given (sym lent ∙ sym c.stream_deck-source.ensures.same_sink ∙ sym back)
          (ap (λ (writer : MutBor g.row.W.Denot). writer.now) c.new-2.ensures.writer)
          (ap (λ (writer : MutBor g.row.W.Denot). writer.now) c.into_writer-out.ensures) ran.2,
    ))

pub returns-clause-ends : goal.returns-clause-ends
returns-clause-ends g c =
    let stops = of_either_err _ _ c.stream_deck-source.result.run c.in-Err.fault c.in-Err.is (run_by c.in_ok-compiled.compiled c.stream_deck-source.result.run _ _ _ _ c.chart.ensures.value c.stream_deck-source.ensures.run) in
    let lent = ap (λ (writer : MutBor g.row.W.Denot). writer.ghost_name) c.new-2.ensures.writer in
    let back = ap (λ (writer : MutBor g.row.W.Denot). writer.ghost_name) c.into_writer-out-in-Err.ensures in
    let lent_deck = ap (λ (reader : MutBor g.row.R.Denot). reader.ghost_name) c.new.ensures.reader in
    let deck_back = ap (λ (reader : MutBor g.row.R.Denot). reader.ghost_name) c.into_reader-deck.ensures in
    run_stopped
    (stopped_in_run c.in_ok-compiled.compiled c.args.chart.now c.in_ok-compiled.ensures.compiles (g.R.Read.remaining c.args.deck.now)
    _ _ _ _ _ _ _ _ c.in-Err.fault _ c.told_of.ensures
    (ap (λ (reader : MutBor g.row.R.Denot). g.R.Read.remaining reader.now) c.new.ensures.reader)
    (ap g.R.Read.remaining
    (is_back c.deck-in-Err-1.given (sym lent_deck ∙ sym c.stream_deck-source.ensures.same_source ∙ sym deck_back)
    (ap (λ (reader : MutBor g.row.R.Denot). reader.now) c.into_reader-deck.ensures)))
    stops c.flush.ensures.bytes
    (λ written appended.
    handed_back g.W.Write.contents written c.out-in-Err-1.given
    (sym lent ∙ sym c.stream_deck-source.ensures.same_sink ∙ sym c.flush.ensures.same ∙ sym back)
    (ap (λ (writer : MutBor g.row.W.Denot). writer.now) c.new-2.ensures.writer)
    (ap (λ (writer : MutBor g.row.W.Denot). writer.now) c.into_writer-out-in-Err.ensures) appended))
