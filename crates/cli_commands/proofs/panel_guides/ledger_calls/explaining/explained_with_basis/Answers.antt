use Rattle.std.proofs.Common.{◌∙◌, ◌++◌, ap, ℕ, List}
use Rattle.std.proofs.lemmas.Result.{err_from_is_err_and}
use Rattle.std.specs.Prelude.{string_bytes}
use Rattle.cli_commands.proofs.PanelGuides.Explaining.{explains_in_run, lacking_in_run, texts_refused}
use Rattle.cli_commands.proofs.PanelGuides.LedgerCalls.Texts.{below_in_run}
use Rattle.cli_commands.specs.PanelGuides.LedgerCalls.Explained.{scope_told}
use Rattle.cli_commands.specs.PanelGuides.TextRuns.{cards_of, known_of, setup_of}
use Rattle.cli_commands.proofs.panel_guides.ledger_calls.explaining.explained_with_basis.Goals as goal

pub asked-requires : goal.asked-requires
asked-requires c = c.in_ok-run.ensures.run.served

pub returns-in_err-run-clause-refused : goal.returns-in_err-run-clause-refused
returns-in_err-run-clause-refused c =
    let exit = err_from_is_err_and c.from_residual.result c.from_residual.ensures.1 in
    rw exit.1 (texts_refused c.args.text.now c.args.deck.now c.args.place c.in_err-run.field-0.0 exit.0 c.in_err-run.ensures.refused exit.2)

pub returns-in_err-asked-clause-refused : goal.returns-in_err-asked-clause-refused
returns-in_err-asked-clause-refused c =
    let exit = err_from_is_err_and c.from_residual-in_err-asked.result c.from_residual-in_err-asked.ensures.1 in
    rw exit.1 (texts_refused c.args.text.now c.args.deck.now c.args.place c.in_err-asked.field-0.0 exit.0
    (λ not_memory. absurd (not_memory c.in_err-asked.ensures.memory)) exit.2)

pub returns-in_err-why-clause-refused : goal.returns-in_err-why-clause-refused
returns-in_err-why-clause-refused c =
    let exit = err_from_is_err_and c.from_residual-in_err-why.result c.from_residual-in_err-why.ensures.1 in
    rw exit.1 (rw exit.2 (lacking_in_run c.args.text.now c.args.deck.now c.args.place c.in_ok-run.run' c.setup.result.now c.cards.result.now
    c.in_err-why.field-0.0 c.in_ok-run.ensures.run c.setup.ensures c.cards.ensures c.in_err-why.ensures.lacks))

pub returns-in_err-totals-clause-refused : goal.returns-in_err-totals-clause-refused
returns-in_err-totals-clause-refused c =
    let exit = err_from_is_err_and c.from_residual-in_err-totals.result c.from_residual-in_err-totals.ensures.1 in
    rw exit.1 (texts_refused c.args.text.now c.args.deck.now c.args.place c.in_err-totals.field-0.0 exit.0
    (λ not_memory. absurd (not_memory c.in_err-totals.ensures.memory)) exit.2)

pub returns-in_err-basis-clause-refused : goal.returns-in_err-basis-clause-refused
returns-in_err-basis-clause-refused c =
    let exit = err_from_is_err_and c.from_residual-in_err-basis.result c.from_residual-in_err-basis.ensures.1 in
    rw exit.1 (rw exit.2 (lacking_in_run c.args.text.now c.args.deck.now c.args.place c.in_ok-run.run' c.setup-2.result.now
    c.cards-2.result.now c.in_err-basis.field-0.0 c.in_ok-run.ensures.run c.setup-2.ensures c.cards-2.ensures c.in_err-basis.ensures.lacks))

pub returns-clause-told : goal.returns-clause-told
returns-clause-told c = record {
  explanation = string_bytes c.in_ok-why.why.words;
  explained = record {
    wiring = setup_of c.in_ok-run.run';
    cards = cards_of c.in_ok-run.run';
    known = known_of c.args.text.now c.in_ok-run.run';
    run = c.in_ok-run.ensures.run.is;
    asked = c.in_ok-asked.asked.items;
    are_asked = c.in_ok-asked.ensures.asked;
    told = c.in_ok-why.why.why;
    explains =
        explains_in_run c.in_ok-run.run' c.setup.result.now c.cards.result.now c.deref.result.now c.in_ok-asked.asked.items c.args.place
        c.in_ok-why.why.why (string_bytes c.in_ok-why.why.words) c.setup.ensures c.cards.ensures c.deref.ensures.value
        c.in_ok-why.ensures.explains;
  };
  basis = c.in_ok-basis.basis.items;
  below =
      below_in_run c.args.text.now c.in_ok-run.run' c.setup-2.result.now c.cards-2.result.now c.as_slice.result.now c.scope_told.result
      (scope_told c.args.whole) c.args.place c.in_ok-why.why.why c.in_ok-basis.basis.items c.setup-2.ensures c.cards-2.ensures
      (c.as_slice.ensures.value ∙ c.in_ok-totals.ensures.totals c.args.text.now) c.scope_told.ensures c.in_ok-basis.ensures.tells;
  written =
      c.in_ok-joined.ensures.value ∙ ap (λ (front : List ℕ). front ++ c.as_slice-2.result.now) c.as_bytes.ensures.value
      ∙ ap (λ (behind : List ℕ). string_bytes c.in_ok-why.why.words ++ behind) c.as_slice-2.ensures.value;
}
