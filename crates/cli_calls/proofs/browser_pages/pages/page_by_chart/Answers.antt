use Rattle.std.proofs.Common.{inr, subst, ℕ, List}
use Rattle.std.proofs.lemmas.Result.{err_from_is_err_and}
use Rattle.std.specs.Prelude.{string_bytes}
use Rattle.cli_commands.specs.PanelGuides.Panels.{reported}
use Rattle.hubs.specs.SetupsWords.Wiring.{Wiring}
use Rattle.cli_calls.specs.BrowserPages.Asked.{IsThere}
use Rattle.cli_calls.specs.BrowserPages.Shown.{ShowsCompiled, planned}
use Rattle.cli_calls.proofs.BrowserPages.Stopping.{asked_unshown, texts_unshown}
use Rattle.cli_calls.proofs.browser_pages.pages.page_by_chart.Goals as goal

pub returns-in_err-planned-clause-refused : goal.returns-in_err-planned-clause-refused
returns-in_err-planned-clause-refused c =
    let exit = err_from_is_err_and c.from_residual.result c.from_residual.ensures.1 in
    rw exit.1 (texts_unshown c.args.chart.now c.args.deck.now c.args.around c.in_err-planned.field-0.0 exit.0
    (λ not_memory. inr (c.requires, c.in_err-planned.ensures.refused not_memory)) exit.2)

pub returns-in_err-check_asked-clause-refused : goal.returns-in_err-check_asked-clause-refused
returns-in_err-check_asked-clause-refused c =
    let exit = err_from_is_err_and c.from_residual-in_err-check_asked.result c.from_residual-in_err-check_asked.ensures.1 in
    rw exit.1 (asked_unshown c.args.chart.now c.args.deck.now c.args.around c.setup.result.now c.as_slice-cards.result.now
    c.in_ok-planned.planned.cards.items c.as_slice-cards.ensures.value
    (rw c.setup.ensures.value (reported c.requires c.in_ok-planned.planned.compiled c.in_ok-planned.ensures.compiles c.in_ok-planned.ensures.deck c.in_ok-planned.ensures.runnable))
    c.in_err-check_asked.field-0.0 exit.0 c.in_err-check_asked.ensures.lacks exit.2)

pub returns-in_err-page-clause-refused : goal.returns-in_err-page-clause-refused
returns-in_err-page-clause-refused c =
    let exit = err_from_is_err_and c.from_residual-in_err-page.result c.from_residual-in_err-page.ensures.1 in
    rw exit.1 (texts_unshown c.args.chart.now c.args.deck.now c.args.around c.in_err-page.field-0.0 exit.0
    (λ not_memory. absurd (not_memory c.in_err-page.ensures.memory)) exit.2)

pub returns-clause-shown : goal.returns-clause-shown
returns-clause-shown c =
    let compiled = c.in_ok-planned.planned.compiled in
    planned c.requires compiled c.in_ok-planned.ensures.compiles c.in_ok-planned.planned.cards.items c.in_ok-planned.ensures.deck
    c.in_ok-planned.ensures.runnable
    (subst (λ (of : List (List ℕ)). IsThere compiled.setup of c.args.around) c.as_slice-cards.ensures.value
    (subst (λ (wiring : Wiring). IsThere wiring c.as_slice-cards.result.now c.args.around) c.setup.ensures.value
    c.in_ok-check_asked.ensures.there))
    (subst (λ (of : List (List ℕ)). ShowsCompiled compiled c.args.chart.now of c.args.around (string_bytes c.in_ok-page.page))
    c.as_slice-cards.ensures.value c.in_ok-page.ensures.shows)
