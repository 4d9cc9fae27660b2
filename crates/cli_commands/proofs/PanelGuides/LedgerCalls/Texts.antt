-- Which ledger is told, of the texts that ask for it.
use Rattle.std.proofs.Common.{◌≡◌, ◌≢◌, ◌∙◌, sym, subst, ℕ, List, Option, Some, Result, Ok, Err, IfOk}
use Rattle.std.specs.Prelude.{IfErr, IfSome, OnOk}
use Rattle.explain_wheels.specs.declared.explanations.explanation.Explanation.{Explanation}
use Rattle.fault_lines.specs.declared.faults.fault.Fault.TheVariants as fault
use Rattle.hubs.specs.SetupsWords.Wiring.{Wiring}
use Rattle.cli_commands.proofs.PanelGuides.Explaining.{lacking_in_run}
use Rattle.cli_commands.specs.PanelGuides.Explained.{IsUnexplained, LacksPlace}
use Rattle.cli_commands.specs.PanelGuides.Known.{totals_known}
use Rattle.cli_commands.specs.PanelGuides.TextRuns.{IsTextRun, cards_of, known_of, setup_of}
use Rattle.cli_commands.specs.declared.panel_guides.place.Place.{Place}
use Rattle.cli_commands.specs.declared.panel_guides.text_runs.TextRun.{TextRun}
use Rattle.cli_commands.specs.declared.panel_guides.unexplained.Unexplained.{Unexplained}
use Rattle.cli_commands.specs.declared.panel_guides.unexplained.Unexplained.TheVariants as why
use Rattle.explain_wheel_ledgers.specs.declared.scope.Scope.{Scope}
use Rattle.cli_commands.specs.PanelGuides.LedgerCalls.Explained.{TellsBelow}
use Rattle.cli_commands.specs.PanelGuides.LedgerCalls.Ledgers.{IsLedgerText, TellsPlace}
use Rattle.cli_commands.specs.PanelGuides.LedgerCalls.LedgerEnds.{PrintsTelling}
use Rattle.cli_commands.specs.declared.panel_guides.ledger_calls.telling.Question.{Question}
use Rattle.explain_wheel_ledgers.specs.declared.chart_totals.TitledAccount.{TitledAccount}

-- the ledger that is told on the panel of a run is of the texts that give it
pub ledger_in_run : {X E : Type 0} (result : Result X E) (items : X → List ℕ) (text deck : List ℕ) (ends its : ℕ) (place : Place)
    (run : TextRun) (setup : Wiring) (cards : List (List ℕ)) (totals : List TitledAccount) → IsTextRun text deck run → setup ≡ setup_of run
    → cards ≡ cards_of run → totals ≡ totals_known (known_of text run) → ends ≡ its
    → IfOk result (λ answer. TellsPlace setup cards totals ends place (items answer))
    → IfOk result (λ answer. IsLedgerText text deck its place (items answer))
ledger_in_run (Ok answer) items text deck ends its place run setup cards totals is same_setup same_cards same_totals same_ends tells = record {
  wiring = setup_of run;
  cards = cards_of run;
  known = known_of text run;
  run = is.is;
  tells =
      subst (λ (of : Wiring). TellsPlace of (cards_of run) (totals_known (known_of text run)) its place (items answer)) same_setup
      (subst (λ (of : List (List ℕ)). TellsPlace setup of (totals_known (known_of text run)) its place (items answer)) same_cards
      (subst (λ (of : List TitledAccount). TellsPlace setup cards of its place (items answer)) same_totals
      (subst (λ (of : ℕ). TellsPlace setup cards totals of place (items answer)) same_ends tells)));
}
ledger_in_run (Err _) items text deck ends its place run setup cards totals is same_setup same_cards same_totals same_ends tells = tt

-- a place that lacks on its panel
pub ledger_lacking : {X : Type 0} (result : Result X Unexplained) (text deck : List ℕ) (place : Place) (run : TextRun) (setup : Wiring)
    (cards : List (List ℕ)) → IsTextRun text deck run → setup ≡ setup_of run → cards ≡ cards_of run
    → IfErr result (λ told. told ≢ why.Failed fault.Memory → LacksPlace setup cards place told)
    → IfErr result (λ told. told ≢ why.Failed fault.Memory → IsUnexplained text deck place told)
ledger_lacking (Ok _) text deck place run setup cards is same_setup same_cards lacks = tt
ledger_lacking (Err told) text deck place run setup cards is same_setup same_cards lacks =
    lacking_in_run text deck place run setup cards told is same_setup same_cards lacks

-- what a wheel of a line of a run is printed of, by its explanation
pub below_in_run : (text : List ℕ) (run : TextRun) (setup : Wiring) (cards : List (List ℕ)) (totals : List TitledAccount) (scope its : Scope)
    (place : Place) (told : Explanation) (basis : List ℕ) → setup ≡ setup_of run → cards ≡ cards_of run
    → totals ≡ totals_known (known_of text run) → scope ≡ its → TellsBelow setup cards totals scope place told basis
    → TellsBelow (setup_of run) (cards_of run) (totals_known (known_of text run)) its place told basis
below_in_run text run setup cards totals scope its place told basis same_setup same_cards same_totals same_scope below =
    subst (λ (of : Scope). TellsBelow (setup_of run) (cards_of run) (totals_known (known_of text run)) of place told basis) same_scope
    (subst (λ (of : Wiring). TellsBelow of (cards_of run) (totals_known (known_of text run)) scope place told basis) same_setup
    (subst (λ (of : List (List ℕ)). TellsBelow setup of (totals_known (known_of text run)) scope place told basis) same_cards
    (subst (λ (of : List TitledAccount). TellsBelow setup cards of scope place told basis) same_totals below)))

-- a deck that is known is the one in memory
pub telling_for : (text read items : List ℕ) (deck old new : Option (List ℕ)) (question : Question) (place : Place) → read ≡ items
    → IfSome deck (λ known. items ≡ known) → PrintsTelling text (Some read) question place old new → PrintsTelling text deck question place old new
telling_for text read items deck old new question place same is_deck is = record {
  read = is.read;
  is_deck = subst (λ (bytes : List ℕ). IfSome deck (λ known. bytes ≡ known)) (sym (is.is_deck ∙ same)) is_deck;
  answer = is.answer;
  told = is.told;
  written = is.written;
}

pub prints_for : {X E : Type 0} (result : Result X E) (text read items : List ℕ) (deck old new : Option (List ℕ)) (question : Question)
    (place : Place) → read ≡ items → IfSome deck (λ known. items ≡ known) → OnOk result (PrintsTelling text (Some read) question place old new)
    → OnOk result (PrintsTelling text deck question place old new)
prints_for (Ok _) text read items deck old new question place same is_deck is =
    telling_for text read items deck old new question place same is_deck is
prints_for (Err _) text read items deck old new question place same is_deck is = tt
