-- What a command answers it doesn't refuse.
use Rattle.std.proofs.Common.{◌≡◌, ℕ, List, subst}
use Rattle.card_code.proofs.Faults.{Deck-no_fault, Deck-same}
use Rattle.chart_lines.specs.ChartsWords.Chart.{Chart}
use Rattle.fault_lines.proofs.Below.chart_text.ChartGrammar.{one_chart}
use Rattle.compile407.proofs.Exclusions.{compiled_texts_have_no_fault, runnable_decks_have_no_fault}
use Rattle.compile407.specs.RunFaults.{HasRunFault}
use Rattle.wiring_text.proofs.WiringReader.Answered.{no_fault}
use Rattle.cli_commands.specs.CommandsWords.Answers.{ArePagesOf, AreReplayedPages, Compiles}
use Rattle.cli_commands.specs.CommandsWords.Laws.{AnsweredTextsAreNotRefused}
use Rattle.cli_commands.specs.CommandsWords.Refusals.{RefusesChart, RefusesReplay, RefusesRun, cards, chart, punches, wires}
use Rattle.fault_lines.specs.declared.program_io.command.Command.TheVariants as command
use Rattle.fault_lines.specs.declared.faults.fault.Fault.{Fault}

no_chart_fault : (text : List ℕ) (told : Fault) → Compiles text → RefusesChart text told → ⊥
no_chart_fault text told (compiled, compiles) refused =
    compiled_texts_have_no_fault text compiled refused.cause compiles.read compiles.wired refused.at_fault

no_run_fault : (text deck answer : List ℕ) (told : Fault) → ArePagesOf text deck answer → RefusesRun text deck told → ⊥
no_run_fault text deck answer told pages (chart refused) = no_chart_fault text told (pages.compiled, pages.compiles) refused
no_run_fault text deck answer told pages (punches compiled compiles refused) =
    Deck-no_fault deck pages.cards refused.cause pages.punched refused.at_fault
no_run_fault text deck answer told pages (cards compiled compiles read punched cause has named) =
    let same_chart : compiled.chart ≡ pages.compiled.chart = one_chart text _ _ compiles.read pages.compiles.read in
    let same_cards : read ≡ pages.cards = Deck-same deck read pages.cards punched pages.punched in
    runnable_decks_have_no_fault pages.compiled.chart pages.cards cause pages.runnable
    (subst (λ (of_cards : Chart). HasRunFault of_cards pages.cards cause) same_chart
    (subst (λ (punches : List (List ℕ)). HasRunFault compiled.chart punches cause) same_cards has))

no_replay_fault : (text deck answer : List ℕ) (told : Fault) → AreReplayedPages text deck answer → RefusesReplay text deck told → ⊥
no_replay_fault text deck answer told pages (wires cause has named) = no_fault text pages.wiring cause pages.reads has
no_replay_fault text deck answer told pages (punches wiring reads refused) =
    Deck-no_fault deck pages.pages.cards refused.cause pages.pages.punched refused.at_fault

pub answered_texts_are_not_refused : AnsweredTextsAreNotRefused
answered_texts_are_not_refused command.Check text deck answer told answers refused = no_chart_fault text told answers.0 refused
answered_texts_are_not_refused command.Wire text deck answer told answers refused =
    no_chart_fault text told (answers.compiled, answers.compiles) refused
answered_texts_are_not_refused command.Run text deck answer told answers refused = no_run_fault text deck answer told answers refused
answered_texts_are_not_refused command.Replay text deck answer told answers refused =
    no_replay_fault text deck answer told answers refused
answered_texts_are_not_refused command.Upgrade text deck answer told answers refused =
    no_fault text answers.0.wiring refused.cause answers.0.reads refused.at_fault
