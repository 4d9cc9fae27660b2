-- A fault of a text as it is told.
use Rattle.std.proofs.Common.{◌≡◌, ◌≢◌, ◌∙◌, ap, subst, List, ℕ, Result, Ok, Err, IfOk}
use Rattle.std.specs.Prelude.{IfErr}
use Rattle.card_code.specs.Deck.{Deck}
use Rattle.compile407.specs.ChartFaults.{HasChartFault}
use Rattle.compile407.specs.Compilation.{Compilation}
use Rattle.compile407.specs.RunFaults.{HasRunFault}
use Rattle.fault_lines.specs.declared.faults.chart.ChartFault.{ChartFault}
use Rattle.fault_lines.specs.declared.faults.chart.ChartFault.TheVariants as chart
use Rattle.fault_lines.specs.declared.faults.deck.RunFault.{RunFault}
use Rattle.fault_lines.specs.declared.faults.deck.RunFault.TheVariants as run
use Rattle.wiring_text.specs.WiringFaults as wiring_faults
use Rattle.wiring_text.specs.declared.fault.WiringFault.{WiringFault}
use Rattle.wiring_text.specs.declared.fault.WiringFault.TheVariants as wiring
use Rattle.hubs.specs.SetupsWords.Wiring.{Wiring}
use Rattle.wiring_text.specs.WiringText.{ReadsAs}
use Rattle.wire_chart.specs.WrittenText.{IsWritten}
use Rattle.cli_commands.specs.CommandsWords.Answers.{ArePagesOf, ArePagesOn, AreReplayedPages, CompilesAs, IsWiringChartOf}
use Rattle.cli_commands.specs.CommandsWords.Refusals.{RefusesChart, RefusesReplay, RefusesRun, cards, punches, wires}
use Rattle.fault_lines.specs.ProgramIo.Refusals.{RefusesDeck}
use Rattle.fault_lines.specs.FaultsWords.ToldFaults.{chart_told, run_told, wiring_told}
use Rattle.fault_lines.specs.declared.faults.fault.Fault.{Fault}
use Rattle.fault_lines.specs.declared.faults.fault.Fault.TheVariants as fault

pub chart_refused : (text : List ℕ) (cause : ChartFault) (told : Fault) → (cause ≢ chart.Memory → HasChartFault text cause)
    → told ≡ chart_told cause → told ≢ fault.Memory → RefusesChart text told
chart_refused text cause told has named not_memory =
    record { cause = cause; at_fault = has (λ is. not_memory (named ∙ ap chart_told is)); named = named }

pub cards_refused : (text punched : List ℕ) (compiled : Compilation) (read : List (List ℕ)) (cause : RunFault) (told : Fault)
    → CompilesAs text compiled → Deck punched read → (cause ≢ run.Memory → HasRunFault compiled.chart read cause)
    → told ≡ run_told cause → told ≢ fault.Memory → RefusesRun text punched told
cards_refused text punched compiled read cause told compiles is_deck has named not_memory =
    cards compiled compiles read is_deck cause (has (λ is. not_memory (named ∙ ap run_told is))) named

pub wiring_refused : (text punched : List ℕ) (cause : WiringFault) (told : Fault)
    → (cause ≢ wiring.Memory → wiring_faults.HasWiringFault text cause) → told ≡ wiring_told cause → told ≢ fault.Memory
    → RefusesReplay text punched told
wiring_refused text punched cause told has named not_memory =
    wires cause (has (λ is. not_memory (named ∙ ap wiring_told is))) named

-- what a compiled chart prints is its text's
pub pages_reported : {X : Type 0} (result : Result X Fault) (items : X → List ℕ) (text deck : List ℕ) (compiled : Compilation)
    → CompilesAs text compiled → IfOk result (λ pages. (other : List ℕ) → CompilesAs other compiled → ArePagesOf other deck (items pages))
    → IfOk result (λ pages. ArePagesOf text deck (items pages))
pages_reported (Ok pages) items text deck compiled compiles of_any = of_any text compiles
pages_reported (Err _) items text deck compiled compiles of_any = tt

pub run_refused : {X : Type 0} (result : Result X Fault) (text deck : List ℕ) (compiled : Compilation) → CompilesAs text compiled
    → IfErr result (λ told. told ≢ fault.Memory → (other : List ℕ) → CompilesAs other compiled → RefusesRun other deck told)
    → IfErr result (λ told. told ≢ fault.Memory → RefusesRun text deck told)
run_refused (Ok _) text deck compiled compiles refuses = tt
run_refused (Err _) text deck compiled compiles refuses = λ not_memory. refuses not_memory text compiles

-- the setup that a chart compiles to, as a wiring chart
pub wiring_written : {X : Type 0} (result : Result X Fault) (items : X → List ℕ) (text : List ℕ) (compiled : Compilation) (setup : Wiring)
    → setup ≡ compiled.setup → CompilesAs text compiled → IfOk result (λ answer. IsWritten setup (items answer))
    → IfOk result (λ answer. IsWiringChartOf text (items answer))
wiring_written (Ok answer) items text compiled setup same compiles written =
    record { compiled = compiled; compiles = compiles; written = subst (λ (of : Wiring). IsWritten of (items answer)) same written }
wiring_written (Err _) items text compiled setup same compiles written = tt

-- what a setup prints that a wiring chart reads as
pub pages_replayed : {X : Type 0} (result : Result X Fault) (items : X → List ℕ) (text deck : List ℕ) (wiring : Wiring) → ReadsAs text wiring
    → IfOk result (λ pages. ArePagesOn wiring deck (items pages)) → IfOk result (λ pages. AreReplayedPages text deck (items pages))
pages_replayed (Ok pages) items text deck wiring reads on = record { wiring = wiring; reads = reads; pages = on }
pages_replayed (Err _) items text deck wiring reads on = tt

pub replay_refused : {X : Type 0} (result : Result X Fault) (text deck : List ℕ) (wiring : Wiring) → ReadsAs text wiring
    → IfErr result (λ told. told ≢ fault.Memory → RefusesDeck deck told) → IfErr result (λ told. told ≢ fault.Memory → RefusesReplay text deck told)
replay_refused (Ok _) text deck wiring reads refuses = tt
replay_refused (Err _) text deck wiring reads refuses = λ not_memory. punches wiring reads (refuses not_memory)
