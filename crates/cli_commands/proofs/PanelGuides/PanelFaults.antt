-- The panel and the cards of a text and a deck, and its faults.
use Rattle.std.proofs.Common.{◌≡◌, ◌≢◌, inl, inr, ℕ, true, false, List, Result, Ok, Err}
use Rattle.std.specs.Prelude.{IfErr, OnOk}
use Rattle.cli_commands.proofs.CommandsWords.Refusing.{wiring_refused}
use Rattle.cli_commands.specs.CommandsWords.Answers.{Compiles}
use Rattle.cli_commands.specs.CommandsWords.Refusals.{RefusesChart, chart}
use Rattle.fault_lines.specs.FaultsWords.ToldFaults.{wiring_told}
use Rattle.fault_lines.specs.declared.faults.fault.Fault.{Fault}
use Rattle.fault_lines.specs.declared.faults.fault.Fault.TheVariants as fault
use Rattle.wiring_text.specs.WiringFaults as wiring_faults
use Rattle.wiring_text.specs.declared.fault.WiringFault.{WiringFault}
use Rattle.wiring_text.specs.declared.fault.WiringFault.TheVariants as wiring
use Rattle.cli_commands.specs.PanelGuides.Explained.{RefusesTexts}
use Rattle.cli_commands.specs.PanelGuides.Panels.{HasPanel, is_wiring_text, planned}

-- a wiring chart is refused whatever the deck is
pub wiring_refused_for_any : (text : List ℕ) (cause : WiringFault) (told : Fault) → is_wiring_text text ≡ true
    → (cause ≢ wiring.Memory → wiring_faults.HasWiringFault text cause) → told ≡ wiring_told cause
    → told ≢ fault.Memory → (deck : List ℕ) → RefusesTexts text deck told
wiring_refused_for_any text cause told is_wiring has named not_memory deck =
    inl (is_wiring, wiring_refused text deck cause told has named not_memory)

-- what checks a planning chart finds its panel, or refuses it whatever the deck is
pub planned_panel : {X : Type 0} (result : Result X Fault) (text : List ℕ) → is_wiring_text text ≡ false → OnOk result (Compiles text)
    → OnOk result (HasPanel text)
planned_panel (Ok _) text is_chart compiles = planned is_chart compiles
planned_panel (Err _) text is_chart compiles = tt

pub chart_refused_for_any : {X : Type 0} (result : Result X Fault) (text : List ℕ) → is_wiring_text text ≡ false
    → IfErr result (λ told. told ≢ fault.Memory → RefusesChart text told)
    → IfErr result (λ told. told ≢ fault.Memory → (deck : List ℕ) → RefusesTexts text deck told)
chart_refused_for_any (Ok _) text is_chart refuses = tt
chart_refused_for_any (Err told) text is_chart refuses = λ not_memory deck. inr (is_chart, chart (refuses not_memory))
