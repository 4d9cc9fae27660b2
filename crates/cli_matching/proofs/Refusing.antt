-- Which fault is told of texts that are refused, and its status.
use Rattle.std.proofs.Common.{◌≡◌, ◌≢◌, ◌∙◌, ap, List, ℕ}
use Rattle.cli_commands.proofs.CommandsWords.Stopping.{chart_refusal}
use Rattle.fault_lines.proofs.FaultsWords.Statuses.{wiring_status}
use Rattle.fault_lines.specs.FaultsWords.Status.{status_of}
use Rattle.fault_lines.specs.FaultsWords.ToldFaults.{wiring_told}
use Rattle.fault_lines.specs.declared.faults.fault.Fault.{Fault}
use Rattle.fault_lines.specs.declared.faults.fault.Fault.TheVariants as fault
use Rattle.cli_matching.specs.Panels.{RefusesAll, RefusesPanels, of_chart, of_deck, of_panels, of_wiring}
use Rattle.fault_lines.proofs.ProgramIo.Stopping.{deck_refusal, named_status}
use Rattle.fault_lines.specs.ProgramIo.Refusals.{RefusesWiring}
use Rattle.wire_chart.specs.Below.wiring_text.WiringFaults.{HasWiringFault}
use Rattle.wire_chart.specs.Below.wiring_text.declared.fault.WiringFault.{WiringFault}
use Rattle.wire_chart.specs.Below.wiring_text.declared.fault.WiringFault.TheVariants as wiring

pub wiring_refused : (text : List ℕ) (cause : WiringFault) (told : Fault) → (cause ≢ wiring.Memory → HasWiringFault text cause)
    → told ≡ wiring_told cause → told ≢ fault.Memory → RefusesWiring text told
wiring_refused text cause told has named not_memory =
    record { cause = cause; at_fault = has (λ is. not_memory (named ∙ ap wiring_told is)); named = named }

pub panels_refusal : (chart wires : List ℕ) (told : Fault) → RefusesPanels chart wires told → told ≢ fault.Memory → status_of told ≡ 3
panels_refusal chart wires told (of_chart refuses) not_memory = chart_refusal chart told refuses not_memory
panels_refusal chart wires told (of_wiring compiled compiles refuses) not_memory =
    named_status wiring_told wiring_status refuses.cause told refuses.named not_memory

pub all_refusal : (chart wires deck : List ℕ) (told : Fault) → RefusesAll chart wires deck told → told ≢ fault.Memory → status_of told ≡ 3
all_refusal chart wires deck told (of_panels refuses) not_memory = panels_refusal chart wires told refuses not_memory
all_refusal chart wires deck told (of_deck panels refuses) not_memory = deck_refusal deck told refuses not_memory
