-- Why commands stop, and which status each cause has.
use Rattle.std.proofs.Common.{◌≡◌, ◌≢◌, ap, ◌∙◌, ℕ, List, Result, Ok, Err}
use Rattle.std.specs.Prelude.{IfErr}
use Rattle.cli_commands.specs.CommandsWords.Refusals.{Refuses, RefusesChart, RefusesReplay, RefusesRun, cards, chart, punches, wires}
use Rattle.fault_lines.proofs.ProgramIo.Stopping.{deck_refusal, named_status, stops_by_status}
use Rattle.fault_lines.specs.ProgramIo.Stops.{Stops}
use Rattle.fault_lines.specs.declared.program_io.command.Command.{Command}
use Rattle.fault_lines.specs.declared.program_io.command.Command.TheVariants as command
use Rattle.fault_lines.proofs.FaultsWords.Statuses.{chart_status, run_status, wiring_status}
use Rattle.fault_lines.specs.FaultsWords.Status.{status_of}
use Rattle.fault_lines.specs.FaultsWords.ToldFaults.{chart_told, run_told, wiring_told}
use Rattle.fault_lines.specs.declared.faults.fault.Fault.{Fault}
use Rattle.fault_lines.specs.declared.faults.fault.Fault.TheVariants as fault

pub chart_refusal : (text : List ℕ) (told : Fault) → RefusesChart text told → told ≢ fault.Memory → status_of told ≡ 3
chart_refusal text told refuses = named_status chart_told chart_status refuses.cause told refuses.named

pub run_refusal : (text deck : List ℕ) (told : Fault) → RefusesRun text deck told → told ≢ fault.Memory → status_of told ≡ 3
run_refusal text deck told (chart refuses) not_memory = chart_refusal text told refuses not_memory
run_refusal text deck told (punches compiled compiles refuses) not_memory = deck_refusal deck told refuses not_memory
run_refusal text deck told (cards compiled compiles read is_deck cause at_fault named) not_memory =
    named_status run_told run_status cause told named not_memory

pub replay_refusal : (text deck : List ℕ) (told : Fault) → RefusesReplay text deck told → told ≢ fault.Memory → status_of told ≡ 3
replay_refusal text deck told (wires cause at_fault named) not_memory = named_status wiring_told wiring_status cause told named not_memory
replay_refusal text deck told (punches wiring reads refuses) not_memory = deck_refusal deck told refuses not_memory

refusal_status : (command : Command) (text deck : List ℕ) (told : Fault) → Refuses command text deck told → told ≢ fault.Memory
    → status_of told ≡ 3
refusal_status command.Check text deck told = chart_refusal text told
refusal_status command.Wire text deck told = chart_refusal text told
refusal_status command.Run text deck told = run_refusal text deck told
refusal_status command.Replay text deck told = replay_refusal text deck told
refusal_status command.Upgrade text deck told = λ refuses.
    named_status wiring_told wiring_status refuses.cause told refuses.named

module _ (told unreadable : Fault) (Unprinted : Type 0) where
  pub texts_stop : (command : Command) (text deck : List ℕ) (met : Fault) → (met ≢ fault.Memory → Refuses command text deck met)
      → told ≡ met → Unprinted → Stops told unreadable Unprinted
  texts_stop command text deck met refuses same =
      stops_by_status told unreadable Unprinted (λ not_memory.
      let met_not_memory : met ≢ fault.Memory = λ is. not_memory (same ∙ is) in
      ap status_of same ∙ refusal_status command text deck met (refuses met_not_memory) met_not_memory)

-- why a replay stops, and what is known where its deck can't be read
pub with_wiring : {X : Type 0} (result : Result X Fault) (unreadable : Fault) (Unprinted Good : Type 0)
    → IfErr result (λ told. Stops told unreadable Unprinted) → IfErr result (λ told. told ≡ unreadable → Good)
    → IfErr result (λ told. Stops told unreadable Unprinted × (told ≡ unreadable → Good))
with_wiring (Ok _) unreadable Unprinted Good stops reads = tt
with_wiring (Err told) unreadable Unprinted Good stops reads = (stops, reads)
