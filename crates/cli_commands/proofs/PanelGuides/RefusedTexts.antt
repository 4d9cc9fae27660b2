-- Which status the fault of a text or of its deck has.
use Rattle.std.proofs.Common.{◌≡◌, ◌≢◌, inl, inr, ℕ, List}
use Rattle.cli_commands.proofs.CommandsWords.Stopping.{replay_refusal, run_refusal}
use Rattle.fault_lines.specs.FaultsWords.Status.{status_of}
use Rattle.fault_lines.specs.declared.faults.fault.Fault.{Fault}
use Rattle.fault_lines.specs.declared.faults.fault.Fault.TheVariants as fault
use Rattle.cli_commands.specs.PanelGuides.Explained.{RefusesTexts}

-- but for want of memory, that of refused input
pub texts_status : (text deck : List ℕ) (met : Fault) → RefusesTexts text deck met → met ≢ fault.Memory → status_of met ≡ 3
texts_status text deck met (inl wired) not_memory = replay_refusal text deck met wired.1 not_memory
texts_status text deck met (inr planned) not_memory = run_refusal text deck met planned.1 not_memory
