-- Which fault is told of a panel that can't be read back, and its status.
use Rattle.std.proofs.Common.{◌≡◌, ◌≢◌, ◌∙◌, ap, List, ℕ}
use Rattle.fault_lines.proofs.FaultsWords.Statuses.{wiring_status}
use Rattle.fault_lines.specs.FaultsWords.Status.{status_of}
use Rattle.fault_lines.specs.FaultsWords.ToldFaults.{chart_told, wiring_told}
use Rattle.fault_lines.specs.declared.faults.chart.ChartFault.{ChartFault}
use Rattle.fault_lines.specs.declared.faults.chart.ChartFault.TheVariants as chart
use Rattle.fault_lines.specs.declared.faults.fault.Fault.{Fault}
use Rattle.fault_lines.specs.declared.faults.fault.Fault.TheVariants as fault
use Rattle.fault_lines.proofs.ProgramIo.Stopping.{named_status}
use Rattle.fault_lines.specs.ProgramIo.Refusals.{RefusesWiring}

pub wiring_refusal : (wiring : List ℕ) (told : Fault) → RefusesWiring wiring told → told ≢ fault.Memory → status_of told ≡ 3
wiring_refusal wiring told refuses not_memory = named_status wiring_told wiring_status refuses.cause told refuses.named not_memory

-- want of memory for a chart, as it is told
pub memory_told : (cause : ChartFault) (told : Fault) → cause ≡ chart.Memory → told ≡ chart_told cause → told ≡ fault.Memory
memory_told cause told is named = named ∙ ap chart_told is

-- nothing else is told of a panel that can be read
pub memory_alone : (wiring : List ℕ) (met told : Fault) → met ≡ fault.Memory → told ≡ met → told ≢ fault.Memory → RefusesWiring wiring told
memory_alone wiring met told memory same not_memory = absurd (not_memory (same ∙ memory))
