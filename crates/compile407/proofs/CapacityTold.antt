-- What is told of a chart that exceeds a capacity of the machine.
use Rattle.std.proofs.Common.{◌≢◌, ℕ, List, refl}
use Rattle.allocate.specs.Exceeded.{HasCapacityFault}
use Rattle.chart_plans.specs.WantedWords.Wanted.{wanted_of}
use Rattle.allocate.specs.declared.fault.CapacityFault.{CapacityFault}
use Rattle.allocate.specs.declared.fault.CapacityFault.TheVariants as exceeds
use Rattle.capacity.specs.Capacities.{standard}
use Rattle.chart_rules.specs.Rules.{IsLawful}
use Rattle.chart_text.specs.Below.chart_lines.ChartsWords.Chart.{Chart}
use Rattle.chart_text.specs.ChartText.{Reads}
use Rattle.fault_lines.specs.FaultsWords.ChartCauses.{of_capacity}
use Rattle.compile407.specs.ChartFaults.{HasChartFault}
use Rattle.fault_lines.specs.declared.faults.chart.ChartFault.TheVariants as chart

-- where a chart that is read and lawful exceeds a capacity, the fault of the capacity is the chart's
pub capacity_told : (bytes : List ℕ) (read : Chart) (fault : CapacityFault) → Reads bytes read → IsLawful read →
    (fault ≢ exceeds.Memory → HasCapacityFault (wanted_of read.lines) standard fault)
    → of_capacity fault ≢ chart.Memory → HasChartFault bytes (of_capacity fault)
capacity_told bytes read (exceeds.Counters width count there) reads lawful has other =
    record { read = read; reads = reads; lawful = lawful; is_cause = λ same. cc; exceeds = has (λ same. cc) }
capacity_told bytes read (exceeds.Pilots count there) reads lawful has other =
    record { read = read; reads = reads; lawful = lawful; is_cause = λ same. cc; exceeds = has (λ same. cc) }
capacity_told bytes read (exceeds.Comparing count there) reads lawful has other =
    record { read = read; reads = reads; lawful = lawful; is_cause = λ same. cc; exceeds = has (λ same. cc) }
capacity_told bytes read (exceeds.StorageWidth line) reads lawful has other =
    record { read = read; reads = reads; lawful = lawful; is_cause = λ same. cc; exceeds = has (λ same. cc) }
capacity_told bytes read (exceeds.StorageUnits count there) reads lawful has other =
    record { read = read; reads = reads; lawful = lawful; is_cause = λ same. cc; exceeds = has (λ same. cc) }
capacity_told bytes read (exceeds.Splits count there) reads lawful has other =
    record { read = read; reads = reads; lawful = lawful; is_cause = λ same. cc; exceeds = has (λ same. cc) }
capacity_told bytes read (exceeds.Indicate level count there) reads lawful has other =
    record { read = read; reads = reads; lawful = lawful; is_cause = λ same. cc; exceeds = has (λ same. cc) }
capacity_told bytes read exceeds.Memory reads lawful has other = absurd (other refl)
