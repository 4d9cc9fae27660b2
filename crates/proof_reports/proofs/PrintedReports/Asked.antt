-- What the carriage is asked for in a cycle.
use Rattle.std.proofs.Common.{ℕ, Option, Some, None}
use Rattle.carriage.specs.Asked.{nothing_asked}
use Rattle.carriage.specs.declared.asked.Asked.{Asked}
use Rattle.report_definition.specs.Below.chart_lines.ChartsWords.Chart.{Chart}
use Rattle.proof_reports.specs.Below.net.declared.cycle.Cycle.{Cycle}
use Rattle.proof_reports.specs.WiredPanels.CycleAsks.LinePlaces.Placing.{asked_of, kind_of}

-- what the carriage is asked for where a kind of body line prints, or none
abbrev pub asked_for : Chart → Option ℕ → Asked
asked_for chart None = nothing_asked
asked_for chart (Some kind) = asked_of chart.lines kind

-- what the carriage is asked for in a cycle
abbrev pub asked_in : Chart → Cycle → Asked
asked_in chart cycle = asked_for chart (kind_of cycle)
