-- The numbers by which the faults of charts and decks are told. Want of memory is told without one.
use Rattle.std.specs.Prelude.{ℕ, Option, Some, None}
use Rattle.allocate.specs.Exceeded.{fault_number}
use Rattle.chart_rules.specs.Rules.{rule_number}
use Rattle.fault_lines.specs.declared.faults.chart.ChartFault.{ChartFault}
use Rattle.fault_lines.specs.declared.faults.chart.ChartFault.TheVariants as chart
use Rattle.fault_lines.specs.declared.faults.deck.RunFault.{RunFault}
use Rattle.fault_lines.specs.declared.faults.deck.RunFault.TheVariants as deck

-- the number of a chart's fault
abbrev pub chart_fault_number : ChartFault → Option ℕ
chart_fault_number chart.TooLarge = Some 11
chart_fault_number chart.NoFirstLine = Some 12
chart_fault_number (chart.NotALine line) = Some 13
chart_fault_number chart.NoEnd = Some 14
chart_fault_number (chart.Rule rule line) = Some (rule_number rule)
chart_fault_number (chart.Capacity fault) = fault_number fault
chart_fault_number chart.Memory = None

-- the number of a deck's fault
abbrev pub run_fault_number : RunFault → Option ℕ
run_fault_number deck.TooManyCards = Some 3
run_fault_number (deck.NotText card column) = Some 41
run_fault_number (deck.NotAmount card column) = Some 42
run_fault_number (deck.DoesNotFit level name card) = Some 43
run_fault_number deck.Memory = None
