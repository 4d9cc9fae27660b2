-- The fault of a chart, by what told it: the text, the rules, or the capacities of the machine.
use Rattle.allocate.specs.declared.fault.CapacityFault.{CapacityFault}
use Rattle.allocate.specs.declared.fault.CapacityFault.TheVariants as capacity
use Rattle.chart_rules.specs.declared.fault.RuleFault.{RuleFault}
use Rattle.chart_rules.specs.declared.fault.RuleFault.TheVariants as rule
use Rattle.chart_text.specs.declared.fault.TextFault.{TextFault}
use Rattle.chart_text.specs.declared.fault.TextFault.TheVariants as text
use Rattle.fault_lines.specs.declared.faults.chart.ChartFault.{ChartFault}
use Rattle.fault_lines.specs.declared.faults.chart.ChartFault.TheVariants as chart

-- the fault of a text, as one of a chart
abbrev pub of_text : TextFault → ChartFault
of_text text.TooLarge = chart.TooLarge
of_text text.NoFirstLine = chart.NoFirstLine
of_text (text.NotALine line) = chart.NotALine line
of_text text.NoEnd = chart.NoEnd
of_text text.Memory = chart.Memory

-- the fault of a chart that was read, as one of a chart
abbrev pub of_rule : RuleFault → ChartFault
of_rule (rule.Rule broken line) = chart.Rule broken line
of_rule rule.Memory = chart.Memory

-- the fault of a chart that the machine is too small for, as one of a chart
abbrev pub of_capacity : CapacityFault → ChartFault
of_capacity capacity.Memory = chart.Memory
of_capacity other = chart.Capacity other
