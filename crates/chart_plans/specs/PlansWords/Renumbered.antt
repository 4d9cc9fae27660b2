-- The numbers of the parts that serve, with those of one kind replaced.
use Rattle.std.specs.Prelude.{ℕ, List}
use Rattle.chart_lines.specs.declared.charts.level.ControlLevel.TheVariants as control
use Rattle.chart_plans.specs.PlansWords.PartNumbers.{PartNumbers}
use Rattle.chart_plans.specs.declared.plans.part_numbers.PartKind.{PartKind}
use Rattle.chart_plans.specs.declared.plans.part_numbers.PartKind.TheVariants as kind

-- these numbers, with others in the place of those of one kind
abbrev pub renumbered : PartNumbers → PartKind → (others : List ℕ) → PartNumbers
renumbered numbers kind.Pilot others = record numbers { pilots = others }
renumbered numbers kind.Comparing others = record numbers { comparing = others }
renumbered numbers kind.Storage others = record numbers { storage = others }
renumbered numbers kind.Split others = record numbers { splits = others }
renumbered numbers (kind.Indicate control.Minor) others = record numbers { minor = others }
renumbered numbers (kind.Indicate control.Intermediate) others = record numbers { intermediate = others }
renumbered numbers (kind.Indicate control.Major) others = record numbers { major = others }
