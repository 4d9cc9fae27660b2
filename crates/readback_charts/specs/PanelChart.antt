-- The chart that a panel is read back as: a text that compiles, and what is found of the panel beside it.
use Rattle.std.specs.Prelude.{ℕ, List}
use Rattle.fault_lines.specs.Below.chart_text.ChartText.{Reads}
use Rattle.compile407.specs.Compilation.{Compilation, IsCompiled}
use Rattle.match_panels.specs.MatchingWords.Answers.{IsMatched, IsMatchingOf, plan_told}
use Rattle.match_panels.specs.declared.matching.answer.Matching.{Matching}
use Rattle.match_plans.specs.NamingWires.{ShowsPartsOf}
use Rattle.match_plans.specs.Wired.{IsWiredBy}
use Rattle.chart_plans.specs.PlansWords.Plans.{Lists}
use Rattle.hubs.specs.SetupsWords.Wiring.{Wiring}

-- the text reads as the chart of this compilation
pub record IsChart (text : List ℕ) (compiled : Compilation) : Type 0 where
  pub read : Reads text compiled.chart
  pub compiled_so : IsCompiled compiled

-- the text is one of a chart that compiles
abbrev pub HasChart : List ℕ → Type 0
HasChart text = (compiled : Compilation) × IsChart text compiled

-- What is found of a panel beside a chart is told, and it is found to be wired for the chart if it is so by any plan. If the panel shows the
-- parts of another one that is wired for the chart, that one is wired for it by the plan that is told.
pub record IsFound (setup : Wiring) (compiled : Compilation) (matching : Matching) : Type 0 where
  pub told : IsMatchingOf compiled.chart.lines setup matching
  pub found : (plan : Lists) → IsWiredBy compiled.chart.lines setup plan → IsMatched matching
  pub shown : (other : Wiring) (plan : Lists) → ShowsPartsOf compiled.chart.lines setup other plan
      → IsWiredBy compiled.chart.lines other (plan_told matching)

-- the text is a chart that compiles, and so it stands beside the panel
pub record IsReadBack (setup : Wiring) (text : List ℕ) (compiled : Compilation) (matching : Matching) : Type 0 where
  pub chart : IsChart text compiled
  pub beside : IsFound setup compiled matching

-- the text reads as the chart of this compilation, and the panel is wired for that chart by the plan
pub record IsWiredChart (setup : Wiring) (text : List ℕ) (compiled : Compilation) (plan : Lists) : Type 0 where
  pub chart : IsChart text compiled
  pub wired : IsWiredBy compiled.chart.lines setup plan
