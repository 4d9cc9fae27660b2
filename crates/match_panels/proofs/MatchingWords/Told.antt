-- What an answer tells that says of a setup that it is wired for a chart.
use Rattle.std.proofs.Common.{List}
use Rattle.chart_lines.specs.declared.charts.chart.Line.{Line}
use Rattle.match_panels.specs.MatchingWords.Answers.{IsMatched, IsMatchingOf}
use Rattle.match_panels.specs.declared.matching.answer.Matching.{Matching}
use Rattle.match_panels.specs.declared.matching.answer.Matching.TheVariants.{Differs, Matched}
use Rattle.match_plans.specs.Wired.{IsWiredBy}
use Rattle.chart_plans.specs.PlansWords.Plans.{Lists}
use Rattle.hubs.specs.SetupsWords.Wiring.{Wiring}

pub wired-of : (lines : List Line) (setup : Wiring) (matching : Matching) → IsMatchingOf lines setup matching → IsMatched matching
    → (plan : Lists) × IsWiredBy lines setup plan
wired-of lines setup (Matched plan) told is = (plan, told)
wired-of lines setup (Differs plan missing extra) told is = absurd is
