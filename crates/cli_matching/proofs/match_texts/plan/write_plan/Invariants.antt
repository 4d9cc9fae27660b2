use Rattle.std.proofs.Common.{drop, ◌++◌, ◌≡◌}
use Rattle.std.specs.List.{flat_map}
use Rattle.std.specs.String.{string_bytes}
use Rattle.cli_matching.specs.MatchTexts.PlanText.{plan_line, plan_text}
use Rattle.cli_matching.proofs.match_texts.plan.write_plan.Given as goal

abbrev pub invariant-loop-line : goal.invariant-loop-line
invariant-loop-line l =
    string_bytes l.text ++ flat_map (plan_line l.chart.lines l.plan) (drop l.line-index l.chart.lines)
    ≡ string_bytes l.initial.text ++ plan_text l.chart.lines l.plan
