use Rattle.std.proofs.Common.{◌≡◌, ◌++◌, take}
use Rattle.chart_rules.specs.Rules.{lacks}
use Rattle.fault_chart_words.specs.HelperLists.{at_line}
use Rattle.fault_chart_words.proofs.listing.add_lacking.Given as goal

-- what is added is the list of the rules so far
abbrev pub invariant-loop-rule : goal.invariant-loop-rule
invariant-loop-rule l =
    l.list.items ≡ l.initial.list.items ++ at_line l.raw.end (λ each. lacks each l.raw.lines) (take l.rule-index l.rules)
