use Rattle.std.proofs.Common.{◌≡◌, ◌++◌, take}
use Rattle.fault_chart_words.specs.Listed.{is_at_fault}
use Rattle.fault_chart_words.specs.HelperLists.{at_line}
use Rattle.fault_chart_words.proofs.listing.add_broken.Given as goal

-- what is added is the list of the rules so far
abbrev pub invariant-loop-rule : goal.invariant-loop-rule
invariant-loop-rule l =
    l.list.items ≡ l.initial.list.items
    ++ at_line l.line.number (λ each. is_at_fault each l.raw l.earlier l.line) (take l.rule-index l.rules)
