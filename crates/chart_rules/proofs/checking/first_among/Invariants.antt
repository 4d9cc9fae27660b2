use Rattle.chart_rules.specs.HelperOrder.{AreKept}
use Rattle.chart_rules.proofs.checking.first_among.Given as goal

abbrev pub invariant-loop-rule : goal.invariant-loop-rule
invariant-loop-rule l = AreKept l.rules l.rule-index l.raw
