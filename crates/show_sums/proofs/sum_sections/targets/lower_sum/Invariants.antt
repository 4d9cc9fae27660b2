use Rattle.std.specs.Prelude.{◌≡◌, drop}
use Rattle.show_sums.specs.SumSections.Targets.{lower_sum}
use Rattle.show_sums.proofs.sum_sections.targets.lower_sum.Given as goal

-- it is the first of those that are left
abbrev pub invariant-loop-sum : goal.invariant-loop-sum
invariant-loop-sum l = lower_sum (drop l.sum-index l.sums) l.passed l.total ≡ lower_sum l.sums l.passed l.total
