use Rattle.std.specs.Prelude.{◌≡◌, ◌≤◌, take}
use Rattle.print_unit.specs.ZeroControl.{count_of}
use Rattle.explain_wheels.proofs.explanations.significance.count_received.Given as goal

-- those so far are counted
abbrev pub invariant-loop-has : goal.invariant-loop-has
invariant-loop-has l = record { count : l.count ≡ count_of (take l.has-index l.received); within : l.count ≤ l.has-index }
