use Rattle.std.proofs.Common.{◌≡◌, drop}
use Rattle.explain_wheel_ledgers.specs.Printed.{group_of_ways}
use Rattle.explain_wheel_ledgers.proofs.printed.group_of_ways.Given as goal

-- none of the ways so far begins at a group
abbrev pub invariant-loop-way : goal.invariant-loop-way
invariant-loop-way l = group_of_ways (drop l.way-index l.ways) ≡ group_of_ways l.ways
