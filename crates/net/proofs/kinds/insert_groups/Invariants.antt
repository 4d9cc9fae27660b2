use Rattle.net.specs.Kinds.{HasGroups, KeepsHubs}
use Rattle.net.proofs.kinds.insert_groups.Given as goal

-- the groups with smaller numbers are added
abbrev pub invariant-loop-number : goal.invariant-loop-number
invariant-loop-number l = record {
  kept : KeepsHubs l.initial.exits l.exits;
  groups : HasGroups l.width l.number l.told l.exits;
}
