use Rattle.net.specs.Kinds.{HasUnits, KeepsHubs}
use Rattle.net.proofs.kinds.insert_units.Given as goal

-- the units with smaller numbers are added
abbrev pub invariant-loop-unit : goal.invariant-loop-unit
invariant-loop-unit l = record {
  kept : KeepsHubs l.initial.exits l.exits;
  units : HasUnits l.unit l.told l.exits;
}
