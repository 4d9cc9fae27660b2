use Rattle.net.specs.HubSets.{has_hub}
use Rattle.net.specs.Tellings.{AreBranches}
use Rattle.net.proofs.tellings.branches_of.Given as goal

-- the exits so far have their branches
abbrev pub invariant-loop-number : goal.invariant-loop-number
invariant-loop-number l = AreBranches l.number l.rows (has_hub l.led) l.branches.items
