use Rattle.std.proofs.Common.{ℕ, Bool, All, take}
use Rattle.hubs.specs.declared.hub.Hub.{Hub}
use Rattle.machine_sets.specs.BitSets.Bits.{has_place}
use Rattle.net.specs.Orders.{AreOrdersOf}
use Rattle.net.specs.Tellings.{AreLast, is_told}
use Rattle.net.proofs.tellings.told_through.Given as goal

-- the branches so far are told
abbrev pub invariant-loop-branch : goal.invariant-loop-branch
invariant-loop-branch l = record {
  told :
      (first : Hub → Bool) (led : ℕ → Hub → Bool) → AreOrdersOf first l.base → All (λ branch. AreOrdersOf (led branch.place) branch.orders) l.branches
      → AreOrdersOf (is_told first led (has_place l.closed) (take l.branch-index l.branches)) l.orders;
  last : AreLast (has_place l.closed) (take l.branch-index l.branches);
}
