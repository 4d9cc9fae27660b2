use Rattle.std.proofs.Common.{◌≡◌, drop}
use Rattle.explain_origins.specs.Holders.{passes}
use Rattle.explain_origins.proofs.holders.passes.Given as goal

-- none of the hubs so far is such an exit
abbrev pub invariant-loop-hub : goal.invariant-loop-hub
invariant-loop-hub l = passes l.fn.holder (drop l.hub-index l.hubs) ≡ passes l.fn.holder l.hubs
