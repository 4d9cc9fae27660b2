use Rattle.std.proofs.Common.{◌≡◌, drop}
use Rattle.explain_origins.specs.Holders.{leads_through}
use Rattle.explain_origins.proofs.holders.leads_through.Given as goal

-- none of the ways so far leads through one
abbrev pub invariant-loop-way : goal.invariant-loop-way
invariant-loop-way l = leads_through l.fn.holder (drop l.way-index l.ways) ≡ leads_through l.fn.holder l.ways
