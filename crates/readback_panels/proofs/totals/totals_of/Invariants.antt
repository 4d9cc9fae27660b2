use Rattle.std.specs.Prelude.{All}
use Rattle.readback_panels.specs.Chains.{IsReadOut}
use Rattle.readback_panels.specs.Shown.{IsAmountZone}
use Rattle.readback_panels.proofs.totals.totals_of.Given as goal

abbrev pub invariant-loop-place : goal.invariant-loop-place
invariant-loop-place l = record {
  out : All (IsReadOut l.setup) l.totals.items;
  zones : All (λ total. IsAmountZone l.setup total.zone) l.totals.items;
}
