use Rattle.std.specs.Prelude.{◌≡◌, ◌++◌, All, List}
use Rattle.readback_panels.specs.Shown.{IsAmountZone}
use Rattle.readback_panels.specs.declared.zones.Zone.{Zone}
use Rattle.hubs.specs.SetupsWords.Wiring.{Wiring}
use Rattle.readback_panels.proofs.reading.add_small_zones.Given as goal

abbrev pub invariant-loop-wheel : goal.invariant-loop-wheel
invariant-loop-wheel l = record {
  gained : (more : List Zone) × (l.zones.items ≡ l.fn.zones.items ++ more);
  amounts : (setup : Wiring) → All (λ total. IsAmountZone setup total.zone) l.totals → All (IsAmountZone setup) l.fn.zones.items
      → All (IsAmountZone setup) l.zones.items;
}
