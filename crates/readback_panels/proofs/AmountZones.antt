-- Zones of wheels on which the panel shows amounts.
use Rattle.std.proofs.Common.{◌≡◌, ◌∙◌, ◌++◌, ◌∷◌, [], ap, append_assoc, ℕ, ◌+◌, ◌-◌, ◌<◌, ◌≤◌, ◌⊎◌, inl, inr, arith, refl, subst, sym, All, true, List, get_or, length, Option, None, Some, nat_le}
use Rattle.std.proofs.lemmas.Bool.{and_parts, cases_lt, leb-true}
use Rattle.std.proofs.lemmas.List.Elements.{All-get_or, All-push}
use Rattle.chart_lines.specs.ChartsWords.Levels.{level_number}
use Rattle.chart_lines.specs.declared.charts.level.Level.{Level}
use Rattle.hubs.specs.declared.hub.Group.{Group}
use Rattle.hubs.specs.declared.hub.Hub.{Hub}
use Rattle.hubs.specs.declared.hub.Hub.TheVariants as hub
use Rattle.hubs.specs.declared.jack.Jack.TheVariants.{Link}
use Rattle.readback_panels.specs.Chains.{exit_of}
use Rattle.readback_panels.specs.Shown.{HasUnitsOn, IsAmountWheel, IsAmountZone}
use Rattle.readback_panels.specs.declared.totals.Counter.{Counter}
use Rattle.readback_panels.specs.declared.totals.Total.{Total}
use Rattle.readback_panels.specs.declared.zones.Zone.{Zone}
use Rattle.hubs.specs.SetupsWords.Wiring.{HasJack, HasWire, Wiring}

-- a zone that the jacks show
pub zone_linked : (setup : Wiring) (zone : Zone) (second : ℕ) → 2 ≤ second → zone.first ≡ second - 1 → second ≤ zone.last
    → ((next : ℕ) → second ≤ next → next ≤ zone.last → HasJack setup (Link next)) → IsAmountZone setup zone
zone_linked setup zone second from first last linked wheel has =
    let parts : (nat_le zone.first wheel ≡ true) × (nat_le wheel zone.last ≡ true) = and_parts _ _ has in
    by (leb-true zone.first wheel parts.0) (leb-true wheel zone.last parts.1) (cases_lt wheel second)
  where
    by : zone.first ≤ wheel → wheel ≤ zone.last → (wheel < second) ⊎ (second ≤ wheel) → IsAmountWheel setup wheel
    by low high (inl before) = inl (inr (record {
      second = omega (arith, from, first, low);
      plugged = linked (wheel + 1) (omega (arith, first, low)) (omega (arith, before, last));
    }))
    by low high (inr behind) =
        inl (inl (record { second = omega (arith, from, behind); plugged = linked wheel behind high }))

-- a zone of one wheel, on which the units of a total stand
pub zone_alone : (setup : Wiring) (zone : Zone) (units : ℕ) → zone.first ≡ units → zone.last ≡ units → HasUnitsOn setup units
    → IsAmountZone setup zone
zone_alone setup zone units first last on wheel has =
    let parts : (nat_le zone.first wheel ≡ true) × (nat_le wheel zone.last ≡ true) = and_parts _ _ has in
    let low : zone.first ≤ wheel = leb-true zone.first wheel parts.0 in
    let high : wheel ≤ zone.last = leb-true wheel zone.last parts.1 in
    let same : units ≡ wheel = omega (arith, first, last, low, high) in
    inr (subst (λ (n : ℕ). HasUnitsOn setup n) same on)

-- the units of a counter leave it at the first position of its lower group
units_exit : (counter : Counter) → exit_of counter 1 ≡ hub.GX counter.lower 1
units_exit counter = by counter.upper
  where
    by : (upper : Option Group) → exit_of (record { lower = counter.lower; upper = upper }) 1 ≡ hub.GX counter.lower 1
    by None = refl
    by (Some upper) = refl

pub units_on : (setup : Wiring) (level : Level) (counter : Counter) (wheel : ℕ)
    → HasWire setup (hub.PX (level_number level) 3) (hub.RO counter.lower) → HasWire setup (exit_of counter 1) (hub.W wheel)
    → HasUnitsOn setup wheel
units_on setup level counter wheel out units = record {
  level = level;
  group = counter.lower;
  out = out;
  units = subst (λ (exit : Hub). HasWire setup exit (hub.W wheel)) (units_exit counter) units;
}

-- a zone of a list
pub zone_listed : (setup : Wiring) (zones : List Zone) (place : ℕ) (zone d : Zone) → place < length zones → zone ≡ get_or zones place d
    → All (IsAmountZone setup) zones → IsAmountZone setup zone
zone_listed setup zones place zone d less is all =
    subst (IsAmountZone setup) (sym is) (All-get_or (IsAmountZone setup) zones place d less all)

-- a zone more
pub zone_pushed : (setup : Wiring) (old new : List Zone) (zone : Zone) → new ≡ old ++ zone ∷ [] → All (IsAmountZone setup) old
    → IsAmountZone setup zone → All (IsAmountZone setup) new
zone_pushed setup old new zone same before here =
    subst (All (IsAmountZone setup)) (sym same) (All-push (IsAmountZone setup) old zone before here)

-- zones that were gained, and more
pub zones_then : (first second third : List Zone) → (more : List Zone) × (second ≡ first ++ more)
    → (more : List Zone) × (third ≡ second ++ more) → (more : List Zone) × (third ≡ first ++ more)
zones_then first second third (some, one) (others, two) =
    (some ++ others, two ∙ ap (λ (l : List Zone). l ++ others) one ∙ append_assoc first some others)

pub zones_pushed : (first second third : List Zone) (zone : Zone) → (more : List Zone) × (second ≡ first ++ more)
    → third ≡ second ++ zone ∷ [] → (more : List Zone) × (third ≡ first ++ more)
zones_pushed first second third zone before pushed = zones_then first second third before (zone ∷ [], pushed)

-- the zone of a total more
pub total_zone_pushed : (setup : Wiring) (old new : List Total) (total : Total) → new ≡ old ++ total ∷ []
    → All (λ its. IsAmountZone setup its.zone) old → IsAmountZone setup total.zone → All (λ its. IsAmountZone setup its.zone) new
total_zone_pushed setup old new total same before here =
    subst (All (λ its. IsAmountZone setup its.zone)) (sym same) (All-push (λ its. IsAmountZone setup its.zone) old total before here)
