-- Wires of a panel one by one.
use Rattle.std.proofs.Common.{◌≡◌, ◌↔◌, ◌++◌, ◌∷◌, [], ℕ, All, Contains, List, Some, subst, sym}
use Rattle.std.proofs.lemmas.List.Elements.{All-push}
use Rattle.hubs.proofs.HubLemmas.{number_of-injective}
use Rattle.hubs.specs.Hubs.{number_of}
use Rattle.hubs.specs.declared.hub.Hub.{Hub}
use Rattle.readback_charts.specs.PanelSlips.Slips.{IsWire}
use Rattle.readback_charts.specs.declared.panel_slips.toggles.Wire.{Wire}
use Rattle.hubs.specs.SetupsWords.Wiring.{HasWire, Wiring}

-- a number that stands among the entries of an exit makes a wire of the panel
pub wire_listed : (setup : Wiring) (hub : Hub) (entries : List ℕ) (exit number : ℕ) → number_of hub ≡ Some exit
    → ((entry : Hub) (n : ℕ) → number_of entry ≡ Some n → Contains entries n ↔ HasWire setup hub entry)
    → Contains entries number → IsWire setup (record { exit = exit; entry = number })
wire_listed setup hub entries exit number numbered value listed from to between =
    subst (λ (h : Hub). HasWire setup h to) (number_of-injective hub from exit numbered between.from)
    ((value to number between.to).0 listed)

-- one wire of the panel more
pub wires_more : (setup : Wiring) (old new : List Wire) (wire : Wire) → new ≡ old ++ wire ∷ [] → All (IsWire setup) old → IsWire setup wire
    → All (IsWire setup) new
wires_more setup old new wire is before here =
    subst (λ (wires : List Wire). All (IsWire setup) wires) (sym is) (All-push (IsWire setup) old wire before here)
