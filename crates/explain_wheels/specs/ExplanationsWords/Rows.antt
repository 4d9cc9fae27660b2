-- Helper words: the rows of a kept cycle, by the ways that were found at each.
use Rattle.std.specs.Prelude.{◌≡◌, ◌↔◌, ℕ, ◌+◌, ◌<◌, Bool, true, false, List, [], Option, Some, None, length, slice_index_or}
use Rattle.hubs.specs.declared.hub.Hub.{Hub}
use Rattle.hubs.specs.declared.hub.Hub.TheVariants.{W}
use Rattle.hubs.specs.SetupsWords.Wiring.{Wiring}
use Rattle.net.specs.HubSets.{has_hub}
use Rattle.net.specs.Impulsed.{IsImpulsed, IsPicture}
use Rattle.net.specs.declared.cycle.Point.{Point}
use Rattle.machine.specs.Cycles.{point_at}
use Rattle.machine.specs.Kept.{kept_at}
use Rattle.machine.specs.declared.kept.KeptPoint.{KeptPoint}
use Rattle.explain_wheels.specs.WaysWords.Tables.{AreWaysOf, WayTable}
use Rattle.explain_wheels.specs.ExplanationsWords.Explanations.{GivesSignificance, IsGiver}
use Rattle.explain_wheels.specs.declared.explanations.significance.Giver.{Giver}

-- no ways
abbrev pub no_ways : WayTable
no_ways = record { steps = [] }

-- the ways are those of the first rows of a kept cycle
pub record AreRowWays (wiring : Wiring) (points : List KeptPoint) (count : ℕ) (ways : List WayTable) : Type 0 where
  pub long : length ways ≡ count
  pub each :
      (row : ℕ) → row < count
      → AreWaysOf wiring (has_hub (kept_at points (row + 1)).exits) (has_hub (kept_at points (row + 1)).contacts)
      (slice_index_or ways row no_ways)

-- these are the pictures of the rows of a kept cycle
abbrev pub ArePictures : Wiring → List KeptPoint → (Point → Hub → Bool) → Type 0
ArePictures wiring points pictures =
    (row : ℕ) → row < 12
    → IsPicture wiring (has_hub (kept_at points (row + 1)).exits) (has_hub (kept_at points (row + 1)).contacts)
    (pictures (point_at (row + 1)))

-- these are the rows at which a wheel was impulsed, of so many
abbrev pub HasReceived : Wiring → List KeptPoint → ℕ → ℕ → List Bool → Type 0
HasReceived wiring points wheel count received =
    (row : ℕ) → row < count
    → (slice_index_or received row false ≡ true)
    ↔ IsImpulsed wiring (has_hub (kept_at points (row + 1)).exits) (has_hub (kept_at points (row + 1)).contacts) (W wheel)

-- the nearest wheel that gives a wheel its significance, or that none does
abbrev pub TellsGiver : Wiring → (Point → Hub → Bool) → ℕ → Option Giver → Type 0
TellsGiver wiring pictures wheel (Some giver) = IsGiver wiring pictures giver wheel
TellsGiver wiring pictures wheel None = (from : ℕ) → GivesSignificance wiring pictures from wheel → ⊥
