-- The zones of wheels in which amounts stand, and the texts on the line of a card, which stand beside them.
use Rattle.std.specs.Prelude.{◌≡◌, ◌&&◌, ◌⊎◌, ℕ, ◌+◌, ◌<◌, ◌≤◌, Bool, true, List, nat_le, nat_lt}
use Rattle.std.specs.List.{list_any}
use Rattle.chart_lines.specs.declared.charts.statement.BodyLine.TheVariants.{Detail}
use Rattle.hubs.specs.declared.jack.Jack.TheVariants.{Link}
use Rattle.readback_panels.specs.Items.{IsText}
use Rattle.readback_panels.specs.declared.card_line.Run.{Run}
use Rattle.readback_panels.specs.declared.draft.Item.{Item}
use Rattle.readback_panels.specs.declared.draft.PrintedLine.TheVariants.{Body}
use Rattle.readback_panels.specs.declared.zones.Zone.{Zone}
use Rattle.hubs.specs.SetupsWords.Wiring.{HasJack, Wiring}

-- a wheel with LINK, which has one to its left
pub record IsLinked (setup : Wiring) (wheel : ℕ) : Type 0 where
  pub second : 2 ≤ wheel
  pub plugged : HasJack setup (Link wheel)

-- the jacks show that an amount stands on a wheel: LINK is plugged on it, or on the wheel to its right
abbrev pub IsInZone : Wiring → ℕ → Type 0
IsInZone setup wheel = IsLinked setup wheel ⊎ IsLinked setup (wheel + 1)

-- whether a wheel is one of a zone
abbrev pub has_wheel : ℕ → Zone → Bool
has_wheel wheel zone = nat_le zone.first wheel && nat_le wheel zone.last

-- whether a wheel and the one to its left are of a zone
abbrev pub has_both : ℕ → Zone → Bool
has_both wheel zone = nat_lt zone.first wheel && nat_le wheel zone.last

-- zones have each wheel with LINK and the one to its left
abbrev pub CoverLinks : Wiring → List Zone → Type 0
CoverLinks setup zones = (wheel : ℕ) → IsLinked setup wheel → list_any (has_both wheel) zones ≡ true

-- so it is for the wheels below a bound
abbrev pub CoverBelow : Wiring → List Zone → ℕ → Type 0
CoverBelow setup zones bound = (wheel : ℕ) → IsLinked setup wheel → wheel < bound → list_any (has_both wheel) zones ≡ true

-- no amount stands on a wheel of a run
abbrev pub IsRunOutside : Wiring → Run → Type 0
IsRunOutside setup run = (wheel : ℕ) → run.wheel ≤ wheel → wheel ≤ run.last_wheel → ¬ IsInZone setup wheel

-- a text on the line of a card, on wheels on which no amount stands
pub record IsTextOutside (setup : Wiring) (item : Item) : Type 0 where
  pub on : item.line ≡ Body Detail
  pub says : IsText item.said
  pub outside : (wheel : ℕ) → item.first ≤ wheel → wheel ≤ item.last → ¬ IsInZone setup wheel
