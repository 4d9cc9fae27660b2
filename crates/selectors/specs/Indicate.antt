-- Group indication: 30 positions on each of the levels 1 to 3, and a latch for each level. All latches are set at the
-- start and reset at the end of every card cycle. The latch of a level is set at the end of the level's third program
-- cycle. While it is set, the contacts of the level's positions are closed in card cycles.
use Rattle.std.specs.Prelude.{ℕ, ◌&&◌, ◌==◌, Bool, true, false, if◌then◌else◌}
use Rattle.hubs.specs.HubTable.Ranges.{is_within}
use Rattle.hubs.specs.declared.hub.Hub.{Hub}
use Rattle.hubs.specs.declared.hub.Hub.TheVariants.{IX}
use Rattle.net.specs.declared.cycle.Cycle.{Cycle}
use Rattle.net.specs.declared.cycle.Cycle.TheVariants.{Card, Prog}
use Rattle.net.specs.declared.cycle.ProgramLevel.TheVariants.{Minor, Intermediate, Major}
use Rattle.net.specs.declared.cycle.Ordinal.TheVariants.{Third}
use Rattle.net.specs.declared.cycle.Point.{Point}

-- The latches of the levels 1, 2 and 3.
pub record Latches : Type 0 where
  pub minor : Bool
  pub intermediate : Bool
  pub major : Bool

-- All are set at the start.
abbrev pub indicate_at_start : Latches
indicate_at_start = record { minor = true; intermediate = true; major = true }

-- whether the latch of a level is set; there are none but those of 1 to 3
abbrev pub is_latch_set : Latches → ℕ → Bool
is_latch_set latches level =
    if level == 1 then latches.minor
    else if level == 2 then latches.intermediate
    else if level == 3 then latches.major
    else false

-- The contacts of a level's positions, at all points of card cycles.
abbrev pub indicate_closes : Latches → Cycle → Point → Hub → Bool
indicate_closes latches Card point (IX level position) = is_latch_set latches level && is_within position 30
indicate_closes latches cycle point hub = false

-- What the end of a cycle makes of the latches.
abbrev pub indicate_ended : Latches → Cycle → Latches
indicate_ended latches Card = record { minor = false; intermediate = false; major = false }
indicate_ended latches (Prog Minor Third) = record latches { minor = true }
indicate_ended latches (Prog Intermediate Third) = record latches { intermediate = true }
indicate_ended latches (Prog Major Third) = record latches { major = true }
indicate_ended latches cycle = latches

-- its number among the units
abbrev pub indicate_number : Latches → ℕ
indicate_number latches = 40
