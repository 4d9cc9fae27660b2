-- What the carriage is asked for at the control point of a cycle: how far a printing cycle spaces, the channel to skip to,
-- and a restore.
use Rattle.std.specs.Prelude.{ℕ, zero, suc, Bool, false, Option, Some, None, if◌then◌else◌}
use Rattle.hubs.specs.declared.hub.Hub.{Hub}
use Rattle.hubs.specs.declared.hub.Hub.TheVariants.{SP, SK, RS}
use Rattle.carriage.specs.declared.asked.Asked.{Asked}

-- nothing is asked for: single spacing
abbrev pub nothing_asked : Asked
nothing_asked = record { lines = 1; channel = None; restore = false }

-- triple spacing rules over double spacing
abbrev pub lines_asked : (Hub → Bool) → ℕ
lines_asked picture = if picture (SP 3) then 3 else if picture (SP 2) then 2 else 1

-- the lowest channel of so many, from the given one on, whose skip hub is impulsed
abbrev pub lowest_from : ℕ → ℕ → (Hub → Bool) → Option ℕ
lowest_from channel zero picture = None
lowest_from channel (suc others) picture =
    if picture (SK channel) then Some channel else lowest_from (suc channel) others picture

-- the lowest of the twelve channels whose skip hub is impulsed
abbrev pub channel_asked : (Hub → Bool) → Option ℕ
channel_asked picture = lowest_from 1 12 picture

-- what the picture of the control point asks for
abbrev pub asked_by : (Hub → Bool) → Asked
asked_by picture = record {
  lines = lines_asked picture;
  channel = channel_asked picture;
  restore = picture RS;
}
