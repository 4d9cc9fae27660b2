-- The emitters, unit 42. Each of the eight has an exit for every row of a card, and emits there at the row's point in the
-- cycles of its kind: 1 to 3 in the heading cycles, 4 in card cycles, 5 to 8 in the third program cycles of the levels 1 to 4.
-- They keep nothing, sense nothing and have no contacts.
use Rattle.std.specs.Prelude.{ℕ, Bool, false, Option, Some, None}
use Rattle.card_code.specs.Rows.{row_number}
use Rattle.card_code.specs.declared.row.Row.{Row as CardRow}
use Rattle.hubs.specs.declared.hub.Hub.{Hub}
use Rattle.hubs.specs.declared.hub.Hub.TheVariants.{EM}
pub use Rattle.net.specs.Cycles.{emitter_of}
use Rattle.net.specs.HubSets.{is_hub}
use Rattle.net.specs.declared.cycle.Cycle.{Cycle}
use Rattle.net.specs.declared.cycle.Point.{Point}
use Rattle.net.specs.declared.cycle.Point.TheVariants.{C, Row, K}
use Rattle.print_unit.specs.declared.emitters.Emitters.{Emitters}

-- at the start there is nothing to keep
abbrev pub emitters_at_start : Emitters
emitters_at_start = record {}

-- at a row's point an emitter emits at its exit for that row
abbrev pub emits_row : Option ℕ → CardRow → Hub → Bool
emits_row None row hub = false
emits_row (Some emitter) row hub = is_hub (EM emitter (row_number row)) hub

-- they emit at the points of the rows alone
abbrev pub emitters_emit : Emitters → Cycle → Point → Hub → Bool
emitters_emit emitters cycle C hub = false
emitters_emit emitters cycle (Row row) hub = emits_row (emitter_of cycle) row hub
emitters_emit emitters cycle K hub = false

-- their number among the units
abbrev pub emitters_number : Emitters → ℕ
emitters_number emitters = 42
