-- A run of the machine in which the units are served in rounds, by the orders of a service in turn. The rounds are counted on from
-- cycle to cycle.
use Rattle.std.specs.Prelude.{◌≡◌, ℕ, zero, suc, ◌+◌, ◌*◌, ◌%◌, List, [], ◌∷◌, ◌++◌, Some, None, length, map, slice_index_or}
use Rattle.machine.specs.Cycles.{line_of}
use Rattle.machine.specs.Machine.{MachineState}
use Rattle.machine.specs.Runs.{InRun, cycle_due, made_ready, run_at_start}
use Rattle.net.specs.declared.cycle.Cycle.{Cycle}
use Rattle.page_text.specs.declared.placed_lines.placed_line.PlacedLine.{PlacedLine}
use Rattle.machine_served.specs.ServedWords.Orders.{unit_count}
use Rattle.machine_served.specs.ServedWords.Rounds.{Rounds}
use Rattle.machine_served.specs.ServedWords.Steps.{Served, Starts}
use Rattle.machine_served.specs.ServedRuns.Seen.{RoundsSee, hub_count}
use Rattle.machine_served.specs.declared.served_runs.counts.Counts.{Counts}
use Rattle.machine_served.specs.ServedUnits.AnyUnit.{AnyUnit, any_ended, any_kind, unit_at, unit_numbers, units_of}
use Rattle.hubs.specs.SetupsWords.Wiring.{Wiring}

-- the order of a round: the orders of a service come in turn
abbrev pub order_of : List (List ℕ) → ℕ → List ℕ
order_of service round = slice_index_or service (round % length service) []

-- the orders of so many rounds from one on
unfoldable pub orders_from : List (List ℕ) → ℕ → ℕ → List (List ℕ)
orders_from service round zero = []
orders_from service round (suc others) = order_of service round ∷ orders_from service (round + 1) others

-- A cycle in rounds, counted from those before it: they go on until it is over for all units, and then each unit ends it.
pub record CycleInRounds (wiring : Wiring) (service : List (List ℕ)) (cycle : Cycle) (old new : MachineState)
    (before after : Counts) : Type 0 where
  pub start : Served AnyUnit
  pub last : Served AnyUnit
  pub rounds : ℕ
  pub starts : Starts any_kind cycle unit_count (unit_at old) start
  pub taken : Rounds any_kind wiring cycle unit_count (orders_from service before.rounds rounds) start last
  pub ended : units_of new ≡ map (λ unit. any_ended (last.units unit) cycle) unit_numbers
  pub counted : after.rounds ≡ before.rounds + rounds
  pub seen : ℕ
  pub sees : RoundsSee wiring cycle (orders_from service before.rounds rounds) start last taken seen
  pub added : after.seen ≡ before.seen + seen

-- the cycles of a run from now on, one after the other until none is due, the lines that they place, and what was counted before them and
-- is after them
unfoldable pub RunsInRounds : Wiring → List (List ℕ) → List Cycle → InRun → Counts → List PlacedLine → Counts → Type 0
RunsInRounds wiring service [] run before lines after =
    (cycle_due run.machine ≡ None) × (lines ≡ []) × (after ≡ before)
RunsInRounds wiring service (cycle ∷ cycles) run before lines after =
    (new : MachineState)
    × (counted : Counts)
    × (others : List PlacedLine)
    × (cycle_due run.machine ≡ Some cycle)
    × CycleInRounds wiring service cycle (made_ready cycle run).machine new before counted
    × RunsInRounds wiring service cycles (record { machine = new; hopper = (made_ready cycle run).hopper }) counted others after
    × (lines ≡ line_of new ++ others)

-- nothing is counted yet
abbrev pub no_counts : Counts
no_counts = record { rounds = 0; seen = 0 }

-- A run over a deck, by the orders of a service: its lines, and what is counted in it.
abbrev pub IsServedRun : Wiring → List (List ℕ) → List (List ℕ) → List PlacedLine → Counts → Type 0
IsServedRun wiring service cards lines counts =
    (cycles : List Cycle) × RunsInRounds wiring service cycles (run_at_start wiring cards) no_counts lines counts

-- Helper words: a cycle takes no more rounds, and no more hubs are seen in it.
abbrev pub most_rounds : ℕ
most_rounds = 15

abbrev pub most_seen : ℕ
most_seen = most_rounds * (14 * hub_count * unit_count)
