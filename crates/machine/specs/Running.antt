-- A machine that runs: it is fed at most 999,999 cards and then the end, and takes nothing more after the end. A feed that
-- is not run to its end, as memory was refused in it or it was run up to a line alone, spoils it: it takes nothing from then on.
use Rattle.std.specs.Prelude.{◌≡◌, ℕ, ◌+◌, ◌==◌, ◌&&◌, Bool, true, false, List, Option, Some, None, is_some, if◌then◌else◌}
use Rattle.card_code.specs.MostCards.{most_cards}
use Rattle.hubs.specs.SetupsWords.Wiring.{Wiring}
use Rattle.net.specs.Nets.{NetRows, IsNetOf}
use Rattle.machine.specs.Machine.{MachineState, machine_at_start}
use Rattle.machine.specs.declared.fault.FeedFault.{FeedFault}
use Rattle.machine.specs.declared.fault.FeedFault.TheVariants.{Spoiled, TooManyCards, Ended, Memory}

-- A machine between feeds: its wires, its units, how many cards it was fed, whether the end was, and whether it is spoiled.
pub record Running : Type 0 where
  pub net : NetRows
  pub machine : MachineState
  pub cards : ℕ
  pub is_ended : Bool
  pub is_spoiled : Bool

-- the machine of a setup before the first feed
pub record IsStarted (wiring : Wiring) (running : Running) : Type 0 where
  pub net : IsNetOf wiring running.net
  pub machine : running.machine ≡ machine_at_start wiring
  pub cards : running.cards ≡ 0
  pub goes_on : running.is_ended ≡ false
  pub whole : running.is_spoiled ≡ false

-- why a feed is refused, if it is: a spoiled machine first, then a card too many, then what comes after the end
abbrev pub refusal : Running → Option (List ℕ) → Option FeedFault
refusal running next =
    if running.is_spoiled
    then Some Spoiled
    else if is_some next && (running.cards == most_cards)
    then Some TooManyCards
    else if running.is_ended then Some Ended else None

-- the machine after a feed, with its units as the feed left them
abbrev pub fed : Option (List ℕ) → MachineState → Running → Running
fed None machine running = record running { machine = machine; is_ended = true }
fed (Some card) machine running = record running { machine = machine; cards = running.cards + 1 }

-- the number of a fault; memory has none
abbrev pub fault_number : FeedFault → Option ℕ
fault_number Spoiled = Some 81
fault_number TooManyCards = Some 82
fault_number Ended = Some 83
fault_number Memory = None
