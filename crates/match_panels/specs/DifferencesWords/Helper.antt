-- Helpers of the code: a difference hub by hub, jack by jack and stop by stop.
use Rattle.std.specs.Prelude.{◌≡◌, ◌↔◌, ℕ, ◌<◌, Some, true, false}
use Rattle.hubs.specs.Hubs.{number_of}
use Rattle.hubs.specs.Jacks.{jack_place}
use Rattle.hubs.specs.declared.hub.Hub.{Hub}
use Rattle.hubs.specs.declared.jack.Jack.{Jack}
use Rattle.hubs.specs.SetupsWords.Tapes.{CarriageTape, has_stop}
use Rattle.hubs.specs.SetupsWords.Wiring.{Wiring, HasWire}
use Rattle.match_panels.specs.DifferencesWords.Differences.{LacksJack, LacksWire}

-- a wire that is lacking leads from an exit to the entry of a number
pub record LacksTo (other : Wiring) (exit : Hub) (number : ℕ) (from to : Hub) : Type 0 where
  pub leaves : from ≡ exit
  pub numbered : number_of to ≡ Some number
  pub lacking : ¬ HasWire other from to

-- a wire that is lacking leads from the exit of a number
pub record LacksFrom (one other : Wiring) (number : ℕ) (from to : Hub) : Type 0 where
  pub numbered : number_of from ≡ Some number
  pub wire : LacksWire one other from to

-- a jack that is lacking has a place
pub record LacksAt (one other : Wiring) (place : ℕ) (jack : Jack) : Type 0 where
  pub placed : jack_place jack ≡ place
  pub lacks : LacksJack one other jack

-- a jack that is lacking has a place before one
pub record LacksBefore (one other : Wiring) (place : ℕ) (jack : Jack) : Type 0 where
  pub placed : jack_place jack < place
  pub lacks : LacksJack one other jack

-- a stop that one tape has and another has not
pub record LacksHole (one other : CarriageTape) (channel line : ℕ) : Type 0 where
  pub there : has_stop one channel line ≡ true
  pub lacking : has_stop other channel line ≡ false

-- such a stop at a channel and a line
pub record LacksStopAt (one other : CarriageTape) (channel line c l : ℕ) : Type 0 where
  pub in_channel : c ≡ channel
  pub at_line : l ≡ line
  pub hole : LacksHole one other c l

-- such a stop in a channel, at a line before one
pub record LacksInBefore (one other : CarriageTape) (channel line c l : ℕ) : Type 0 where
  pub in_channel : c ≡ channel
  pub before : l < line
  pub hole : LacksHole one other c l

-- such a stop in a channel
pub record LacksIn (one other : CarriageTape) (channel c l : ℕ) : Type 0 where
  pub in_channel : c ≡ channel
  pub hole : LacksHole one other c l

-- such a stop in a channel before one
pub record LacksInLower (one other : CarriageTape) (channel c l : ℕ) : Type 0 where
  pub lower : c < channel
  pub hole : LacksHole one other c l

-- the form of one tape with just the stops that it has and the other has not
pub record IsTapeDifference (one other left : CarriageTape) : Type 0 where
  pub stops : (channel line : ℕ) → (has_stop left channel line ≡ true) ↔ LacksHole one other channel line
  pub lines : left.lines ≡ one.lines
  pub first : left.first ≡ one.first
  pub overflow : left.overflow ≡ one.overflow
