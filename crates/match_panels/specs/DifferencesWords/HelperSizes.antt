-- Helpers of the code: counting hub by hub, place by place and line by line.
use Rattle.std.specs.Prelude.{◌≡◌, ℕ, ◌<◌, List, Contains, Some, slice_get, take, true}
use Rattle.hubs.specs.Hubs.{number_of}
use Rattle.hubs.specs.Jacks.{jack_place}
use Rattle.hubs.specs.declared.hub.Hub.{Hub}
use Rattle.hubs.specs.declared.jack.Jack.{Jack}
use Rattle.hubs.specs.SetupsWords.Tapes.{CarriageTape, has_stop}
use Rattle.hubs.specs.SetupsWords.Wiring.{Wiring, HasJack, HasWire}

-- the number at a place of a list stands before it too
pub record HasBefore (numbers : List ℕ) (place : ℕ) : Type 0 where
  pub number : ℕ
  pub here : slice_get numbers place ≡ Some number
  pub before : Contains (take place numbers) number

-- a number stands at a place of a list and nowhere before it
pub record IsNewAt (numbers : List ℕ) (place number : ℕ) : Type 0 where
  pub here : slice_get numbers place ≡ Some number
  pub new : ¬ Contains (take place numbers) number

-- a wire from the exit of a number
pub record WireFrom (wiring : Wiring) (number : ℕ) (wire : Hub × Hub) : Type 0 where
  pub numbered : number_of wire.0 ≡ Some number
  pub there : HasWire wiring wire.0 wire.1

-- a wire from an exit of a number before one
pub record WireFromBefore (wiring : Wiring) (number : ℕ) (wire : Hub × Hub) : Type 0 where
  pub there : HasWire wiring wire.0 wire.1
  pub before : there.number < number

-- a plugged jack at a place, and before one
pub record JackAt (wiring : Wiring) (place : ℕ) (jack : Jack) : Type 0 where
  pub placed : jack_place jack ≡ place
  pub there : HasJack wiring jack

pub record JackBefore (wiring : Wiring) (place : ℕ) (jack : Jack) : Type 0 where
  pub placed : jack_place jack < place
  pub there : HasJack wiring jack

-- a stop at a channel and a line; in a channel, at a line before one; in a channel; and in a channel before one
pub record StopAt (tape : CarriageTape) (channel line : ℕ) (stop : ℕ × ℕ) : Type 0 where
  pub in_channel : stop.0 ≡ channel
  pub at_line : stop.1 ≡ line
  pub there : has_stop tape stop.0 stop.1 ≡ true

pub record StopInBefore (tape : CarriageTape) (channel line : ℕ) (stop : ℕ × ℕ) : Type 0 where
  pub in_channel : stop.0 ≡ channel
  pub before : stop.1 < line
  pub there : has_stop tape stop.0 stop.1 ≡ true

pub record StopIn (tape : CarriageTape) (channel : ℕ) (stop : ℕ × ℕ) : Type 0 where
  pub in_channel : stop.0 ≡ channel
  pub there : has_stop tape stop.0 stop.1 ≡ true

pub record StopBefore (tape : CarriageTape) (channel : ℕ) (stop : ℕ × ℕ) : Type 0 where
  pub lower : stop.0 < channel
  pub there : has_stop tape stop.0 stop.1 ≡ true
