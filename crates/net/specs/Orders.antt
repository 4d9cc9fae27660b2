-- What a picture of the control point tells the units: rows of the hubs that they sense there.
use Rattle.std.specs.Prelude.{◌≡◌, ℕ, ◌&&◌, ◌||◌, Bool, true}
use Rattle.hubs.specs.SetupsWords.Wiring.{Wiring}
use Rattle.hubs.specs.declared.hub.Hub.{Hub}
use Rattle.hubs.specs.declared.hub.Hub.TheVariants.{PL, SI, SP}
use Rattle.net.specs.HubSets.{is_in_reach, is_in_row}
use Rattle.net.specs.Impulsed.{IsPicture}
use Rattle.net.specs.Tells.{tells}
use Rattle.net.specs.declared.cycle.Cycle.{Cycle}
use Rattle.net.specs.declared.orders.Orders.{Orders}

-- the bits of a word are the hubs of a picture from the first one on
abbrev pub IsRowOf : Hub → (Hub → Bool) → ℕ → Type 0
IsRowOf first picture bits = (hub : Hub) → is_in_reach first hub ≡ true → is_in_row first bits hub ≡ picture hub

-- The orders are those of a picture: 32 each of plus, minus, read-out and balance test of all groups, reading in and reading out of the
-- storage units, and the hubs of the carriage.
pub record AreOrdersOf (picture : Hub → Bool) (orders : Orders) : Type 0 where
  pub controls : IsRowOf (PL (record { width = 3; number = 1 })) picture orders.controls
  pub storage : IsRowOf (SI 1) picture orders.storage
  pub carriage : IsRowOf (SP 2) picture orders.carriage

-- Orders are told at the control point of a cycle with these contacts closed: they are those of its picture.
pub record AreToldBy (wiring : Wiring) (cycle : Cycle) (closed : Hub → Bool) (orders : Orders) : Type 0 where
  pub picture : Hub → Bool
  pub is_picture : IsPicture wiring (tells cycle) closed picture
  pub are_orders : AreOrdersOf picture orders

-- the picture that has the hubs of orders, and no others
abbrev pub ordered : Orders → Hub → Bool
ordered orders hub =
    (is_in_reach (PL (record { width = 3; number = 1 })) hub && is_in_row (PL (record { width = 3; number = 1 })) orders.controls hub)
    || ((is_in_reach (SI 1) hub && is_in_row (SI 1) orders.storage hub)
    || (is_in_reach (SP 2) hub && is_in_row (SP 2) orders.carriage hub))
