-- Helper words: what the contacts that lead from a hub pass on.
use Rattle.std.specs.Prelude.{◌≡◌, ℕ, Bool, true, Option, Some, None}
use Rattle.hubs.specs.Hubs.{number_of}
use Rattle.hubs.specs.declared.hub.Hub.{Hub}
use Rattle.hubs.specs.declared.hub.Hub.TheVariants.{CO, BAN, BAT, PIN, PIT, IX, CSD, CSZ, CI, BAC, PIC, IE, CSE}
use Rattle.net.specs.Panel.{contact_of}

-- the hubs to which contacts lead from a hub: none, one or two
abbrev pub contacts_from : Hub → Option Hub × Option Hub
contacts_from (CI group) = (Some (CO group), None)
contacts_from (BAC group position) = (Some (BAN group position), Some (BAT group position))
contacts_from (PIC pilot position) = (Some (PIN pilot position), Some (PIT pilot position))
contacts_from (IE level position) = (Some (IX level position), None)
contacts_from (CSE split) = (Some (CSD split), Some (CSZ split))
contacts_from other = (None, None)

-- there is an exit, its contact is closed, and it has this number
pub record IsShutAt (closed : Hub → Bool) (exit : Option Hub) (to : ℕ) : Type 0 where
  pub hub : Hub
  pub is : exit ≡ Some hub
  pub shut : closed hub ≡ true
  pub numbered : number_of hub ≡ Some to

-- a closed contact leads from a hub to that with this number
pub record IsPassedTo (closed : Hub → Bool) (common : Hub) (to : ℕ) : Type 0 where
  pub exit : Hub
  pub contact : contact_of exit ≡ Some common
  pub shut : closed exit ≡ true
  pub numbered : number_of exit ≡ Some to
