-- What the exits that tell of cycles make of the panel: what wires alone lead to from them, and what is added by each contact that they reach.
use Rattle.std.specs.Prelude.{◌≡◌, ℕ, ◌+◌, ◌<◌, ◌==◌, ◌||◌, ◌&&◌, Bool, true, false, List, Option, Some, None, All, length, slice_index_or}
use Rattle.std.specs.List.{list_any}
use Rattle.hubs.specs.Hubs.{number_of}
use Rattle.hubs.specs.declared.hub.Hub.{Hub}
use Rattle.net.specs.HubSets.{is_same_number}
use Rattle.net.specs.Nets.{leads_by}
use Rattle.net.specs.Orders.{AreOrdersOf}
use Rattle.net.specs.Panel.{contact_of}
use Rattle.net.specs.declared.tellings.Branch.{Branch}
use Rattle.net.specs.declared.tellings.Telling.{Telling}

-- whether a hub is the one with this number, or its row leads to the hub
abbrev pub is_led_from : List (List ℕ) → Option ℕ → Hub → Bool
is_led_from rows number hub = is_same_number number (number_of hub) || leads_by rows number (number_of hub)

-- the same from the hub at a place
abbrev pub is_led_at : List (List ℕ) → ℕ → Hub → Bool
is_led_at rows place hub = is_led_from rows (Some (place + 1)) hub

-- whether a contact leads from a hub of the base, where the hub that it leads from is given
abbrev pub is_passed_to : (Hub → Bool) → Option Hub → Bool
is_passed_to base (Some common) = base common
is_passed_to base None = false

-- A contact to which wires lead, by the place of its exit: what is told from there, and whether no contact is reached from there.
pub record IsBranch (rows : List (List ℕ)) (base : Hub → Bool) (branch : Branch) : Type 0 where
  pub exit : Hub
  pub common : Hub
  pub numbered : number_of exit ≡ Some (branch.place + 1)
  pub contact : contact_of exit ≡ Some common
  pub reached : base common ≡ true
  pub orders : AreOrdersOf (is_led_at rows branch.place) branch.orders
  pub last :
      branch.is_last ≡ true → (common hub : Hub) → contact_of hub ≡ Some common → is_led_at rows branch.place common ≡ false

-- whether the exit with a number is that of a branch
abbrev pub is_branch : List Branch → ℕ → Bool
is_branch branches number = list_any (λ branch. branch.place + 1 == number) branches

-- The branches are the contacts that lead from hubs of the base, up to exits below a number.
pub record AreBranches (number : ℕ) (rows : List (List ℕ)) (base : Hub → Bool) (branches : List Branch) : Type 0 where
  pub each : All (IsBranch rows base) branches
  pub all :
      (common hub : Hub) (n : ℕ) → n < number → number_of hub ≡ Some n → contact_of hub ≡ Some common → base common ≡ true
      → is_branch branches n ≡ true

-- The branch of an exit is added, if a contact leads there from a hub of the base.
pub record AddsBranch (rows : List (List ℕ)) (base : Hub → Bool) (exit : Hub) (number : ℕ) (old new : List Branch) : Type 0 where
  pub each : All (IsBranch rows base) old → All (IsBranch rows base) new
  pub kept : (n : ℕ) → is_branch old n ≡ true → is_branch new n ≡ true
  pub there : (common : Hub) → contact_of exit ≡ Some common → base common ≡ true → is_branch new number ≡ true

-- what the exit at a place tells
pub record IsTelling (rows : List (List ℕ)) (place : ℕ) (telling : Telling) : Type 0 where
  pub base : AreOrdersOf (is_led_at rows place) telling.base
  pub branches : AreBranches 1041 rows (is_led_at rows place) telling.branches.items

-- the exits that tell of cycles are the last ones
pub record AreTellings (rows : List (List ℕ)) (tellings : List Telling) : Type 0 where
  pub long : length tellings ≡ 16
  pub each : (kind : ℕ) (default : Telling) → kind < 16 → IsTelling rows (1024 + kind) (slice_index_or tellings kind default)

-- whether a hub is told by a first picture, or behind a closed contact by what is led from there
abbrev pub is_told : (Hub → Bool) → (ℕ → Hub → Bool) → (ℕ → Bool) → List Branch → Hub → Bool
is_told first led closed branches hub = first hub || list_any (λ branch. closed branch.place && led branch.place hub) branches

-- no contact is reached behind a closed one
abbrev pub AreLast : (ℕ → Bool) → List Branch → Type 0
AreLast closed branches = All (λ branch. closed branch.place ≡ true → branch.is_last ≡ true) branches
