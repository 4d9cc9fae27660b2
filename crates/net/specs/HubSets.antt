-- Sets of hubs are tests on hubs. A stored set is asked by a hub's number; a hub out of range is in none.
use Rattle.std.specs.Prelude.{◌≡◌, ℕ, ◌≤◌, ◌+◌, ◌-◌, ◌==◌, ◌&&◌, ◌||◌, nat_le, nat_lt, Bool, false, List, Option, Some, None}
use Rattle.hubs.specs.declared.hub.Hub.{Hub}
use Rattle.hubs.specs.Hubs.{number_of}
unfoldable pub use Rattle.machine_sets.specs.BitSets.Bits.{is_bit}
use Rattle.machine_sets.specs.BitSets.Bits.{has_place}

-- A stored set: 31 words of 64 bits. The hub with the number h is bit h - 1, counted through the words.
pub record HubSet : Type 0 where
  pub words : List ℕ

-- A set's words hold hubs alone: each bit after that of the last hub, place 1935, is 0.
abbrev pub HoldsHubsAlone : List ℕ → Type 0
HoldsHubsAlone words = (place : ℕ) → 1936 ≤ place → has_place words place ≡ false

-- whether two numbers are there and are the same
abbrev pub is_same_number : Option ℕ → Option ℕ → Bool
is_same_number (Some one) (Some other) = one == other
is_same_number one other = false

-- whether two hubs are the same hub of the panel; a hub out of range is none
abbrev pub is_hub : Hub → Hub → Bool
is_hub one other = is_same_number (number_of one) (number_of other)

-- whether a stored set has the number that is given
abbrev pub has_number : HubSet → Option ℕ → Bool
has_number hubs (Some number) = has_place hubs.words (number - 1)
has_number hubs None = false

-- whether a stored set has the hub
abbrev pub has_hub : HubSet → Hub → Bool
has_hub hubs hub = has_number hubs (number_of hub)

-- new has what old has, and each hub of the test
abbrev pub GainsHubs : (Hub → Bool) → HubSet → HubSet → Type 0
GainsHubs test old new = (hub : Hub) → has_hub new hub ≡ (has_hub old hub || test hub)

-- whether a number, from the first one on, has its bit in the word
abbrev pub is_bit_from : Option ℕ → ℕ → Option ℕ → Bool
is_bit_from (Some first) bits (Some number) = nat_le first number && is_bit bits (number - first)
is_bit_from first bits number = false

-- A row of hubs that follow one another is a word: bit k stands for the hub whose number is the first one's and k.
abbrev pub is_in_row : Hub → ℕ → Hub → Bool
is_in_row first bits hub = is_bit_from (number_of first) bits (number_of hub)

-- whether a number is one of the 128 from the first one on
abbrev pub is_near : Option ℕ → Option ℕ → Bool
is_near (Some first) (Some number) = nat_le first number && nat_lt number (first + 128)
is_near first number = false

-- whether a hub is one of the 128 that follow one another from the first one on
abbrev pub is_in_reach : Hub → Hub → Bool
is_in_reach first hub = is_near (number_of first) (number_of hub)
