-- What tells a hub from every other: how many hubs stand before those of its kind, which no other kind has, and its numbers.
use Rattle.std.specs.Prelude.{ℕ, List, [], ◌∷◌}
use Rattle.hubs.specs.HubTable.HubTable.{row_of}
use Rattle.hubs.specs.declared.hub_table.shape.Numbers.{Numbers}
use Rattle.hubs.specs.declared.hub_table.shape.Numbers.TheVariants.{Bare, One, Two, Three}
use Rattle.hubs.specs.Hubs.{letters_of, numbers_of}
use Rattle.hubs.specs.declared.hub.Hub.{Hub}

-- a kind, and the numbers of one of its hubs
abbrev pub key_of : ℕ → Numbers → List ℕ
key_of kind Bare = kind ∷ 0 ∷ 0 ∷ 0 ∷ []
key_of kind (One n) = kind ∷ n ∷ 0 ∷ 0 ∷ []
key_of kind (Two n part) = kind ∷ n ∷ part ∷ 0 ∷ []
key_of kind (Three width n part) = kind ∷ width ∷ n ∷ part ∷ []

abbrev pub hub_key : Hub → List ℕ
hub_key hub = key_of (row_of (letters_of hub)).before (numbers_of hub)
