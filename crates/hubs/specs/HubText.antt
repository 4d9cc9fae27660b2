-- A hub as it is written: its letters, and its numbers with a point before each. A counter group as hubs name it.
use Rattle.std.specs.Prelude.{ℕ, List, [], ◌++◌, codes, decimal}
use Rattle.hubs.specs.HubTable.HubTable.{row_of}
use Rattle.hubs.specs.declared.hub_table.shape.Numbers.{Numbers}
use Rattle.hubs.specs.declared.hub_table.shape.Numbers.TheVariants.{Bare, One, Two, Three}
use Rattle.hubs.specs.Hubs.{letters_of, numbers_of}
use Rattle.hubs.specs.declared.hub.Group.{Group}
use Rattle.hubs.specs.declared.hub.Hub.{Hub}

-- a point and a number
abbrev pub pointed : ℕ → List ℕ
pointed number = codes "." ++ decimal number

-- a counter group: its width, a point and its number
abbrev pub group_text : Group → List ℕ
group_text group = decimal group.width ++ pointed group.number

-- the numbers of a hub, a point before each
abbrev pub numbers_text : Numbers → List ℕ
numbers_text Bare = []
numbers_text (One n) = pointed n
numbers_text (Two m n) = pointed m ++ pointed n
numbers_text (Three l m n) = pointed l ++ pointed m ++ pointed n

-- a hub
abbrev pub hub_text : Hub → List ℕ
hub_text hub = (row_of (letters_of hub)).spelled ++ numbers_text (numbers_of hub)
