-- What contracts see of the fields of the balance latches, of the pilots and of group indication.
use Rattle.std.specs.Prelude.{◌≡◌, ℕ, ◌-◌, ◌*◌, Bool, List}
use Rattle.net.specs.HubSets.{is_bit}
use Rattle.selectors.specs.Numbered.{tests_to}
use Rattle.selectors.specs.Spread.{spread}
use Rattle.selectors.specs.declared.balance.BalanceLatches.TheInside as balance
use Rattle.selectors.specs.Indicate.{Latches}
use Rattle.selectors.specs.Pilots.{PilotStates}
use Rattle.selectors.specs.PilotWords.{pilots_in}
use Rattle.selectors.specs.declared.indicate.Indicate.TheInside as indicate
use Rattle.selectors.specs.declared.pilots.Pilots.TheInside as pilots

-- the pilots by their fields
abbrev pub pilots_of : pilots.Inside → PilotStates
pilots_of p = record { transferred = pilots_in p.transferred; picked_up = pilots_in p.picked_up }

-- the latches by their fields
abbrev pub indicate_latches : indicate.Inside → Latches
indicate_latches l = record { minor = l.minor; intermediate = l.intermediate; major = l.major }

-- the latches of the 32 groups in a row of the transferred positions: that of a group is set where its first position is
abbrev pub latches_in : ℕ → List Bool
latches_in row = tests_to 32 (λ group. is_bit row ((group - 1) * 4))

-- the balance latches by their field
abbrev pub balance_latches : balance.Inside → List Bool
balance_latches l = latches_in l.transferred

-- the row has all four positions of each group whose latch is set, and no more
abbrev pub IsBalanceRow : balance.Inside → Type 0
IsBalanceRow l = l.transferred ≡ spread 4 (balance_latches l)
