-- The counter groups whose number a ledger tells.
use Rattle.std.specs.Prelude.{ℕ, ◌<◌, ◌+◌, List, slice_index_or}
use Rattle.counters.specs.Counters.{Counter, counter_at_start, width_of}
use Rattle.net.specs.declared.cycle.Cycle.{Cycle}
use Rattle.explain_ledgers.specs.LedgersWords.Entries.{movement_of_both, movement_of_one}
use Rattle.explain_ledgers.specs.declared.ledgers.account.Account.{Account}
use Rattle.explain_ledgers.specs.declared.ledgers.account.Account.TheVariants.{One, Coupled}
use Rattle.explain_ledgers.specs.declared.ledgers.entry.Movement.{Movement}

-- the groups of an account are on the panel
abbrev pub IsAccount : Account → Type 0
IsAccount (One place) = place < 32
IsAccount (Coupled upper lower) = (upper < 32) × (lower < 32)

-- the group of a place, of some; unit 3 has place 0
abbrev pub counter_at : List Counter → ℕ → Counter
counter_at groups place = slice_index_or groups place (counter_at_start 3)

-- what happens to the number of an account in a cycle, by all groups as they stand behind the points of the cycle
abbrev pub movement_of : List Counter → Cycle → Account → Movement
movement_of groups cycle (One place) = movement_of_one (counter_at groups place) cycle
movement_of groups cycle (Coupled upper lower) = movement_of_both (counter_at groups upper) (counter_at groups lower) cycle

-- how many positions the number of an account has
abbrev pub positions_of : Account → ℕ
positions_of (One place) = width_of (3 + place)
positions_of (Coupled upper lower) = width_of (3 + upper) + width_of (3 + lower)
