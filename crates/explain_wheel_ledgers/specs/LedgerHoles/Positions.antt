-- The positions of the counter groups of an account.
use Rattle.std.specs.Prelude.{ℕ, ◌+◌, ◌-◌, nat_le, List, ◌++◌, codes, decimal, if◌then◌else◌}
use Rattle.counters.specs.Counters.{group_of_unit}
use Rattle.hubs.specs.declared.hub.Hub.{Hub}
use Rattle.hubs.specs.declared.hub.Hub.TheVariants.{GE}
use Rattle.hubs.specs.HubText.{group_text}
use Rattle.explain_ledgers.specs.declared.ledgers.account.Account.{Account}
use Rattle.explain_ledgers.specs.declared.ledgers.account.Account.TheVariants.{One, Coupled}
use Rattle.explain_wheel_ledgers.specs.declared.ledger_holes.positions.Position.{Position}

-- a position of two groups, of which the lower one has the units
abbrev pub position_of_both : (upper lower position : ℕ) → Position
position_of_both upper lower position =
    if nat_le position (group_of_unit (3 + lower)).width
    then record { group = group_of_unit (3 + lower); position = position }
    else record { group = group_of_unit (3 + upper); position = position - (group_of_unit (3 + lower)).width }

-- a position of an account, the units at position 1
abbrev pub position_in : Account → ℕ → Position
position_in (One place) position = record { group = group_of_unit (3 + place); position = position }
position_in (Coupled upper lower) position = position_of_both upper lower position

-- the hub at which a digit comes in at a position
abbrev pub entry_at : Position → Hub
entry_at at_position = GE at_position.group at_position.position

-- its name
unfoldable pub entry_text : Position → List ℕ
entry_text at_position = codes "GE." ++ group_text at_position.group ++ codes "." ++ decimal at_position.position
