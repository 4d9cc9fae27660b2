-- From which counter groups the number of an account can come in a cycle.
use Rattle.std.specs.Prelude.{ℕ, zero, suc, ◌+◌, ◌&&◌, ◌||◌, Bool, false}
use Rattle.counters.specs.Counters.{group_of_unit}
use Rattle.hubs.specs.declared.hub.Group.{Group}
use Rattle.hubs.specs.declared.hub.Hub.TheVariants.{GX}
use Rattle.explain_ledgers.specs.LedgersWords.Accounts.{positions_of}
use Rattle.explain_ledgers.specs.declared.ledgers.account.Account.{Account}
use Rattle.hubs.specs.SetupsWords.Wiring.{Wiring, is_wired}
use Rattle.explain_wheel_ledgers.specs.LedgerHoles.Positions.{entry_at, position_in}

-- a wire leads from the exit of a position of a group to the entry of a position of an account
unfoldable pub leads : Wiring → Group → (own : ℕ) → Account → (position : ℕ) → Bool
leads wiring group own account position = is_wired wiring (GX group own) (entry_at (position_in account position))

-- one leads there from one of so many positions of the group
unfoldable pub leads_from : Wiring → Group → (owns : ℕ) → Account → (position : ℕ) → Bool
leads_from wiring group zero account position = false
leads_from wiring group (suc own) account position =
    leads wiring group (suc own) account position || leads_from wiring group own account position

-- one leads from the group to one of so many positions of the account
unfoldable pub leads_to : Wiring → Group → Account → (positions : ℕ) → Bool
leads_to wiring group account zero = false
leads_to wiring group account (suc position) =
    leads_from wiring group group.width account (suc position) || leads_to wiring group account position

-- The number of the group of a place comes to an account: the group is read out, and a wire leads from one of its exits to an entry of the
-- account.
abbrev pub feeds : Wiring → (read_out : Bool) → (place : ℕ) → Account → Bool
feeds wiring read_out place account = read_out && leads_to wiring (group_of_unit (3 + place)) account (positions_of account)
