-- The numbers of hubs, of exits and of entries.
use Rattle.std.proofs.Common.{◌≡◌, ℕ, ◌≤◌, true, Some}
use Rattle.hubs.specs.Hubs.{number_of, is_exit_hub, is_entry_hub}
use Rattle.hubs.specs.declared.hub.Hub.{Hub}
use Rattle.hubs.proofs.HubLemmas.{number_of-range, is_exit-number, is_entry-number}

-- the number of an exit
pub exit_number : (hub : Hub) (n : ℕ) → number_of hub ≡ Some n → is_exit_hub hub ≡ true → (1 ≤ n) × (n ≤ 1040)
exit_number hub n e h = ((number_of-range hub n e).0, (is_exit-number hub n e).0 h)

-- the number of an entry
pub entry_number : (hub : Hub) (n : ℕ) → number_of hub ≡ Some n → is_entry_hub hub ≡ true → (1041 ≤ n) × (n ≤ 1936)
entry_number hub n e h = ((is_entry-number hub n e).0 h, (number_of-range hub n e).1)
