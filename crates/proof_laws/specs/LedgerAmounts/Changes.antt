-- The entries of a ledger are all changes of its number since it was cleared.
use Rattle.std.specs.Prelude.{◌≡◌, ℕ, ◌+◌, ◌<◌, ◌≤◌, true, false, List, [], ◌∷◌, All, Contains}
use Rattle.explain_ledgers.specs.LedgersWords.Accounts.{movement_of}
use Rattle.explain_ledgers.specs.LedgersWords.Entries.{entry_of, is_added, is_cleared}
use Rattle.explain_ledgers.specs.LedgersWords.Ledgers.{Along, IsLedger, card_in}
use Rattle.explain_ledgers.specs.LedgersWords.Running.{HasCycle}
use Rattle.explain_ledgers.specs.declared.ledgers.account.Account.{Account}
use Rattle.explain_ledgers.specs.declared.ledgers.entry.Entry.{Entry}
use Rattle.explain_ledgers.specs.declared.ledgers.entry.Movement.{Movement}
use Rattle.hubs.specs.SetupsWords.Wiring.{Wiring}

-- what happens to the number of an account in a cycle of a run
abbrev pub movement_in : Account → {wiring : Wiring} {deck : List (List ℕ)} {passed : ℕ} → HasCycle wiring deck passed → Movement
movement_in account has = movement_of has.behind.groups has.cycle account

-- no cycle behind the one that has so many before it, and before so many are over, clears the number
abbrev pub StandsSince : Wiring → List (List ℕ) → Account → (passed until : ℕ) → Type 0
StandsSince wiring deck account passed until =
    (later : ℕ) (has : HasCycle wiring deck later) → passed < later → later < until → is_cleared (movement_in account has) ≡ false

-- Each cycle in which something came to the number has its entry, unless a later cycle cleared the number.
abbrev pub LedgersHoldAllChanges : Type 0
LedgersHoldAllChanges =
    (wiring : Wiring) (deck : List (List ℕ)) (account : Account) (along : Along) (entries : List Entry) (passed : ℕ)
    (has : HasCycle wiring deck passed)
    → IsLedger wiring deck account along entries → passed < along.passed → is_added (movement_in account has) ≡ true
    → StandsSince wiring deck account passed along.passed
    → Contains entries (entry_of has.cycle (card_in has.cycle has.along.card) passed (movement_in account has))

-- An entry is of such a cycle of the run.
pub record IsSince (wiring : Wiring) (deck : List (List ℕ)) (account : Account) (until : ℕ) (entry : Entry) : Type 0 where
  pub before : entry.passed < until
  pub has : HasCycle wiring deck entry.passed
  pub added : is_added (movement_in account has) ≡ true
  pub stands : StandsSince wiring deck account entry.passed until

-- A ledger has no other entries.
abbrev pub LedgersHoldNoOthers : Type 0
LedgersHoldNoOthers =
    (wiring : Wiring) (deck : List (List ℕ)) (account : Account) (along : Along) (entries : List Entry)
    → IsLedger wiring deck account along entries → All (IsSince wiring deck account along.passed) entries

-- Each entry is of a later cycle than the one before it, the first of one behind so many others or later, the last of one before so many are
-- over.
abbrev pub Rise : (from : ℕ) → List Entry → (until : ℕ) → Type 0
Rise from [] until = from ≤ until
Rise from (entry ∷ entries) until = (from ≤ entry.passed) × Rise (entry.passed + 1) entries until

-- A ledger has each entry once.
abbrev pub LedgersRise : Type 0
LedgersRise =
    (wiring : Wiring) (deck : List (List ℕ)) (account : Account) (along : Along) (entries : List Entry)
    → IsLedger wiring deck account along entries → Rise 0 entries along.passed
