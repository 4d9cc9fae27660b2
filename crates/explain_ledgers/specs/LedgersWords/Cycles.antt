-- The entries of a ledger tell of the cycles of the run that they name.
use Rattle.std.specs.Prelude.{◌≡◌, ℕ, List, All}
use Rattle.hubs.specs.SetupsWords.Wiring.{Wiring}
use Rattle.explain_ledgers.specs.LedgersWords.Accounts.{movement_of}
use Rattle.explain_ledgers.specs.LedgersWords.Entries.{entry_of}
use Rattle.explain_ledgers.specs.LedgersWords.Ledgers.{Along, ComesTo, IsLedger, card_in}
use Rattle.explain_ledgers.specs.LedgersWords.Running.{HasCycle}
use Rattle.explain_ledgers.specs.declared.ledgers.account.Account.{Account}
use Rattle.explain_ledgers.specs.declared.ledgers.entry.Entry.{Entry}

-- An entry tells of a cycle: which one it is, its card, and what happens to the number of the account in it.
abbrev pub TellsCycle : Account → {wiring : Wiring} {deck : List (List ℕ)} {passed : ℕ} → Entry → HasCycle wiring deck passed → Type 0
TellsCycle account {passed = passed} entry has =
    entry ≡ entry_of has.cycle (card_in has.cycle has.along.card) passed (movement_of has.behind.groups has.cycle account)

-- An entry names a cycle of the run, the one behind so many others, and tells of it.
pub record TellsOfRun (wiring : Wiring) (deck : List (List ℕ)) (account : Account) (entry : Entry) : Type 0 where
  pub has : HasCycle wiring deck entry.passed
  pub tells : (any : HasCycle wiring deck entry.passed) → TellsCycle account entry any

-- Each entry of a ledger does.
abbrev pub EntriesTellCycles : Type 0
EntriesTellCycles =
    (wiring : Wiring) (deck : List (List ℕ)) (account : Account) (along : Along) (entries : List Entry)
    → IsLedger wiring deck account along entries
    → All (TellsOfRun wiring deck account) entries

-- Of a run over a deck there is one place behind so many cycles.
abbrev pub PlacesAreOne : Type 0
PlacesAreOne =
    (wiring : Wiring) (deck : List (List ℕ)) (here there : Along)
    → ComesTo wiring deck here → ComesTo wiring deck there → here.passed ≡ there.passed → here ≡ there
