-- At each place of a run between two of its cycles an account has one ledger.
use Rattle.std.specs.Prelude.{◌≡◌, ℕ, List}
use Rattle.explain_ledgers.specs.LedgersWords.Ledgers.{Along, ComesTo, IsLedger}
use Rattle.explain_ledgers.specs.LedgersWords.Running.{IsKeptLedger}
use Rattle.explain_ledgers.specs.LedgersWords.Summaries.{Summary}
use Rattle.explain_ledgers.specs.declared.ledgers.account.Account.{Account}
use Rattle.explain_ledgers.specs.declared.ledgers.entry.Entry.{Entry}
use Rattle.hubs.specs.SetupsWords.Wiring.{Wiring}

-- It has a ledger at each place to which the run comes.
abbrev pub PlacesHaveLedgers : Type 0
PlacesHaveLedgers =
    (wiring : Wiring) (deck : List (List ℕ)) (account : Account) (along : Along) → ComesTo wiring deck along
    → (entries : List Entry) × IsLedger wiring deck account along entries

-- It has no other: two ledgers behind as many cycles are the same.
abbrev pub LedgersAreOne : Type 0
LedgersAreOne =
    (wiring : Wiring) (deck : List (List ℕ)) (account : Account) (here there : Along) (entries others : List Entry)
    → IsLedger wiring deck account here entries → IsLedger wiring deck account there others → here.passed ≡ there.passed
    → entries ≡ others

-- So of what is kept of a ledger there is one, too, with so many entries at each end.
abbrev pub KeptLedgersAreOne : Type 0
KeptLedgersAreOne =
    (wiring : Wiring) (deck : List (List ℕ)) (account : Account) (passed ends : ℕ) (told other : Summary)
    → IsKeptLedger wiring deck passed ends account told → IsKeptLedger wiring deck passed ends account other → told ≡ other
