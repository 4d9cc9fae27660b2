-- What a number that turns takes in is the number itself.
use Rattle.std.specs.Prelude.{◌≡◌, ℕ, List, All}
use Rattle.hubs.specs.SetupsWords.Wiring.{Wiring}
use Rattle.explain_ledgers.specs.LedgersWords.Ledgers.{Along, IsLedger}
use Rattle.explain_ledgers.specs.declared.ledgers.account.Account.{Account}
use Rattle.explain_ledgers.specs.declared.ledgers.entry.Change.TheVariants.{Turned}
use Rattle.explain_ledgers.specs.declared.ledgers.entry.Entry.{Entry}

-- If an entry turned a number, then the number that was entered is the one that stood before.
abbrev pub EntersItself : Entry → Type 0
EntersItself entry = entry.change ≡ Turned → entry.entered ≡ entry.before

-- So it is in each entry of each ledger, on every panel.
abbrev pub TurnsEnterNumbers : Type 0
TurnsEnterNumbers =
    (wiring : Wiring) (deck : List (List ℕ)) (account : Account) (along : Along) (entries : List Entry)
    → IsLedger wiring deck account along entries → All EntersItself entries
