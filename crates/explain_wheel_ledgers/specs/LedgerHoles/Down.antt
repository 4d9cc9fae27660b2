-- The text of a ledger down to the holes.
use Rattle.std.specs.Prelude.{◌≡◌, ℕ, List, [], ◌∷◌, ◌++◌, Option}
use Rattle.net.specs.declared.cycle.Cycle.{Cycle}
use Rattle.explain_ledgers.specs.LedgersWords.LedgerText.Entries.{Words, entry_line, gap_lines}
use Rattle.explain_ledgers.specs.LedgersWords.LedgerText.Tellings.{heading_line}
use Rattle.explain_ledgers.specs.LedgersWords.Accounts.{positions_of}
use Rattle.explain_ledgers.specs.LedgersWords.Running.{HasCycle}
use Rattle.explain_ledgers.specs.LedgersWords.Summaries.{Summary}
use Rattle.explain_ledgers.specs.declared.ledgers.account.Account.{Account}
use Rattle.explain_ledgers.specs.declared.ledgers.entry.Change.{Change}
use Rattle.explain_ledgers.specs.declared.ledgers.entry.Change.TheVariants.{Plus, Minus, Turned, Carry, Apart}
use Rattle.explain_ledgers.specs.declared.ledgers.entry.Entry.{Entry}
use Rattle.hubs.specs.SetupsWords.Wiring.{Wiring}
use Rattle.explain_wheel_ledgers.specs.LedgerHoles.Controls.{AreAccountLines}
use Rattle.explain_wheel_ledgers.specs.LedgerHoles.Digits.{AreDigitLines}

-- The lines of the digits that came in in the cycle of an entry. A number that turns gets its own digits, and by a carry alone none comes in.
abbrev pub AreEntered : {wiring : Wiring} {deck : List (List ℕ)} {passed : ℕ} → HasCycle wiring deck passed → Account → Entry → Change
    → List ℕ → Type 0
AreEntered has account entry Plus answer = AreDigitLines has entry.cycle entry.card account (positions_of account) 1 entry.entered answer
AreEntered has account entry Minus answer = AreDigitLines has entry.cycle entry.card account (positions_of account) 1 entry.entered answer
AreEntered has account entry Turned answer = answer ≡ []
AreEntered has account entry Carry answer = answer ≡ []
AreEntered has account entry Apart answer = AreDigitLines has entry.cycle entry.card account (positions_of account) 1 entry.entered answer

-- The line of an entry, below it how its groups were told what to do in its cycle, and then the lines of its digits.
pub record IsEntryDown (wiring : Wiring) (cards : List (List ℕ)) (words : Option Words) (account : Account) (entry : Entry)
    (answer : List ℕ) : Type 0 where
  pub has : HasCycle wiring cards entry.passed
  pub controls : List ℕ
  pub are_controls : AreAccountLines has account controls
  pub entered : List ℕ
  pub are_entered : AreEntered has account entry entry.change entered
  pub whole : answer ≡ entry_line words account entry ++ controls ++ entered

-- The same of some entries, in their order.
pub data AreEntriesDown (wiring : Wiring) (cards : List (List ℕ)) (words : Option Words) (account : Account) :
    List Entry → List ℕ → Type 0 where
  no_entry : AreEntriesDown wiring cards words account [] []
  next_entry :
      (entries : List Entry) (entry : Entry) (text next : List ℕ) → AreEntriesDown wiring cards words account entries text
      → IsEntryDown wiring cards words account entry next
      → AreEntriesDown wiring cards words account (entries ++ entry ∷ []) (text ++ next)

-- A ledger before a cycle, by the number of the card that was read last and the words that a chart has for it: its entries, each of them down
-- to the holes, and the line in place of those that are left out.
pub record IsLedgerDown (wiring : Wiring) (cards : List (List ℕ)) (told : Summary) (cycle : Cycle) (card : ℕ) (words : Option Words)
    (answer : List ℕ) : Type 0 where
  pub first : List ℕ
  pub are_first : AreEntriesDown wiring cards words told.account told.first first
  pub last : List ℕ
  pub are_last : AreEntriesDown wiring cards words told.account told.last last
  pub whole : answer ≡ heading_line told.account cycle card ++ first ++ gap_lines words told.left_out ++ last
