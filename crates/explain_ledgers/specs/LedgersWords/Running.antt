-- The cycles of a run by how many are over before them, and what is kept of the ledger of an account there.
use Rattle.std.specs.Prelude.{◌≡◌, ℕ, List, [], ◌∷◌, Option, Some, None}
use Rattle.explain_wheels.specs.ExplanationsWords.PlacedInRun.{PrintsNoneAt}
use Rattle.machine.specs.Cycles.{line_of}
use Rattle.machine.specs.Machine.{ended}
use Rattle.hubs.specs.SetupsWords.Wiring.{Wiring}
pub use Rattle.explain_wheels.specs.RunsWords.{HasCycle}
use Rattle.explain_ledgers.specs.LedgersWords.Ledgers.{Along, IsLedger, card_in}
use Rattle.explain_ledgers.specs.LedgersWords.Summaries.{Summary, summary_of}
use Rattle.explain_ledgers.specs.declared.ledgers.account.Account.{Account}
use Rattle.explain_ledgers.specs.declared.ledgers.entry.Entry.{Entry}
use Rattle.explain_ledgers.specs.declared.ledgers.found.FoundCycle.{FoundCycle}
use Rattle.explain_ledgers.specs.declared.ledgers.found.LinePlace.{LinePlace}
use Rattle.explain_ledgers.specs.declared.ledgers.found.SoughtLine.{SoughtLine}
use Rattle.explain_ledgers.specs.declared.ledgers.kept.AskedLedger.{AskedLedger}
use Rattle.explain_ledgers.specs.declared.ledgers.kept.KeptLedger.{KeptLedger}

-- A cycle of a run placed a line: it is the one behind so many others, and so many cards were read then.
pub record PlacesLine (wiring : Wiring) (deck : List (List ℕ)) (found : FoundCycle) : Type 0 where
  pub has : HasCycle wiring deck found.passed
  pub cycle : found.cycle ≡ has.cycle
  pub card : found.card ≡ card_in has.cycle has.along.card
  pub placed : line_of (ended has.behind has.cycle) ≡ found.line ∷ []

-- A cycle of a run placed a line at this place.
pub record PlacesAt (wiring : Wiring) (deck : List (List ℕ)) (at : LinePlace) (found : FoundCycle) : Type 0 where
  pub places : PlacesLine wiring deck found
  pub at_page : found.line.page ≡ at.page
  pub at_line : found.line.line ≡ at.line

-- What is found at a place: the cycle that placed a line there, or that no cycle of the run does.
abbrev pub IsFoundAt : Wiring → List (List ℕ) → LinePlace → Option FoundCycle → Type 0
IsFoundAt wiring deck at (Some found) = PlacesAt wiring deck at found
IsFoundAt wiring deck at None = PrintsNoneAt wiring deck at.page at.line

abbrev pub IsSought : Wiring → List (List ℕ) → SoughtLine → Type 0
IsSought wiring deck sought = IsFoundAt wiring deck sought.at sought.found

-- the place at which a line is sought
abbrev pub sought_at : SoughtLine → LinePlace
sought_at sought = sought.at

-- What is kept of the ledger of an account is that of a run of which so many cycles are over.
pub record IsKeptLedger (wiring : Wiring) (deck : List (List ℕ)) (passed ends : ℕ) (account : Account) (told : Summary) : Type 0 where
  pub along : Along
  pub counted : along.passed ≡ passed
  pub entries : List Entry
  pub is : IsLedger wiring deck account along entries
  pub told_is : told ≡ summary_of account ends entries

-- what was asked for
abbrev pub asked_of : KeptLedger → AskedLedger
asked_of kept = kept.asked

-- a ledger is the one that was asked for
abbrev pub IsKept : Wiring → List (List ℕ) → (ends : ℕ) → KeptLedger → Type 0
IsKept wiring deck ends kept = IsKeptLedger wiring deck kept.asked.passed ends kept.asked.account kept.ledger
