-- The ledger of an account in a run of the machine over a deck: the cycles since its number last stood cleared, or since the start, in
-- which something came to it.
use Rattle.std.specs.Prelude.{◌≡◌, ℕ, ◌+◌, ◌-◌, ◌*◌, ◌^◌, ◌<◌, Bool, List, [], ◌∷◌, All, sum_by}
use Rattle.counters.specs.Counters.{Counter, width_of}
use Rattle.counters.specs.Laws.{carry_number}
use Rattle.counters.specs.Numbers.{number}
use Rattle.hubs.specs.SetupsWords.Wiring.{Wiring}
use Rattle.net.specs.declared.cycle.Cycle.{Cycle}
use Rattle.machine.specs.Machine.{MachineState}
pub use Rattle.explain_wheels.specs.RunsWords.{Along, ComesTo, Goes, along_after, along_at_start, at_start, card_in, on, ready}
use Rattle.explain_ledgers.specs.LedgersWords.Accounts.{counter_at, movement_of}
use Rattle.explain_ledgers.specs.LedgersWords.Entries.{ledger_after}
use Rattle.explain_ledgers.specs.declared.ledgers.account.Account.{Account}
use Rattle.explain_ledgers.specs.declared.ledgers.account.Account.TheVariants.{One}
use Rattle.explain_ledgers.specs.declared.ledgers.entry.Change.{Change}
use Rattle.explain_ledgers.specs.declared.ledgers.entry.Change.TheVariants.{Plus, Minus, Turned, Carry, Apart}
use Rattle.explain_ledgers.specs.declared.ledgers.entry.Entry.{Entry}

-- a counter group of a machine by its place; unit 3 has place 0
abbrev pub group_at : MachineState → ℕ → Counter
group_at machine place = counter_at machine.groups place

-- The ledger of an account up to a place between two cycles of the run. It begins with no entry. Then each cycle that is due goes through
-- its points, and makes of the ledger what happens to the number of the account in it.
pub data IsLedger (wiring : Wiring) (deck : List (List ℕ)) (account : Account) : Along → List Entry → Type 0 where
  begun : IsLedger wiring deck account (along_at_start wiring deck) []
  more :
      (cycle : Cycle) (along : Along) (entries : List Entry) (behind : MachineState)
      → IsLedger wiring deck account along entries
      → Goes wiring cycle along behind
      → IsLedger wiring deck account (along_after cycle behind along)
      (ledger_after cycle (card_in cycle along.card) along.passed (movement_of behind.groups cycle account) entries)

-- Numbers chain: the first entry begins where it should, each next one with the number after the one before, and the number after the
-- last one is the end.
abbrev pub Chain : ℕ → List Entry → ℕ → Type 0
Chain from [] to = to ≡ from
Chain from (entry ∷ entries) to = (entry.before ≡ from) × Chain entry.after entries to

-- The number that a group holds is told by its ledger: its numbers chain from 0 to it.
abbrev pub LedgersTellNumbers : Type 0
LedgersTellNumbers =
    (wiring : Wiring) (deck : List (List ℕ)) (place : ℕ) (along : Along) (entries : List Entry)
    → place < 32 → IsLedger wiring deck (One place) along entries
    → Chain 0 entries (number (group_at along.run.machine place).digits)

-- the number that a change adds to a group of positions with the given power of ten: under plus the number entered, under minus what
-- that lacks of all nines
abbrev pub change_number : ℕ → Change → ℕ → ℕ
change_number power Plus entered = entered
change_number power Minus entered = power - 1 - entered
change_number power Turned entered = power - 1 - entered
change_number power Carry entered = 0
change_number power Apart entered = 0

-- the number at which a change starts: a group that turns starts at nothing
abbrev pub change_start : Change → ℕ → ℕ
change_start Turned before = 0
change_start change before = before

-- what comes to a group in the cycle of an entry
abbrev pub number_added : ℕ → Entry → ℕ
number_added power entry = change_number power entry.change entry.entered + carry_number entry.carry

-- An entry is a sum: the number after, and the carry that leaves the top, are the number at which it starts and what comes to it.
pub record IsSum (power : ℕ) (entry : Entry) : Type 0 where
  pub carried : Bool
  pub sum :
      entry.after + carry_number carried * power ≡ change_start entry.change entry.before + number_added power entry

-- the power of ten of a group by its place
abbrev pub power_at : ℕ → ℕ
power_at place = 10 ^ width_of (3 + place)

-- Each entry of a ledger is a sum.
abbrev pub EntriesAreSums : Type 0
EntriesAreSums =
    (wiring : Wiring) (deck : List (List ℕ)) (place : ℕ) (along : Along) (entries : List Entry)
    → place < 32 → IsLedger wiring deck (One place) along entries → All (IsSum (power_at place)) entries

-- the group didn't turn in the cycle of an entry
abbrev pub IsUnturned : Entry → Type 0
IsUnturned entry = entry.change ≡ Turned → ⊥

-- Where a group didn't turn, it holds the sum of what came to it, but for carries that left its top.
abbrev pub LedgersAreSums : Type 0
LedgersAreSums =
    (wiring : Wiring) (deck : List (List ℕ)) (place : ℕ) (along : Along) (entries : List Entry)
    → place < 32 → IsLedger wiring deck (One place) along entries → All IsUnturned entries
    → (carries : ℕ)
    × (number (group_at along.run.machine place).digits + carries * power_at place ≡ sum_by (number_added (power_at place)) entries)
