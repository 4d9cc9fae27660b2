-- The number that two groups stand for is told by their ledger.
use Rattle.std.specs.Prelude.{ℕ, ◌<◌, List}
use Rattle.counters.specs.Numbers.{number}
use Rattle.machine.specs.Machine.{MachineState}
use Rattle.hubs.specs.SetupsWords.Wiring.{Wiring}
use Rattle.explain_ledgers.specs.LedgersWords.Entries.{joined}
use Rattle.explain_ledgers.specs.LedgersWords.Ledgers.{Along, Chain, IsLedger, group_at}
use Rattle.explain_ledgers.specs.declared.ledgers.account.Account.TheVariants.{Coupled}
use Rattle.explain_ledgers.specs.declared.ledgers.entry.Entry.{Entry}

-- the number of two groups of a machine, of which the lower one has the units
abbrev pub coupled_number : MachineState → (upper lower : ℕ) → ℕ
coupled_number machine upper lower =
    joined (number (group_at machine upper).digits) (number (group_at machine lower).digits) (group_at machine lower).name.width

-- The number that two groups stand for is told by their ledger: its numbers chain from 0 to it.
abbrev pub CoupledLedgersTellNumbers : Type 0
CoupledLedgersTellNumbers =
    (wiring : Wiring) (deck : List (List ℕ)) (upper lower : ℕ) (along : Along) (entries : List Entry)
    → upper < 32 → lower < 32 → IsLedger wiring deck (Coupled upper lower) along entries
    → Chain 0 entries (coupled_number along.run.machine upper lower)
