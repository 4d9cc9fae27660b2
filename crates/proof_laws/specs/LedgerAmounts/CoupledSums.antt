-- The numbers that come to two groups as one add up.
use Rattle.std.specs.Prelude.{◌≡◌, ℕ, ◌+◌, ◌*◌, ◌<◌, List, All, sum_by}
use Rattle.explain_ledgers.specs.LedgersWords.Coupled.{coupled_number}
use Rattle.explain_ledgers.specs.LedgersWords.Ledgers.{Along, IsLedger, IsSum, IsUnturned, number_added, power_at}
use Rattle.explain_ledgers.specs.declared.ledgers.account.Account.TheVariants.{Coupled}
use Rattle.explain_ledgers.specs.declared.ledgers.entry.Change.TheVariants.{Apart}
use Rattle.explain_ledgers.specs.declared.ledgers.entry.Entry.{Entry}
use Rattle.hubs.specs.SetupsWords.Wiring.{Wiring}

-- the two groups did the same thing in the cycle of an entry
abbrev pub IsTogether : Entry → Type 0
IsTogether entry = entry.change ≡ Apart → ⊥

-- the power of ten of two groups by their places
abbrev pub power_of_both : (upper lower : ℕ) → ℕ
power_of_both upper lower = power_at upper * power_at lower

-- Each entry of a ledger of two groups is a sum, unless the groups did different things.
abbrev pub CoupledEntriesAreSums : Type 0
CoupledEntriesAreSums =
    (wiring : Wiring) (deck : List (List ℕ)) (upper lower : ℕ) (along : Along) (entries : List Entry)
    → upper < 32 → lower < 32 → IsLedger wiring deck (Coupled upper lower) along entries
    → All (λ entry. IsTogether entry → IsSum (power_of_both upper lower) entry) entries

-- If they never did, and the number didn't turn, it is the sum of what came to it, but for carries that left its top.
abbrev pub CoupledLedgersAreSums : Type 0
CoupledLedgersAreSums =
    (wiring : Wiring) (deck : List (List ℕ)) (upper lower : ℕ) (along : Along) (entries : List Entry)
    → upper < 32 → lower < 32 → IsLedger wiring deck (Coupled upper lower) along entries → All IsTogether entries → All IsUnturned entries
    → (carries : ℕ)
    × (coupled_number along.run.machine upper lower + carries * power_of_both upper lower
    ≡ sum_by (number_added (power_of_both upper lower)) entries)
