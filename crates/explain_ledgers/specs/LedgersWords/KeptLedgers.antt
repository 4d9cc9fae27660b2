-- Helper words of the code: what a cycle makes of ledgers that are kept along a run.
use Rattle.std.specs.Prelude.{ℕ, ◌+◌, ◌^◌, ◌<◌, List, [], if◌then◌else◌, nat_lt}
use Rattle.counters.specs.Counters.{Counter}
use Rattle.net.specs.declared.cycle.Cycle.{Cycle}
use Rattle.explain_ledgers.specs.LedgersWords.Accounts.{IsAccount, movement_of}
use Rattle.explain_ledgers.specs.LedgersWords.Summaries.{summary_after, summary_of}
use Rattle.explain_ledgers.specs.declared.ledgers.kept.AskedLedger.{AskedLedger}
use Rattle.explain_ledgers.specs.declared.ledgers.kept.KeptLedger.{KeptLedger}

-- a ledger that has no entry yet
abbrev pub empty_ledger : (ends : ℕ) → AskedLedger → KeptLedger
empty_ledger ends asked = record { asked = asked; ledger = summary_of asked.account ends [] }

-- a ledger behind a cycle: it takes the cycle if that comes before the one up to which it is told
abbrev pub kept_after : Cycle → (card passed : ℕ) → List Counter → KeptLedger → KeptLedger
kept_after cycle card passed groups kept = record kept {
  ledger =
      if nat_lt passed kept.asked.passed
      then summary_after cycle card passed (movement_of groups cycle kept.asked.account) kept.ledger
      else kept.ledger;
}

-- it can take one
pub record CanTake (kept : KeptLedger) : Type 0 where
  pub account : IsAccount kept.asked.account
  pub few : kept.ledger.left_out.count + 1 < 2 ^ 64
