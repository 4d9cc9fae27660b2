-- The origin of a balance latch that is set: the cycle that tested the number of its group last, and that number.
use Rattle.std.specs.Prelude.{◌≡◌, ℕ, ◌+◌, List, [], ◌++◌, Option, Some, None, codes}
use Rattle.counters.specs.Counters.{digits_ended, width_of}
use Rattle.counters.specs.Numbers.{number}
use Rattle.explain_ledgers.specs.LedgersWords.LedgerText.Amounts.{digits_text}
use Rattle.explain_ledgers.specs.LedgersWords.LedgerText.Names.{cycle_text, place_text}
use Rattle.explain_ledgers.specs.LedgersWords.InCycle.{IsInCycle}
use Rattle.explain_ledgers.specs.LedgersWords.Ledgers.{group_at}
use Rattle.machine.specs.Machine.{MachineState}
use Rattle.hubs.specs.SetupsWords.Wiring.{Wiring}
use Rattle.explain_origins.specs.declared.changes.PassedCycle.{PassedCycle}

-- a number is that of the group of a place at the end of a cycle of a run
pub record IsNumberTested (wiring : Wiring) (cards : List (List ℕ)) (since : PassedCycle) (place tested : ℕ) : Type 0 where
  pub machine : MachineState
  pub is : IsInCycle wiring cards since.passed machine
  pub told : tested ≡ number (digits_ended (group_at machine place))

-- by which cycle the latch is set, and which number that cycle tested
abbrev pub test_line : (place : ℕ) → PassedCycle → (tested : ℕ) → List ℕ
test_line place since tested =
    codes "balance latch of " ++ place_text place ++ codes " set by " ++ cycle_text since.cycle since.card ++ codes ": it tested "
    ++ digits_text (width_of (3 + place)) tested ++ codes "\n"

pub record IsTestText (wiring : Wiring) (cards : List (List ℕ)) (place : ℕ) (since : PassedCycle) (answer : List ℕ) : Type 0 where
  pub tested : ℕ
  pub is : IsNumberTested wiring cards since place tested
  pub line : answer ≡ test_line place since tested

-- what is told of a latch, by the cycle that tested it last
abbrev pub IsLatchText : Wiring → List (List ℕ) → (place : ℕ) → Option PassedCycle → List ℕ → Type 0
IsLatchText wiring cards place None answer = answer ≡ []
IsLatchText wiring cards place (Some since) answer = IsTestText wiring cards place since answer
