-- The ledgers to which the entries of another ledger lead: those of the counter groups whose numbers came in.
use Rattle.std.specs.Prelude.{ℕ, ◌<◌, ◌≤◌, ◌==◌, ◌&&◌, Bool, true, false, List, [], ◌∷◌, if◌then◌else◌, replicate, slice_index_or}
use Rattle.std.specs.List.{flat_map, range_with_len}
use Rattle.explain_wheel_ledgers.specs.LedgerHoles.Feeding.{feeds}
use Rattle.explain_ledgers.specs.LedgersWords.Running.{HasCycle}
use Rattle.explain_ledgers.specs.declared.ledgers.account.Account.{Account}
use Rattle.explain_ledgers.specs.declared.ledgers.account.Account.TheVariants.{One, Coupled}
use Rattle.explain_ledgers.specs.declared.ledgers.entry.Change.{Change}
use Rattle.explain_ledgers.specs.declared.ledgers.entry.Change.TheVariants.{Plus, Minus, Turned, Carry, Apart}
use Rattle.explain_ledgers.specs.declared.ledgers.entry.Entry.{Entry}
use Rattle.explain_ledgers.specs.declared.ledgers.read_outs.ReadOuts.{ReadOuts}
use Rattle.explain_origins.specs.declared.changes.PassedCycle.{PassedCycle}
use Rattle.hubs.specs.SetupsWords.Wiring.{Wiring}
use Rattle.explain_wheel_ledgers.specs.ToldLedgers.{account_told}
use Rattle.explain_wheel_ledgers.specs.Totals.{find_total}
use Rattle.explain_wheel_ledgers.specs.declared.chart_totals.TitledAccount.{TitledAccount}
use Rattle.explain_wheel_ledgers.specs.declared.lower.AskedGroup.{AskedGroup}

-- the group of a place has the units of an account
abbrev pub has_units : Account → ℕ → Bool
has_units (One own) place = own == place
has_units (Coupled upper lower) place = lower == place

-- The number of the group of a place comes to an account, by which groups are read out, and the group has the units of the number that is
-- told for it.
abbrev pub is_lower : Wiring → List TitledAccount → List Bool → Account → ℕ → Bool
is_lower wiring totals groups account place =
    feeds wiring (slice_index_or groups place false) place account
    && has_units (account_told (find_total totals place) place) place

-- then its ledger is asked for
abbrev pub lower_at : Wiring → List TitledAccount → List Bool → Account → PassedCycle → ℕ → List AskedGroup
lower_at wiring totals groups account before place =
    if is_lower wiring totals groups account place then record { place = place; before = before } ∷ [] else []

-- the ledgers of all groups whose numbers come to an account
unfoldable pub lower_in : Wiring → List TitledAccount → List Bool → Account → PassedCycle → List AskedGroup
lower_in wiring totals groups account before = flat_map (lower_at wiring totals groups account before) (range_with_len 0 32)

-- the cycle of an entry
abbrev pub cycle_of : Entry → PassedCycle
cycle_of entry = record { cycle = entry.cycle; card = entry.card; passed = entry.passed }

-- a number of a group can come in by a change that isn't the number's own
abbrev pub takes_lower : Change → Bool
takes_lower Plus = true
takes_lower Minus = true
takes_lower Turned = false
takes_lower Carry = false
takes_lower Apart = true

-- no group is read out
abbrev pub none_read_out : ReadOuts
none_read_out = record { groups = replicate 32 false }

-- the ledgers to which an entry leads, by which groups are read out in each cycle of the run
abbrev pub lower_of : Wiring → List TitledAccount → List ReadOuts → Account → Entry → List AskedGroup
lower_of wiring totals read_outs account entry =
    if takes_lower entry.change
    then lower_in wiring totals (slice_index_or read_outs entry.passed none_read_out).groups account (cycle_of entry)
    else []

-- Helper word of the code: a ledger can be told. Its group is on the panel, and the run has its cycle, behind at most so many others.
pub record IsAsked (wiring : Wiring) (cards : List (List ℕ)) (count : ℕ) (asked : AskedGroup) : Type 0 where
  pub place : asked.place < 32
  pub has : HasCycle wiring cards asked.before.passed
  pub within : asked.before.passed ≤ count
