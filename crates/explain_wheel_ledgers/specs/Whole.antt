-- What a wheel is printed of, down to the holes.
use Rattle.std.specs.Prelude.{◌≡◌, ℕ, ◌==◌, ◌&&◌, ◌||◌, Bool, false, List, [], ◌∷◌, ◌++◌, Option, Vec, drop, length, if◌then◌else◌}
use Rattle.std.specs.List.{flat_map, range_with_len}
use Rattle.std.specs.declared.alloc.Global.{Global}
use Rattle.explain_wheels.specs.declared.explanations.explanation.Explanation.{Explanation}
use Rattle.hubs.specs.declared.hub.Hub.{Hub}
use Rattle.explain_wheel_ledgers.specs.LedgerHoles.Down.{IsLedgerDown}
use Rattle.explain_ledgers.specs.LedgersWords.Running.{IsKeptLedger, PlacesLine}
use Rattle.explain_ledgers.specs.LedgersWords.Summaries.{Summary}
use Rattle.explain_ledgers.specs.LedgersWords.CycleReadOuts.{TellReadOuts}
use Rattle.explain_ledgers.specs.declared.ledgers.found.FoundCycle.{FoundCycle}
use Rattle.explain_ledgers.specs.declared.ledgers.kept.AskedLedger.{AskedLedger}
use Rattle.explain_ledgers.specs.declared.ledgers.read_outs.ReadOuts.{ReadOuts}
use Rattle.explain_origins.specs.ToldOrigins.{AreOrigins}
use Rattle.explain_origins.specs.declared.changes.PassedCycle.{PassedCycle}
use Rattle.hubs.specs.SetupsWords.Wiring.{Wiring}
use Rattle.explain_wheel_ledgers.specs.Lower.{lower_of}
use Rattle.explain_wheel_ledgers.specs.Resting.{is_printed_of}
use Rattle.explain_wheel_ledgers.specs.ToldLedgers.{account_told, words_told}
use Rattle.explain_wheel_ledgers.specs.Totals.{find_total}
use Rattle.explain_wheel_ledgers.specs.declared.chart_totals.TitledAccount.{TitledAccount}
use Rattle.explain_wheel_ledgers.specs.declared.lower.AskedGroup.{AskedGroup}

-- the ledger that is asked for of a group: that of the total that it serves, or else that of the one group
abbrev pub ledger_asked : List TitledAccount → AskedGroup → AskedLedger
ledger_asked totals asked = record {
  account = account_told (find_total totals asked.place) asked.place;
  passed = asked.before.passed;
}

-- the ledgers to which the entries that are told of a ledger lead: the first ones, and then the last ones
abbrev pub lower_told : Wiring → List TitledAccount → List ReadOuts → Summary → List AskedGroup
lower_told wiring totals read_outs told =
    flat_map (lower_of wiring totals read_outs told.account) told.first
    ++ flat_map (lower_of wiring totals read_outs told.account) told.last

-- A ledger that is asked for is told down to the holes, and these are the ledgers to which it leads.
pub record IsToldLedger (wiring : Wiring) (cards : List (List ℕ)) (totals : List TitledAccount) (read_outs : List ReadOuts) (ends : ℕ)
    (asked : AskedGroup) (text : List ℕ) (lower : List AskedGroup) : Type 0 where
  pub summary : Summary
  pub is : IsKeptLedger wiring cards asked.before.passed ends (ledger_asked totals asked).account summary
  pub told : IsLedgerDown wiring cards summary asked.before.cycle asked.before.card (words_told (find_total totals asked.place)) text
  pub leads : lower ≡ lower_told wiring totals read_outs summary

-- Some ledgers that are asked for are told, one behind the other, and these are those to which they lead.
pub data AreTold (wiring : Wiring) (cards : List (List ℕ)) (totals : List TitledAccount) (read_outs : List ReadOuts) (ends : ℕ) :
    (asked : List AskedGroup) → (texts : List ℕ) → (lower : List AskedGroup) → Type 0 where
  none_told : AreTold wiring cards totals read_outs ends [] [] []
  one_told :
      (asked : List AskedGroup) (one : AskedGroup) (texts text : List ℕ) (lower next : List AskedGroup)
      → AreTold wiring cards totals read_outs ends asked texts lower
      → IsToldLedger wiring cards totals read_outs ends one text next
      → AreTold wiring cards totals read_outs ends (asked ++ one ∷ []) (texts ++ text) (lower ++ next)

-- Helper word of the code: they are told behind a text.
pub record TellsAll (wiring : Wiring) (cards : List (List ℕ)) (totals : List TitledAccount) (read_outs : List ReadOuts) (ends : ℕ)
    (asked : List AskedGroup) (old new : List ℕ) (lower : List AskedGroup) : Type 0 where
  pub texts : List ℕ
  pub told : AreTold wiring cards totals read_outs ends asked texts lower
  pub written : new ≡ old ++ texts

-- two ledgers that are asked for are one: of the same group before the same cycle
abbrev pub is_same : AskedGroup → AskedGroup → Bool
is_same one other = (one.place == other.place) && (one.before.passed == other.before.passed)

-- one of some is this one
abbrev pub is_among : List AskedGroup → AskedGroup → Bool
is_among [] one = false
is_among (other ∷ others) one = is_same other one || is_among others one

-- one is asked for behind others, unless it is asked for already
abbrev pub with_one : AskedGroup → List AskedGroup → List AskedGroup
with_one one asked = if is_among asked one then asked else asked ++ one ∷ []

-- some are
abbrev pub with_lower : List AskedGroup → List AskedGroup → List AskedGroup
with_lower [] asked = asked
with_lower (one ∷ others) asked = with_lower others (with_one one asked)

-- Of ledgers that are asked for, those behind the first so many are told, then those to which they lead and that weren't asked for yet, and so
-- on until all that are asked for are told.
pub data AreToldFrom (wiring : Wiring) (cards : List (List ℕ)) (totals : List TitledAccount) (read_outs : List ReadOuts) (ends : ℕ) :
    (asked : List AskedGroup) → (told : ℕ) → (answer : List ℕ) → Type 0 where
  all_told : (asked : List AskedGroup) (told : ℕ) → drop told asked ≡ [] → AreToldFrom wiring cards totals read_outs ends asked told []
  next_told :
      (asked : List AskedGroup) (told : ℕ) (texts : List ℕ) (lower : List AskedGroup) (answer : List ℕ)
      → AreTold wiring cards totals read_outs ends (drop told asked) texts lower
      → AreToldFrom wiring cards totals read_outs ends (with_lower lower asked) (length asked) answer
      → AreToldFrom wiring cards totals read_outs ends asked told (texts ++ answer)

-- The ledgers that are asked for first are told, those to which they lead, and so on, each once.
abbrev pub AreDown : Wiring → List (List ℕ) → List TitledAccount → List ReadOuts → (ends : ℕ) → List AskedGroup → List ℕ → Type 0
AreDown wiring cards totals read_outs ends first answer = AreToldFrom wiring cards totals read_outs ends first 0 answer

-- the ledger of a place before a cycle, if a way begins at an exit of its group
abbrev pub asked_at : List (Option (Vec Hub Global)) → PassedCycle → ℕ → List AskedGroup
asked_at ways before place = if is_printed_of ways place then record { place = place; before = before } ∷ [] else []

-- those of all groups at which some ways begin
unfoldable pub asked_of : List (Option (Vec Hub Global)) → PassedCycle → List AskedGroup
asked_of ways before = flat_map (asked_at ways before) (range_with_len 0 32)

-- the cycle that placed a line
abbrev pub cycle_found : FoundCycle → PassedCycle
cycle_found found = record { cycle = found.cycle; card = found.card; passed = found.passed }

-- Before a cycle that placed a line, by the ways to a wheel at the rows of the cycle: the text tells the ledgers of all counter groups at
-- whose exits one of the ways begins, down to the holes, with those to which they lead, by which groups are read out in each cycle
-- before, and behind them the origins of what else the ways begin at, and of the cycle.
pub record IsWholeText (wiring : Wiring) (cards : List (List ℕ)) (totals : List TitledAccount) (ends : ℕ) (found : FoundCycle)
    (ways : List (Option (Vec Hub Global))) (answer : List ℕ) : Type 0 where
  pub read_outs : List ReadOuts
  pub all : length read_outs ≡ found.passed
  pub read : TellReadOuts wiring cards read_outs
  pub ledgers : List ℕ
  pub down : AreDown wiring cards totals read_outs ends (asked_of ways (cycle_found found)) ledgers
  pub origins : List ℕ
  pub are : AreOrigins wiring cards found ways origins
  pub whole : answer ≡ ledgers ++ origins

-- On a panel, over cards, by the totals of a chart: the text tells down to the holes what the wheel of the line at this page and line of it is
-- printed of, by the ways of its explanation, before a cycle that placed the line there.
pub record TellsWhole (wiring : Wiring) (cards : List (List ℕ)) (totals : List TitledAccount) (ends page line : ℕ)
    (explanation : Explanation) (answer : List ℕ) : Type 0 where
  pub found : FoundCycle
  pub places : PlacesLine wiring cards found
  pub at_page : found.line.page ≡ page
  pub at_line : found.line.line ≡ line
  pub whole : IsWholeText wiring cards totals ends found explanation.rows.items answer
