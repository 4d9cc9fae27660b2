-- The origins of what a wheel of a printed line is printed of, beside the numbers of counter groups.
use Rattle.std.specs.Prelude.{◌≡◌, ℕ, ◌+◌, true, false, List, [], ◌++◌, Option, Vec}
use Rattle.std.specs.declared.alloc.Global.{Global}
use Rattle.hubs.specs.declared.hub.Hub.{Hub}
use Rattle.explain_ledgers.specs.declared.ledgers.found.FoundCycle.{FoundCycle}
use Rattle.hubs.specs.SetupsWords.Wiring.{Wiring}
use Rattle.explain_origins.specs.Changes.{IsLastBefore, moves}
use Rattle.explain_origins.specs.Holders.{holder_at, ways_rest_on}
use Rattle.explain_origins.specs.Latches.{IsLatchText}
use Rattle.explain_origins.specs.Levels.{called_by}
use Rattle.explain_origins.specs.Pilots.{pilot_text}
use Rattle.explain_origins.specs.Placing.{IsPlacing}
use Rattle.explain_origins.specs.Storage.{storage_text}
use Rattle.explain_origins.specs.declared.changes.PassedCycle.{PassedCycle}
use Rattle.explain_origins.specs.declared.holders.Holder.{Holder}
use Rattle.explain_origins.specs.declared.holders.Holder.TheVariants.{Storage, Pilot, Latch}

-- what is told of a holder, by some ways and by the last cycle that moved it
abbrev pub IsTextBy : Wiring → List (List ℕ) → List (Option (Vec Hub Global)) → Holder → Option PassedCycle → List ℕ → Type 0
IsTextBy wiring cards ways (Storage place) last answer = answer ≡ storage_text wiring cards (place + 1) ways last
IsTextBy wiring cards ways (Pilot pilot) last answer = answer ≡ pilot_text wiring cards pilot last
IsTextBy wiring cards ways (Latch place) last answer = IsLatchText wiring cards place last answer

-- The text of a holder before the cycle behind so many others: nothing if none of the ways rests on what it holds.
pub data IsHolderText (wiring : Wiring) (cards : List (List ℕ)) (passed : ℕ) (ways : List (Option (Vec Hub Global))) (holder : Holder) :
    List ℕ → Type 0 where
  untold : ways_rest_on holder ways ≡ false → IsHolderText wiring cards passed ways holder []
  told :
      (last : Option PassedCycle) (text : List ℕ) → ways_rest_on holder ways ≡ true → IsLastBefore wiring cards passed (moves holder) last
      → IsTextBy wiring cards ways holder last text → IsHolderText wiring cards passed ways holder text

-- The texts of the first holders, one behind the other.
pub data AreHolderTexts (wiring : Wiring) (cards : List (List ℕ)) (passed : ℕ) (ways : List (Option (Vec Hub Global))) : ℕ → List ℕ → Type 0 where
  none : AreHolderTexts wiring cards passed ways 0 []
  more :
      (place : ℕ) (texts text : List ℕ) → AreHolderTexts wiring cards passed ways place texts
      → IsHolderText wiring cards passed ways (holder_at place) text → AreHolderTexts wiring cards passed ways (place + 1) (texts ++ text)

-- Before a cycle that placed a line, by the ways to the wheel at the rows of the cycle: the text tells of each storage unit at whose exits
-- one of the ways begins, of each pilot and each balance latch through whose transferred contacts one leads, then why the cycle
-- runs, and last why its line stands where it stands.
pub record AreOrigins (wiring : Wiring) (cards : List (List ℕ)) (found : FoundCycle) (ways : List (Option (Vec Hub Global)))
    (answer : List ℕ) : Type 0 where
  pub holders : List ℕ
  pub are : AreHolderTexts wiring cards found.passed ways 52 holders
  pub placed : IsPlacing wiring cards found (holders ++ called_by wiring cards found.card found.cycle) answer
