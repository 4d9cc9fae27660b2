-- Helper words of the code: the sums that are wanted for a page, before the run that finds their cycles and keeps their ledgers.
use Rattle.std.specs.Prelude.{◌≡◌, ℕ, ◌<◌, List, [], ◌∷◌, ◌++◌, All}
use Rattle.std.specs.List.{AllZip}
use Rattle.explain_wheels.specs.ExplanationsWords.PlacedInRun.{PrintsNoneAt}
use Rattle.explain_wheels.specs.declared.explanations.explanation.Explanation.{Explanation}
use Rattle.explain_ledgers.specs.LedgersWords.Running.{PlacesAt}
use Rattle.explain_ledgers.specs.declared.ledgers.found.LinePlace.{LinePlace}
use Rattle.explain_ledgers.specs.declared.ledgers.kept.AskedLedger.{AskedLedger}
use Rattle.show_links.specs.SumPlaces.Places.{account_at, sum_at}
use Rattle.show_links.specs.declared.sum_places.places.SumPlace.{SumPlace}
use Rattle.explain_words.specs.declared.explanation_text.text.ToldWheel.{ToldWheel}
use Rattle.hubs.specs.SetupsWords.Wiring.{Wiring}
use Rattle.explain_wheel_ledgers.specs.declared.chart_totals.TitledAccount.{TitledAccount}
use Rattle.show_sums.specs.SumSections.Sums.{AreSums, IsExplained, IsSumOf}
use Rattle.show_sums.specs.declared.sum_sections.sums.FoundSum.{FoundSum}
use Rattle.show_sums.specs.declared.sum_sections.sums.PageSum.{PageSum}
use Rattle.show_sums.specs.declared.sum_sections.sums.WantedSum.{WantedSum}

-- where a wanted sum stands, and where its line does
abbrev pub wanted_at : WantedSum → SumPlace
wanted_at wanted = wanted.at

abbrev pub line_place : WantedSum → LinePlace
line_place wanted = record { page = wanted.at.page; line = wanted.at.line }

-- a sum of the panel, on a line that the run prints
pub record IsWanted (wiring : Wiring) (deck : List (List ℕ)) (wanted : WantedSum) : Type 0 where
  pub place : wanted.place < 32
  pub there : PrintsNoneAt wiring deck wanted.at.page wanted.at.line → ⊥

-- A sum is the wanted one: that behind each wheel whose sum stands there.
pub record IsSumFor (wiring : Wiring) (totals : List TitledAccount) (deck : List (List ℕ)) (wanted : WantedSum) (sum : PageSum) : Type 0 where
  pub at : sum.at ≡ wanted.at
  pub is : (why : Explanation) → sum_at totals why wanted.place ≡ wanted.at → IsSumOf wiring totals deck why wanted.place sum

-- Some wanted sums are those behind some wheels that are explained: who has each of them has the sums behind the wheels.
pub record AreWantedFor (wiring : Wiring) (totals : List TitledAccount) (deck : List (List ℕ)) (told : List ToldWheel) (wanted : List WantedSum) :
    Type 0 where
  pub each : All (IsWanted wiring deck) wanted
  pub suffice : (sums : List PageSum) → AllZip (IsSumFor wiring totals deck) wanted sums → AreSums wiring totals deck told sums

abbrev pub AreWanted : List TitledAccount → List ToldWheel → List WantedSum → Type 0
AreWanted totals told wanted =
    (wiring : Wiring) (deck : List (List ℕ)) → All (λ (one : ToldWheel). IsExplained wiring deck one.why) told
    → AreWantedFor wiring totals deck told wanted

-- the sums that are wanted with one wheel more
abbrev pub WantsSum : List TitledAccount → Explanation → List WantedSum → List WantedSum → Type 0
WantsSum totals why old new =
    (wiring : Wiring) (deck : List (List ℕ)) (told : List ToldWheel) (one : ToldWheel) → one.why ≡ why → IsExplained wiring deck why
    → AreWantedFor wiring totals deck told old → AreWantedFor wiring totals deck (told ++ one ∷ []) new

-- the wanted sum of one whose cycle is found
abbrev pub wanted_of : FoundSum → WantedSum
wanted_of one = one.wanted

-- its cycle printed its line
abbrev pub IsFoundSum : Wiring → List (List ℕ) → FoundSum → Type 0
IsFoundSum wiring deck one = PlacesAt wiring deck (line_place one.wanted) one.found

-- the ledger that it asks for
abbrev pub asked_for : List TitledAccount → FoundSum → AskedLedger
asked_for totals one = record { account = account_at totals one.wanted.place; passed = one.found.passed }
