-- Laws of runs over decks whose cards come one by one.
use Rattle.std.specs.Prelude.{◌≡◌, ℕ, ◌<◌, ◌≤◌, List, [], ◌∷◌, ◌++◌, Option, Some, None, length, option_to_list}
use Rattle.card_code.specs.Deck.{Deck}
use Rattle.card_code.specs.MostCards.{most_cards}
use Rattle.chart_rules.specs.ValidCard.{IsValidCard}
use Rattle.chart_lines.specs.ChartsWords.Chart.{Chart}
use Rattle.report_definition.specs.FollowedDecks.FitSoFar.{misfits_of_last}
use Rattle.machine.specs.Feeds.{FedLines, Feeds}
use Rattle.machine.specs.Machine.{MachineState, machine_at_start}
use Rattle.machine.specs.Runs.{MachineLines}
use Rattle.page_text.specs.PlacedLines.InOrder.{IsInOrder}
use Rattle.page_text.specs.declared.placed_lines.placed_line.PlacedLine.{PlacedLine}
use Rattle.report_misfits.specs.ToldMisfits.{told}
use Rattle.report_misfits.specs.declared.misfit.Misfit.{Misfit as Found}
use Rattle.report_definition.specs.Misfits.{first_of, misfits}
use Rattle.report_definition.specs.Totals.{Fits}
use Rattle.hubs.specs.SetupsWords.Tapes.{IsCarriageTape}
use Rattle.hubs.specs.SetupsWords.Wiring.{Wiring}
use Rattle.report_runs.specs.Causes.{IsOfText}
use Rattle.report_runs.specs.FirstCauses.{IsFirstMisfit}
use Rattle.report_runs.specs.Reading.{HasRead}
use Rattle.report_runs.specs.Runs.{HasStopped}
use Rattle.report_runs.specs.Streams.{Streams}
use Rattle.report_runs.specs.declared.fault.StreamCause.{StreamCause}

-- A run begins where the machine is fed a valid card.
abbrev pub StreamsBegin : Type 0
StreamsBegin =
    (chart : Chart) (wiring : Wiring) (card : List ℕ) (machine : MachineState) (lines : List PlacedLine)
    → IsValidCard chart card → Feeds wiring (machine_at_start wiring) (Some card) machine lines
    → Streams chart wiring card [] machine lines

-- It goes on where the next card is valid and not one too many, the groups that end with the card that waits have no misfit, and the machine
-- is fed the next card.
abbrev pub StreamsGoOn : Type 0
StreamsGoOn =
    (chart : Chart) (wiring : Wiring) (card : List ℕ) (cards : List (List ℕ)) (machine : MachineState) (lines : List PlacedLine)
    (next : List ℕ) (new : MachineState) (more : List PlacedLine)
    → Streams chart wiring card cards machine lines
    → IsValidCard chart next → length (card ∷ cards) < most_cards
    → misfits_of_last chart.lines card cards (Some next) ≡ []
    → Feeds wiring machine (Some next) new more
    → Streams chart wiring card (cards ++ next ∷ []) new (lines ++ more)

-- It ends where the groups that end with the last card have no misfit and the machine is fed the end: the deck fits, and the lines placed
-- are those of the machine's run over it.
abbrev pub StreamsEnd : Type 0
StreamsEnd =
    (chart : Chart) (wiring : Wiring) (card : List ℕ) (cards : List (List ℕ)) (machine : MachineState) (lines : List PlacedLine)
    (new : MachineState) (more : List PlacedLine)
    → Streams chart wiring card cards machine lines
    → misfits_of_last chart.lines card cards None ≡ []
    → Feeds wiring machine None new more
    → Fits chart.lines (card ∷ cards) × MachineLines wiring (card ∷ cards) (lines ++ more)

-- A machine that is fed the end at once has run over the deck without cards, which fits.
abbrev pub StreamsMayHaveNoCard : Type 0
StreamsMayHaveNoCard =
    (chart : Chart) (wiring : Wiring) (new : MachineState) (lines : List PlacedLine)
    → Feeds wiring (machine_at_start wiring) None new lines
    → Fits chart.lines [] × MachineLines wiring [] lines

-- The lines that a feed places come in order after those of the feeds before it, where there are at most 999,999 cards.
abbrev pub FeedsPlaceInOrder : Type 0
FeedsPlaceInOrder =
    (wiring : Wiring) (cards : List (List ℕ)) (next : Option (List ℕ)) (machine new : MachineState) (lines more : List PlacedLine)
    → IsCarriageTape wiring.tape → length (cards ++ option_to_list next) ≤ most_cards
    → FedLines wiring (machine_at_start wiring) cards machine lines
    → Feeds wiring machine next new more
    → IsInOrder wiring.tape.lines (lines ++ more)

-- A misfit at which a run stops is the first of the whole deck, also where it goes on after the cards that were read.
abbrev pub MisfitsAreTheDecks : Type 0
MisfitsAreTheDecks =
    (chart : Chart) (text : List ℕ) (cards : List (List ℕ)) (rest : List ℕ) (misfit : Found) (all : List (List ℕ))
    → HasRead text cards rest → IsFirstMisfit chart text cards misfit → Deck text all
    → first_of (misfits chart.lines all) ≡ Some (told misfit)

-- A text stops runs for one cause: that of a run over it, unless memory or a device has stopped it, is that of each other one, whatever each
-- has written and left to read.
abbrev pub TextsHaveOneCause : Type 0
TextsHaveOneCause =
    (chart : Chart) (text : List ℕ) (one other : StreamCause) (left its_left : Option (List ℕ)) (written its_written : List ℕ)
    → IsOfText one → IsOfText other
    → HasStopped chart text left one written → HasStopped chart text its_left other its_written
    → one ≡ other
