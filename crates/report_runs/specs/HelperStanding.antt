-- Helper words: how a streamed run stands between two cards, how it ends, and how it stops.
use Rattle.std.specs.Prelude.{◌≡◌, ◌⊎◌, ◌-◌, ⊤, ℕ, Bool, true, false, List, [], ◌∷◌, ◌++◌, Option, Some, None, length}
use Rattle.std.specs.Io.{StartsWith}
use Rattle.std.specs.Io.KnownBytes.{Appends, IsAtEnd}
use Rattle.card_code.specs.Deck.{Deck}
use Rattle.report_streams.specs.CardLines.Reading.{Reading, still_to_come}
use Rattle.chart_rules.specs.Rules.{IsLawful}
use Rattle.chart_lines.specs.ChartsWords.Chart.{Chart}
use Rattle.chart_lines.specs.declared.charts.chart.Line.{Line}
use Rattle.report_definition.specs.FollowedDecks.FitSoFar.{groups_before}
use Rattle.report_definition.specs.FollowedDecks.Stands.{last_of, report_before}
use Rattle.machine.specs.Machine.{MachineState, machine_at_start}
use Rattle.machine.specs.Runs.{MachineLines}
use Rattle.report_misfits.specs.OpenSums.{AreSumsOf, Sums}
use Rattle.net.specs.Nets.{IsNetOf}
use Rattle.report_writer.specs.Added.{line_after, page_after}
use Rattle.report_writer.specs.Open.{Open}
use Rattle.report_writer.specs.Outgoing.{Breaks, Outgoing, TakesUp}
use Rattle.report_writer.specs.Writing.{Writing}
use Rattle.page_text.specs.declared.placed_lines.placed_line.PlacedLine.{PlacedLine}
use Rattle.report_runs.specs.PrintPromises.Promises.{BeginsReport, IsDeck, PrintsReport}
use Rattle.report_definition.specs.Breaks.{no_cards}
use Rattle.report_definition.specs.ChartForm.{form_of}
use Rattle.report_definition.specs.Report.{Report}
use Rattle.report_definition.specs.Totals.{Fits}
use Rattle.hubs.specs.SetupsWords.Tapes.{IsCarriageTape}
use Rattle.hubs.specs.SetupsWords.Wiring.{Wiring}
use Rattle.report_runs.specs.Causes.{HasCause, cards_written, stops_between_cards}
use Rattle.report_runs.specs.FirstCauses.{HaveFitSoFar, IsFirstCause}
use Rattle.report_runs.specs.Reading.{HasRead, HasReadUpTo}
use Rattle.report_runs.specs.Streams.{Streams}
use Rattle.report_runs.specs.declared.fault.StreamCause.{StreamCause}
use Rattle.report_runs.specs.declared.fault.StreamCause.TheVariants as cause
use Rattle.report_runs.specs.declared.fault.StreamFault.{StreamFault}
use Rattle.report_runs.specs.declared.run.Run.{Run}

-- A setup that prints the reports of a chart and begins them, on the chart's form.
pub record Serves (chart : Chart) (wiring : Wiring) : Type 0 where
  pub lawful : IsLawful chart
  pub prints : PrintsReport chart wiring
  pub begins : BeginsReport chart wiring
  pub tape : IsCarriageTape wiring.tape
  pub form : wiring.tape.lines ≡ (form_of chart.lines).lines

-- These cards of a text were read, and what is left of it is still to come.
pub record HasToCome {S : Type 0} (left : S → Option (List ℕ)) (text : List ℕ) (cards : List (List ℕ)) (reading : Reading S) : Type 0 where
  pub rest : List ℕ
  pub is_left : still_to_come left reading ≡ Some rest
  pub is_read : HasRead text cards rest

-- A reading goes on after these cards: with a card more, or at the end of the text.
abbrev pub ReadsOn : {S : Type 0} → (S → Option (List ℕ)) → (text : List ℕ) (cards : List (List ℕ)) → Reading S → Option (List ℕ) → Type 0
ReadsOn left text cards reading None = Deck text cards
ReadsOn left text cards reading (Some card) = HasToCome left text (cards ++ card ∷ []) reading

-- a cause that is met where the next card is read and checked
abbrev pub IsOfNext : StreamCause → Type 0
IsOfNext (cause.Card fault) = ⊤
IsOfNext (cause.Invalid fault card) = ⊤
IsOfNext other = ⊥

-- Of these bytes the first were written since the sink held others, and are counted. The others wait, where no fault was told.
pub record HasTaken {W : Type 0} (held : W → Option (List ℕ)) (has_failed : W → Bool) (before : Option (List ℕ)) (bytes : List ℕ)
    (out : Outgoing W) : Type 0 where
  pub sent : List ℕ
  pub left : List ℕ
  pub parts : bytes ≡ sent ++ left
  pub taken : Appends before (held out.sink) sent
  pub counted : length sent ≡ out.written
  pub waits : out.has_failed ≡ false → left ≡ out.waiting
  pub broken : out.has_failed ≡ true → has_failed out.sink ≡ true

-- Lines are taken up by a writer of pages that has not failed, and its place is that of the last of them.
pub record TakesLines {W : Type 0} (held : W → Option (List ℕ)) (has_failed : W → Bool) (before : Option (List ℕ))
    (lines : List PlacedLine) (writing : Writing W) : Type 0 where
  pub bytes : HasTaken held has_failed before (Open lines writing.form_lines) writing.out
  pub well : writing.out.has_failed ≡ false
  pub page : writing.page ≡ page_after 1 lines
  pub line : writing.line ≡ line_after 0 lines

-- A machine was fed these cards and has placed these lines, all groups that have ended fit; before the first card it is as at the start.
abbrev pub HasFed : Chart → Wiring → List (List ℕ) → MachineState → List PlacedLine → Type 0
HasFed chart wiring [] machine lines = (machine ≡ machine_at_start wiring) × (lines ≡ [])
HasFed chart wiring (card ∷ cards) machine lines = Streams chart wiring card cards machine lines

-- the sums are those before the last of some cards, and that card waits
abbrev pub HaveLast : List Line → List (List ℕ) → Option (List ℕ) → Sums → Type 0
HaveLast lines [] last sums = (last ≡ None) × AreSumsOf lines no_cards sums × (sums.cards ≡ 0)
HaveLast lines (card ∷ cards) last sums =
    (last ≡ Some (last_of card cards)) × AreSumsOf lines (groups_before lines card cards) sums × (sums.cards ≡ length cards)

-- What a run began with: a setup, the bytes that its source had left, and those that its sink held, where they are known.
pub record Start : Type 0 where
  pub wiring : Wiring
  pub text : Option (List ℕ)
  pub held : Option (List ℕ)

-- what a run begins with that has read nothing and written nothing
abbrev pub start_of : {S W : Type 0} → (S → Option (List ℕ)) → (W → Option (List ℕ)) → Wiring → Reading S → Writing W → Start
start_of left held wiring reading writing = record {
  wiring = wiring;
  text = left reading.source;
  held = held writing.out.sink;
}

-- Nothing was read from a source yet, and nothing was written of pages on the form of a setup.
pub record IsUnbegun {S W : Type 0} (wiring : Wiring) (reading : Reading S) (writing : Writing W) : Type 0 where
  pub nothing_held : reading.held ≡ []
  pub none_given : reading.given ≡ 0
  pub well : reading.has_failed ≡ false
  pub none_wait : writing.out.waiting ≡ []
  pub none_written : writing.out.written ≡ 0
  pub unbroken : writing.out.has_failed ≡ false
  pub form : writing.form_lines ≡ wiring.tape.lines
  pub page : writing.page ≡ 1
  pub line : writing.line ≡ 0

-- How a run stands after some cards.
pub record Stands {S W : Type 0} (left : S → Option (List ℕ)) (held : W → Option (List ℕ)) (has_failed : W → Bool) (chart : Chart)
    (start : Start) (reading : Reading S) (run : Run) (writing : Writing W) : Type 0 where
  pub cards : List (List ℕ)
  pub lines : List PlacedLine
  pub fed : HasFed chart start.wiring cards run.machine.machine lines
  pub net : IsNetOf start.wiring run.machine.net
  pub sums : HaveLast chart.lines cards run.last run.sums
  pub counted : run.count ≡ length cards
  pub given : reading.given ≡ length cards
  pub well : reading.has_failed ≡ false
  pub read : (text : List ℕ) → start.text ≡ Some text → HasToCome left text cards reading
  pub form : writing.form_lines ≡ start.wiring.tape.lines
  pub written : TakesLines held has_failed start.held lines writing

-- How a run over so many cards ends, but for the end of its last page.
pub record Ends {S W : Type 0} (left : S → Option (List ℕ)) (held : W → Option (List ℕ)) (has_failed : W → Bool) (chart : Chart)
    (start : Start) (reading : Reading S) (count : ℕ) (writing : Writing W) : Type 0 where
  pub cards : List (List ℕ)
  pub lines : List PlacedLine
  pub valid : IsDeck chart cards
  pub fit : Fits chart.lines cards
  pub so_far : HaveFitSoFar chart.lines cards
  pub printed : MachineLines start.wiring cards lines
  pub counted : count ≡ length cards
  pub read : (text : List ℕ) → start.text ≡ Some text → Deck text cards
  pub up_to : (text : List ℕ) → start.text ≡ Some text → HasReadUpTo text cards cause.Write (left reading.source)
  pub all : IsAtEnd (left reading.source)
  pub form : writing.form_lines ≡ start.wiring.tape.lines
  pub written : TakesLines held has_failed start.held lines writing

-- The lines are those before the last of some cards; or these are the whole deck, and their totals fit.
abbrev pub StandBeforeLast : Chart → Start → List (List ℕ) → List PlacedLine → Type 0
StandBeforeLast chart start cards lines =
    (lines ≡ report_before chart cards (length cards - 1))
    ⊎ (((text : List ℕ) → start.text ≡ Some text → Deck text cards) × Fits chart.lines cards)

-- What is known where the sink fails: cards that were read are valid, no group that ended before the last of them has a misfit, and
-- their report begins with the lines that were placed.
pub record HaveBegun (chart : Chart) (start : Start) (left : Option (List ℕ)) (lines : List PlacedLine) : Type 0 where
  pub cards : List (List ℕ)
  pub valid : IsDeck chart cards
  pub read : (text : List ℕ) → start.text ≡ Some text → HasReadUpTo text cards cause.Write left
  pub so_far : HaveFitSoFar chart.lines cards
  pub begins : StartsWith (Report chart cards) (Open lines (form_of chart.lines).lines)
  pub before_last : StandBeforeLast chart start cards lines

-- How a run stops for a cause, but for what waits to be written. The sink may then fail, and the cause is not told.
pub record Stops {W : Type 0} (held : W → Option (List ℕ)) (has_failed : W → Bool) (chart : Chart) (start : Start) (stopped : StreamCause)
    (left : Option (List ℕ)) (writing : Writing W) : Type 0 where
  pub cards : List (List ℕ)
  pub lines : List PlacedLine
  pub valid : IsDeck chart cards
  pub read : (text : List ℕ) → start.text ≡ Some text → HasReadUpTo text cards stopped left × HasCause chart text cards stopped
  pub begins : StartsWith (Report chart cards) (Open lines (form_of chart.lines).lines)
  pub stands : stops_between_cards stopped ≡ true → lines ≡ report_before chart cards (cards_written cards stopped)
  pub refused : stopped ≡ cause.Memory → lines ≡ report_before chart cards (length cards - 1)
  pub written : HasTaken held has_failed start.held (Open lines (form_of chart.lines).lines) writing.out
  pub first : (text : List ℕ) → start.text ≡ Some text → IsFirstCause chart text cards stopped
  pub begun : HaveBegun chart start left lines
  pub broken : stopped ≡ cause.Write → writing.out.has_failed ≡ true

-- After a step a run stands a card further, or it has ended.
abbrev pub GoesOn : {S W : Type 0} → (S → Option (List ℕ)) → (W → Option (List ℕ)) → (W → Bool) → Chart → Start → Reading S → Run
    → Writing W → Bool → Type 0
GoesOn left held has_failed chart start reading run writing true = Stands left held has_failed chart start reading run writing
GoesOn left held has_failed chart start reading run writing false = Ends left held has_failed chart start reading run.count writing

-- Where a run stops, all that waits was written and the cause is told; or the sink has failed, and that is told.
pub data PutsOut {W : Type 0} (held : W → Option (List ℕ)) (has_failed : W → Bool) (stopped : StreamCause) (told : StreamFault)
    (old new : Outgoing W) : Type 0 where
  whole : told.cause ≡ stopped → TakesUp held [] old new → new.waiting ≡ [] → new.has_failed ≡ false → PutsOut held has_failed stopped told old new
  broken : told.cause ≡ cause.Write → Breaks held has_failed [] old new → PutsOut held has_failed stopped told old new
