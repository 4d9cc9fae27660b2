-- What a streamed run has read and written where it ends, and where it stops.
use Rattle.std.specs.Prelude.{◌≡◌, ℕ, ◌-◌, true, false, List, Option, Some, length}
use Rattle.std.specs.Io.{StartsWith}
use Rattle.std.specs.Io.KnownBytes.{Appends, IsAtEnd}
use Rattle.card_code.specs.Deck.{Deck}
use Rattle.chart_lines.specs.ChartsWords.Chart.{Chart}
use Rattle.report_definition.specs.FollowedDecks.Stands.{report_before}
use Rattle.report_writer.specs.Open.{Open}
use Rattle.report_runs.specs.PrintPromises.Promises.{IsDeck}
use Rattle.report_definition.specs.ChartForm.{form_of}
use Rattle.report_definition.specs.Report.{Report}
use Rattle.report_definition.specs.Totals.{Fits}
use Rattle.report_runs.specs.Causes.{HasCause, cards_written, stops_between_cards}
use Rattle.report_runs.specs.FirstCauses.{IsFirstCause}
use Rattle.report_runs.specs.Reading.{HasReadUpTo}
use Rattle.report_runs.specs.declared.fault.StreamCause.{StreamCause}
use Rattle.report_runs.specs.declared.fault.StreamCause.TheVariants as cause
use Rattle.report_runs.specs.declared.fault.StreamFault.{StreamFault}

-- The run came to the end of the deck: so many cards, those of the whole text, are valid, their totals fit, and their report was written.
pub record HasRun (chart : Chart) (text : List ℕ) (count : ℕ) (written : List ℕ) : Type 0 where
  pub cards : List (List ℕ)
  pub deck : Deck text cards
  pub counted : length cards ≡ count
  pub valid : IsDeck chart cards
  pub fit : Fits chart.lines cards
  pub report : written ≡ Report chart cards

-- What was written of the report of some cards if memory was refused or a write failed: a front of what comes before the lines of the last
-- card; or the write failed at the end of the deck, and its totals fit.
pub data IsWithinLast (chart : Chart) (text : List ℕ) (cards : List (List ℕ)) (met : StreamCause) (written : List ℕ) : Type 0 where
  before_last : StartsWith (Open (report_before chart cards (length cards - 1)) (form_of chart.lines).lines) written
      → IsWithinLast chart text cards met written
  at_the_end : met ≡ cause.Write → Deck text cards → Fits chart.lines cards → IsWithinLast chart text cards met written

-- The run stopped: the cards that were read before are valid, the cause is so, it is the first one, and what was written begins their report.
-- Where a card or a total stopped it, that is exactly what stands before the lines of a card.
pub record HasStopped (chart : Chart) (text : List ℕ) (left : Option (List ℕ)) (met : StreamCause) (written : List ℕ) : Type 0 where
  pub cards : List (List ℕ)
  pub is_read : HasReadUpTo text cards met left
  pub valid : IsDeck chart cards
  pub has_cause : HasCause chart text cards met
  pub is_first : IsFirstCause chart text cards met
  pub begins : StartsWith (Report chart cards) written
  pub stands : stops_between_cards met ≡ true →
      written ≡ Open (report_before chart cards (cards_written cards met)) (form_of chart.lines).lines
  pub cut_off : stops_between_cards met ≡ false → IsWithinLast chart text cards met written

-- A run over a source and a sink, of which are known, as far as they tell it, the bytes that were left and those that are left, and the bytes
-- that were held and those that are held. It came to the end: no byte is left, and the report of all that were left was written.
pub record RunsToEnd (chart : Chart) (were_left are_left were_held are_held : Option (List ℕ)) (count : ℕ) : Type 0 where
  pub all : IsAtEnd are_left
  pub run : (text : List ℕ) → were_left ≡ Some text → (written : List ℕ) × HasRun chart text count written × Appends were_held are_held written

-- It stopped: as many bytes were written as are counted, whatever the source tells, and where it tells its bytes they are the front of the
-- report of the cards that were read.
pub record StopsShort (chart : Chart) (were_left are_left were_held are_held : Option (List ℕ)) (fault : StreamFault) : Type 0 where
  pub written : List ℕ
  pub gained : Appends were_held are_held written
  pub counted : length written ≡ fault.written
  pub stopped : (text : List ℕ) → were_left ≡ Some text → HasStopped chart text are_left fault.cause written
