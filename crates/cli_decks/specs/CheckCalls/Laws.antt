-- A law of a check and a run over one deck.
use Rattle.std.specs.Prelude.{◌≡◌, ℕ, Bool, true, false, List, Option, Some, slice_get}
use Rattle.cli_commands.specs.CommandsWords.Streamed.{IsToldOf}
use Rattle.chart_lines.specs.ChartsWords.Chart.{Chart}
use Rattle.compile407.specs.Below.report_runs.Below.report_streams.declared.card_lines.fault.ReadFault.TheVariants as read
use Rattle.compile407.specs.Below.report_runs.Runs.{HasStopped}
use Rattle.compile407.specs.Below.report_runs.declared.fault.StreamCause.{StreamCause}
use Rattle.compile407.specs.Below.report_runs.declared.fault.StreamCause.TheVariants as cause
use Rattle.cli_decks.specs.CheckCalls.DeckChecks.Listings.{IsListing}
use Rattle.fault_lines.specs.declared.faults.fault.Fault.{Fault}

-- whether it is the deck that stopped a run: a line that is no card, a card that is not valid or a total that does not fit, and not a device or
-- want of memory
abbrev pub stops_at_deck : StreamCause → Bool
stops_at_deck (cause.Card (read.Deck fault)) = true
stops_at_deck (cause.Card other) = false
stops_at_deck (cause.Invalid fault card) = true
stops_at_deck (cause.Misfit misfit) = true
stops_at_deck other = false

-- Where the deck stopped a run, what is told of the cause is the first of what a check lists of the deck.
abbrev pub ChecksTellFirstWhatStopsRuns : Type 0
ChecksTellFirstWhatStopsRuns =
    (chart : Chart) (text : List ℕ) (left : Option (List ℕ)) (met : StreamCause) (written : List ℕ) (told : Fault) (listed : List Fault)
    → HasStopped chart text left met written → stops_at_deck met ≡ true → IsToldOf met told
    → IsListing chart text listed
    → slice_get listed 0 ≡ Some told
