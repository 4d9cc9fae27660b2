-- What a task has done and told, in the words of the call that does it. The deck is known where its reader tells its bytes beforehand, and what
-- is written and told where the writers tell what they hold.
use Rattle.std.specs.Prelude.{◌≡◌, ◌≢◌, ◌≤◌, ◌⊎◌, ◌-◌, ◌^◌, ℕ, Bool, true, false, List, [], Option, None, Some, codes}
use Rattle.std.specs.Io.KnownBytes.{Appends}
use Rattle.cli_calls.specs.BrowserPages.ShowEnds.{LeavesUnshown, PrintsPage}
use Rattle.card_code.specs.Lines.{lines_of}
use Rattle.cli_decks.specs.CheckCalls.CheckEnds.{PrintsOk, StopsCheck}
use Rattle.cli_decks.specs.CheckCalls.Grouped.{PrintsGrouped, StopsGrouped}
use Rattle.cli_decks.specs.CheckCalls.Showing.{ShowsOk, StopsShowing}
use Rattle.cli_calls.specs.Ends.{ByStatus, DoneOrAbove, DoneOrRefused, DoneOrStopped, IsToldOnce, IsWordsTold}
use Rattle.cli_tasks.specs.declared.pages.Pages.{Pages}
use Rattle.cli_tasks.specs.declared.task.Task.{Task}
use Rattle.cli_tasks.specs.declared.task.Task.TheVariants as task
use Rattle.cli_commands.specs.CommandsWords.Refusals.{RefusesChart}
use Rattle.cli_commands.specs.CommandsWords.ServedReplays.Answers.{HasOrders}
use Rattle.cli_commands.specs.CommandsWords.ServedReplays.Counted.{counts_line}
use Rattle.cli_commands.specs.CommandsWords.ServedReplays.OrderedEnds.{IsRefusedByOrders, PrintsByOrders}
use Rattle.cli_commands.specs.CommandsWords.Streamed.{EndsRun, HasFailed, HasRefused, HasRunWhole, HasServed}
use Rattle.fault_lines.specs.FaultGuide.GuideTexts.Printed.{PrintsEntry}
use Rattle.fault_lines.specs.FaultGuide.GuideTexts.Unknown.{IsUnknownTold}
use Rattle.fault_lines.specs.FaultGuide.Numbered.{is_numbered}
use Rattle.fault_lines.specs.FaultsWords.Lines.{IsTold}
use Rattle.fault_lines.specs.FaultsWords.Status.{status_of}
use Rattle.fault_lines.specs.declared.faults.fault.Fault.{Fault}
use Rattle.fault_lines.specs.declared.faults.fault.Fault.TheVariants as fault
use Rattle.fault_lines.specs.declared.faults.telling.Ending.{Ending}
use Rattle.cli_decks.specs.FoldingWords.FoldCalls.FoldEnds.{IsRefused, WritesDeck}
use Rattle.cli_decks.specs.FoldingWords.Folded.{folded_text}
use Rattle.cli_matching.specs.ChartCalls.ReadBack.{LeavesUnread, PrintsChart}
use Rattle.cli_matching.specs.Decked.{LeavesOver}
use Rattle.cli_matching.specs.Found.{IsWiredText, Prints}
use Rattle.cli_matching.specs.Matched.{LeavesUnmatched}
use Rattle.cli_matching.specs.Panels.{HasPanels}
use Rattle.cli_matching.specs.Unmatched.{IsToldUnmatched}
use Rattle.cli_matching.specs.declared.match_texts.telling.Telling.{Telling}
use Rattle.cli_matching.specs.declared.match_texts.telling.Telling.TheVariants as telling
use Rattle.cli_matching.specs.declared.unmatched.Unmatched.{Unmatched}
use Rattle.cli_commands.specs.PanelGuides.ExplainEnds.{LeavesUnexplained}
use Rattle.cli_commands.specs.PanelGuides.LedgerCalls.LedgerEnds.{PrintsTelling}
use Rattle.cli_commands.specs.PanelGuides.Legends.{PrintsLegend}
use Rattle.cli_commands.specs.PanelGuides.Panels.{HasPanel, is_wiring_text}
use Rattle.cli_commands.specs.PanelGuides.TraceCalls.TraceEnds.{LeavesUntraced, PrintsTrace}
use Rattle.cli_commands.specs.PanelGuides.Unexplained.{IsToldUnexplained, unexplained_status}
use Rattle.cli_commands.specs.declared.panel_guides.ledger_calls.telling.Question.{Question}
use Rattle.cli_commands.specs.declared.panel_guides.ledger_calls.telling.Question.TheVariants as question
use Rattle.cli_commands.specs.declared.panel_guides.place.Place.{Place}
use Rattle.cli_commands.specs.declared.panel_guides.unexplained.Unexplained.{Unexplained}
use Rattle.fault_lines.specs.ProgramIo.Input.{IsDivided}
use Rattle.fault_lines.specs.declared.program_io.command.Command.{Command}
use Rattle.fault_lines.specs.declared.program_io.command.Command.TheVariants as command
use Rattle.machine_served.specs.declared.served_runs.counts.Counts.{Counts}
use Rattle.cli_sheets.specs.SheetsWords.SheetCalls.CardSheets.{PrintsFields, StopsFields}
use Rattle.cli_sheets.specs.SheetsWords.SheetCalls.Layouts.{PrintsLayout, StopsLayout}
use Rattle.fault_lists.specs.TextLists.Endings.{AnswersText, EndsText}
use Rattle.cli_calls.specs.WholeRuns.Whole.{HasPrintedChosen, StopsWhole}
use Rattle.cli_calls.specs.declared.whole_runs.pages.PageRange.{PageRange}

-- the pages that are named, and all pages, as a run takes them
abbrev pub range_of : Pages → PageRange
range_of pages = record { first = pages.first; last = pages.last }

abbrev pub all_pages : PageRange
all_pages = record { first = 0; last = 2 ^ 64 - 1 }

-- the line that tells that a wiring chart takes no deck
abbrev pub deck_of_wiring : List ℕ
deck_of_wiring = codes "error: a wiring chart is checked without a deck; the columns of cards are checked with a planning chart\n"

-- The output holds `old` before and `new` after, the writer of faults `before` and `after`.
module _ (old new before after : Option (List ℕ)) (Unprinted Untold : Type 0) (ending : Ending) where
  -- the line of a fault is told
  abbrev pub Tells : Fault → Type 0
  Tells told = IsTold told ending.is_told before after

  -- the deck can't be read, which is told, and by then this was good
  abbrev pub Unread : (unreadable : Fault) (Good : Type 0) → Type 0
  Unread unreadable Good = (Unprinted × Good × Tells unreadable) ⊎ Tells fault.Write

  -- the pages of a deck, card by card
  abbrev pub Runs : (chart : List ℕ) (deck : Option (List ℕ)) → Type 0
  Runs chart deck = DoneOrAbove ending.status (HasRunWhole chart deck old new × Untold)
      ((told : Fault) × (ending.status ≡ status_of told) × ((left : Option (List ℕ)) × EndsRun chart deck left old new told Unprinted)
      × Tells told)

  -- the same of a chart and a deck in one text
  pub record RunsTogether (text : List ℕ) : Type 0 where
    pub chart : List ℕ
    pub deck : List ℕ
    pub divided : IsDivided text chart deck
    pub runs : Runs chart (Some deck)

  -- pages of a deck once it has run whole
  abbrev pub RunsWhole : (chart : List ℕ) (deck : Option (List ℕ)) → PageRange → Type 0
  RunsWhole chart deck pages = DoneOrAbove ending.status (HasPrintedChosen chart deck pages old new × Untold)
      ((told : Unexplained) × (ending.status ≡ unexplained_status told) × ((left : Option (List ℕ)) × StopsWhole chart deck left pages told Unprinted)
      × IsToldUnexplained told ending.is_told before after)

  -- a command of `serve_command`
  pub record Serves (known : Command) (text : List ℕ) (deck : Option (List ℕ)) (unreadable : Fault) : Type 0 where
    pub done : ending.status ≡ 0 → HasServed known text deck old new × Untold
    pub refused : ending.status ≡ 3 → (told : Fault) × HasRefused known text deck old new told Unprinted × Tells told
    pub failed : 3 ≤ ending.status → (told : Fault) × (ending.status ≡ status_of told)
        × HasFailed known text deck old new told unreadable Unprinted × Tells told
    pub statuses : (ending.status ≡ 0) ⊎ (3 ≤ ending.status × ending.status ≤ 5)

  -- all faults of a text are listed
  abbrev pub ListsText : (text : List ℕ) → Type 0
  ListsText text = DoneOrStopped ending.status (AnswersText text old new × Untold)
      ((told : Fault) × (ending.status ≡ status_of told) × EndsText text old new told × Tells told)

  -- a check has this to print where nothing is wrong with the deck, or stops
  abbrev pub Checks : (shows_both : Bool) (Fine : Type 0) (Stopped : Fault → Type 0) → Type 0
  Checks shows_both Fine Stopped = DoneOrStopped ending.status (Fine × Untold)
      ((told : Fault) × (ending.status ≡ status_of told) × Stopped told × IsToldOnce told shows_both ending.is_told before after Untold)

  -- the bad cards of a deck are listed
  abbrev pub ChecksDeck : (text : List ℕ) (deck : Option (List ℕ)) (shows_both : Bool) → Type 0
  ChecksDeck text deck shows_both =
      Checks shows_both (PrintsOk text deck old new) (λ told. StopsCheck text deck old new told Unprinted)

  -- they are shown
  abbrev pub ShowsCards : (text : List ℕ) (deck : Option (List ℕ)) (unreadable : Fault) (shows_both : Bool) → Type 0
  ShowsCards text deck unreadable shows_both =
      Checks shows_both (ShowsOk text deck old new) (λ told. StopsShowing text deck old new told unreadable Unprinted)

  -- they are listed, or the control keys that come back
  abbrev pub GroupsDeck : (text : List ℕ) (deck : Option (List ℕ)) (unreadable : Fault) (shows_both : Bool) → Type 0
  GroupsDeck text deck unreadable shows_both =
      Checks shows_both (PrintsGrouped text deck old new) (λ told. StopsGrouped text deck old new told unreadable Unprinted)

  -- The faults of the text are listed and one of them is told, or the list broke off. Or it has none: a wiring chart is refused in words, and of
  -- a planning chart the bad cards of the deck are shown.
  pub data ShowsDeck (text : List ℕ) (deck : Option (List ℕ)) (unreadable : Fault) (shows_both : Bool) : Type 0 where
    faulty : (told : Fault) → ending.status ≡ status_of told → EndsText text old new told → Tells told
        → ShowsDeck text deck unreadable shows_both
    of_wiring : (listed : Option (List ℕ)) → is_wiring_text text ≡ true → AnswersText text (Some []) listed → ending.status ≡ 2 → Unprinted
        → IsWordsTold deck_of_wiring ending.is_told before after → ShowsDeck text deck unreadable shows_both
    of_chart : (listed : Option (List ℕ)) → is_wiring_text text ≡ false → AnswersText text (Some []) listed
        → ShowsCards text deck unreadable shows_both → ShowsDeck text deck unreadable shows_both

  -- what a wheel printed is explained, or its ledger is told
  abbrev pub TellsWheel : (text : List ℕ) (deck : Option (List ℕ)) (unreadable : Fault) → Place → Question → Type 0
  TellsWheel text deck unreadable place asked = ByStatus ending.status
      (PrintsTelling text deck asked place old new × Untold)
      ((told : Unexplained) × LeavesUnexplained text deck place told × Unprinted × IsToldUnexplained told ending.is_told before after)
      (Unread unreadable (HasPanel text)) (Tells fault.Memory)

  -- a panel is matched with a chart
  abbrev pub Matches : Telling → (chart wiring : List ℕ) → Type 0
  Matches how chart wiring = ByStatus ending.status
      (Prints chart wiring (λ _. IsWiredText) old new × Untold)
      ((told : Unmatched) × LeavesUnmatched how chart wiring told old new Unprinted × IsToldUnmatched told ending.is_told before after)
      (Tells fault.Write) (Tells fault.Memory)

  -- the entry of a fault is printed, or no fault has the number
  pub record PrintsFault (number : ℕ) : Type 0 where
    pub done : ending.status ≡ 0 → PrintsEntry number old new × Untold
    pub unknown : is_numbered number ≡ false → (ending.status ≡ 2) × Unprinted × IsUnknownTold number ending.is_told before after
    pub mistaken : ending.status ≡ 2 → is_numbered number ≡ false
    pub output : ending.status ≡ 4 → Tells fault.Write
    pub memory : ending.status ≡ 5 → Tells fault.Memory
    pub statuses : (ending.status ≤ 5) × (ending.status ≢ 1) × (ending.status ≢ 3)

  -- each task by its call
  abbrev pub Does : (text other : List ℕ) (deck : Option (List ℕ)) (unreadable : Fault) (shows_both : Bool) → Task → Type 0
  Does text other deck unreadable shows_both task.Run = Runs text deck
  Does text other deck unreadable shows_both task.RunWhole = RunsWhole text deck all_pages
  Does text other deck unreadable shows_both (task.RunPages pages) = RunsWhole text deck (range_of pages)
  Does text other deck unreadable shows_both task.RunTogether = RunsTogether text
  Does text other deck unreadable shows_both task.Check = Serves command.Check text deck unreadable
  Does text other deck unreadable shows_both task.ListFaults = ListsText text
  Does text other deck unreadable shows_both task.CheckDeck = ChecksDeck text deck shows_both
  Does text other deck unreadable shows_both task.ShowDeck = ShowsDeck text deck unreadable shows_both
  Does text other deck unreadable shows_both task.GroupDeck = GroupsDeck text deck unreadable shows_both
  Does text other deck unreadable shows_both task.Layout = DoneOrStopped ending.status (PrintsLayout text old new × Untold)
      ((told : Fault) × (ending.status ≡ status_of told) × StopsLayout text told Unprinted × Tells told)
  Does text other deck unreadable shows_both (task.Fields card) = DoneOrStopped ending.status (PrintsFields text deck card old new × Untold)
      ((told : Fault) × (ending.status ≡ status_of told) × StopsFields text deck card told unreadable Unprinted × Tells told)
  Does text other deck unreadable shows_both task.Wire = Serves command.Wire text deck unreadable
  Does text other deck unreadable shows_both task.Replay = Serves command.Replay text deck unreadable
  Does text other deck unreadable shows_both task.ReplayByOrders = ByStatus ending.status
      ((counts : Counts) × PrintsByOrders text other deck counts old new × Appends before after (counts_line counts))
      ((told : Fault) × IsRefusedByOrders text other deck told × Unprinted × Tells told)
      (Unread unreadable (HasOrders text other)) (Tells fault.Memory)
  Does text other deck unreadable shows_both task.Upgrade = Serves command.Upgrade text deck unreadable
  Does text other deck unreadable shows_both task.Chart = ByStatus ending.status
      (PrintsChart text None old new × Untold)
      ((told : Unmatched) × LeavesUnread text told old new Unprinted × IsToldUnmatched told ending.is_told before after)
      (Tells fault.Write) (Tells fault.Memory)
  Does text other deck unreadable shows_both task.Match = Matches telling.Wires text other
  Does text other deck unreadable shows_both task.MatchHints = Matches telling.Hints text other
  Does text other deck unreadable shows_both task.MatchDeck = ByStatus ending.status
      (Prints text other (λ _. IsWiredText) old new × Untold)
      ((told : Unmatched) × LeavesOver text other deck told old new Unprinted × IsToldUnmatched told ending.is_told before after)
      (Unread unreadable (HasPanels text other)) (Tells fault.Memory)
  Does text other deck unreadable shows_both task.Legend = ByStatus ending.status
      (PrintsLegend text old new × Untold)
      ((told : Fault) × RefusesChart text told × Unprinted × Tells told)
      (Tells fault.Write) (Tells fault.Memory)
  Does text other deck unreadable shows_both (task.Explain page line wheel whole) =
      TellsWheel text deck unreadable (record { page = page; line = line; wheel = wheel }) (question.Explanation whole)
  Does text other deck unreadable shows_both (task.Ledger page line wheel all) =
      TellsWheel text deck unreadable (record { page = page; line = line; wheel = wheel }) (question.Ledger all)
  Does text other deck unreadable shows_both task.Trace = ByStatus ending.status
      (PrintsTrace text deck old new × Untold)
      ((told : Fault) × LeavesUntraced text deck told × Unprinted × Tells told)
      (Unread unreadable (HasPanel text)) (Tells fault.Memory)
  Does text other deck unreadable shows_both (task.Show around) = ByStatus ending.status
      (PrintsPage text deck around old new × Untold)
      ((told : Unexplained) × LeavesUnshown text deck around told × Unprinted × IsToldUnexplained told ending.is_told before after)
      (Unread unreadable (HasPanel text)) (Tells fault.Memory)
  Does text other deck unreadable shows_both (task.Fold fill) = DoneOrRefused ending.status
      (WritesDeck text fill old new before after)
      (Unprinted × IsRefused (folded_text fill (lines_of text)) ending.is_told before after)
  Does text other deck unreadable shows_both (task.Fault number) = PrintsFault number
