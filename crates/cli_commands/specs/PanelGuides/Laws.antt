-- The line that is explained stands on the pages that are printed.
use Rattle.std.specs.Prelude.{◌≡◌, ℕ, Bool, List, if◌then◌else◌}
use Rattle.cli_commands.specs.CommandsWords.Answers.{Answers}
use Rattle.explain_wheels.specs.ExplanationsWords.PlacedInRun.{PrintsLine}
use Rattle.page_text.specs.Pages.{Pages}
use Rattle.page_text.specs.declared.placed_lines.placed_line.PlacedLine.{PlacedLine}
use Rattle.fault_lines.specs.declared.program_io.command.Command.{Command}
use Rattle.fault_lines.specs.declared.program_io.command.Command.TheVariants as command
use Rattle.hubs.specs.SetupsWords.Wiring.{Wiring}
use Rattle.cli_commands.specs.PanelGuides.Explained.{IsExplained}
use Rattle.cli_commands.specs.PanelGuides.Panels.{is_wiring_text}
use Rattle.cli_commands.specs.declared.panel_guides.place.Place.{Place}

-- the command that prints the pages: a wiring chart is replayed, a planning chart is run
abbrev pub printing : Bool → Command
printing is_wiring = if is_wiring then command.Replay else command.Run

-- A line is one of those that the machine prints of some cards on a panel, and the pages of all these lines are what is printed of a text
-- and a deck.
pub record IsOnPages (text deck : List ℕ) (wiring : Wiring) (cards : List (List ℕ)) (line : PlacedLine) : Type 0 where
  pub pages : List ℕ
  pub answered : Answers (printing (is_wiring_text text)) text deck pages
  pub printed : PrintsLine wiring cards line
  pub of_lines : pages ≡ Pages printed.lines wiring.tape.lines

-- so is the line of each explanation of a text and a deck, on the panel and of the cards by which it is explained
abbrev pub ExplainedLinesAreOnPages : Type 0
ExplainedLinesAreOnPages =
    (text deck : List ℕ) (place : Place) (answer : List ℕ) (is : IsExplained text deck place answer)
    → IsOnPages text deck is.wiring is.cards is.told.line
