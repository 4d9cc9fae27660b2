-- Helper words: how a replay stands between two cards, how it ends, and how it stops.
use Rattle.std.specs.Prelude.{◌≡◌, ℕ, Bool, false, List, [], ◌++◌, Option}
use Rattle.card_code.specs.Deck.{Deck}
use Rattle.machine.specs.Feeds.{LinesFrom}
use Rattle.machine.specs.Running.{Running}
use Rattle.machine.specs.Runs.{MachineLines}
use Rattle.net.specs.Nets.{IsNetOf}
use Rattle.report_writer.specs.Added.{line_after, page_after}
use Rattle.report_writer.specs.Open.{Open}
use Rattle.report_writer.specs.Outgoing.{Breaks, Outgoing, TakesUp}
use Rattle.report_writer.specs.Writing.{Writing}
use Rattle.page_text.specs.declared.placed_lines.placed_line.PlacedLine.{PlacedLine}
use Rattle.cli_commands.specs.declared.commands.replays.fault.ReplayCause.{ReplayCause}
use Rattle.cli_commands.specs.declared.commands.replays.fault.ReplayCause.TheVariants as cause
use Rattle.hubs.specs.SetupsWords.Wiring.{Wiring}

-- A writer of pages before its first line, on the form of a setup.
pub record IsUnbegun {S : Type 0} (wiring : Wiring) (writing : Writing S) : Type 0 where
  pub none_wait : writing.out.waiting ≡ []
  pub none_written : writing.out.written ≡ 0
  pub well : writing.out.has_failed ≡ false
  pub form : writing.form_lines ≡ wiring.tape.lines
  pub page : writing.page ≡ 1
  pub line : writing.line ≡ 0

-- Lines are taken up by a writer of pages, and its place is that of the last of them.
pub record TakesLines {S : Type 0} (held : S → Option (List ℕ)) (wiring : Wiring) (begun : Outgoing S) (lines : List PlacedLine)
    (writing : Writing S) : Type 0 where
  pub taken : TakesUp held (Open lines wiring.tape.lines) begun writing.out
  pub form : writing.form_lines ≡ wiring.tape.lines
  pub page : writing.page ≡ page_after 1 lines
  pub line : writing.line ≡ line_after 0 lines

-- Before these cards of a deck: the lines so far, and whatever those of these cards are, make up the machine's run over the deck.
pub record Stands {S : Type 0} (held : S → Option (List ℕ)) (wiring : Wiring) (deck rest : List (List ℕ)) (begun : Outgoing S)
    (machine : Running) (writing : Writing S) : Type 0 where
  pub lines : List PlacedLine
  pub goes_on : (others : List PlacedLine) → LinesFrom wiring machine.machine rest others → MachineLines wiring deck (lines ++ others)
  pub net : IsNetOf wiring machine.net
  pub taken : TakesLines held wiring begun lines writing

-- Before the rest of a deck's text: the lines so far, and whatever those of the cards of this rest are, make up the run over the deck.
pub record StandsInText {S : Type 0} (held : S → Option (List ℕ)) (wiring : Wiring) (text rest : List ℕ) (begun : Outgoing S)
    (machine : Running) (writing : Writing S) : Type 0 where
  pub cards : List (List ℕ)
  pub punched : Deck text cards
  pub left : List (List ℕ)
  pub left_punched : Deck rest left
  pub stands : Stands held wiring cards left begun machine writing

-- after the end of a deck: the lines of the machine's run over it
pub record Ends {S : Type 0} (held : S → Option (List ℕ)) (wiring : Wiring) (deck : List (List ℕ)) (begun : Outgoing S)
    (writing : Writing S) : Type 0 where
  pub lines : List PlacedLine
  pub run : MachineLines wiring deck lines
  pub taken : TakesLines held wiring begun lines writing

-- where a replay stops: the first lines of the machine's run are taken up, or the first of their bytes before the sink failed
pub data Stops {S : Type 0} (held : S → Option (List ℕ)) (has_failed : S → Bool) (wiring : Wiring) (deck : List (List ℕ))
    (begun : Outgoing S) (writing : Writing S) : ReplayCause → Type 0 where
  refused : (lines others : List PlacedLine) → MachineLines wiring deck (lines ++ others)
      → TakesUp held (Open lines wiring.tape.lines) begun writing.out
      → Stops held has_failed wiring deck begun writing cause.Memory
  broken : (lines others : List PlacedLine) → MachineLines wiring deck (lines ++ others)
      → Breaks held has_failed (Open lines wiring.tape.lines) begun writing.out
      → Stops held has_failed wiring deck begun writing cause.Write
