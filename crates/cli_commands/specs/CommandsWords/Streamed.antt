-- What a run of a chart over a deck that comes card by card has printed and what it tells. The deck is known where its reader tells its
-- bytes beforehand, and what is written where the writer tells what it holds.
use Rattle.std.specs.Prelude.{◌≡◌, ◌⊎◌, ℕ, List, Option, Some}
use Rattle.report_streams.specs.declared.card_lines.fault.ReadFault.{ReadFault}
use Rattle.report_streams.specs.declared.card_lines.fault.ReadFault.TheVariants as read
use Rattle.cli_commands.specs.CommandsWords.Answers.{CompilesAs, HasWiring}
use Rattle.cli_commands.specs.CommandsWords.Refusals.{RefusesChart}
use Rattle.cli_commands.specs.CommandsWords.CommandEnds.{IsDone, IsRefused}
use Rattle.fault_lines.specs.ProgramIo.Stops.{Stops}
use Rattle.fault_lines.specs.declared.program_io.command.Command.{Command}
use Rattle.fault_lines.specs.declared.program_io.command.Command.TheVariants as command
use Rattle.compile407.specs.Compilation.{Compilation}
use Rattle.fault_lines.specs.FaultsWords.ToldFaults.{deck_told, of_card, run_told}
use Rattle.fault_lines.specs.declared.faults.deck.RunFault.TheVariants as deck
use Rattle.fault_lines.specs.declared.faults.fault.Fault.{Fault}
use Rattle.fault_lines.specs.declared.faults.fault.Fault.TheVariants as fault
use Rattle.report_runs.specs.Runs.{StopsShort}
use Rattle.report_runs.specs.declared.fault.StreamCause.{StreamCause}
use Rattle.report_runs.specs.declared.fault.StreamCause.TheVariants as cause
use Rattle.report_runs.specs.declared.fault.StreamFault.{StreamFault}

-- what is told of a card that was not read: its line's fault, or that the reader failed at it
abbrev pub read_told : ReadFault → Fault
read_told (read.Deck fault) = deck_told fault
read_told (read.Read line) = fault.Unread line
read_told read.Failed = fault.Whole 5

-- This is told of what stopped a run. Of an output that can't be written that is told, or that memory was wanting for it.
abbrev pub IsToldOf : StreamCause → Fault → Type 0
IsToldOf (cause.Card unread) told = told ≡ read_told unread
IsToldOf (cause.Invalid invalid card) told = told ≡ run_told (of_card invalid card)
IsToldOf (cause.Misfit misfit) told = told ≡ run_told (deck.DoesNotFit misfit.level misfit.name misfit.card)
IsToldOf cause.Write told = (told ≡ fault.Memory) ⊎ (told ≡ fault.Write)
IsToldOf cause.Memory told = told ≡ fault.Memory

-- The text is a chart that compiles; the deck was run to its end: all bytes of the reader are the deck, and its report is printed.
pub record HasRunWhole (text : List ℕ) (deck old new : Option (List ℕ)) : Type 0 where
  pub compiled : Compilation
  pub compiles : CompilesAs text compiled
  pub whole : (known : List ℕ) → deck ≡ Some known → IsDone command.Run text deck old new

-- The text is a chart that compiles; the run stopped, with so much of the deck left to the reader, and this is told of its cause. As many bytes
-- were written after what was there as the run counts; they are the front of the report of the cards read so far, and where a card or a total
-- stopped it, exactly the lines before those of a card.
pub record StopsInRun (text : List ℕ) (deck left old new : Option (List ℕ)) (told : Fault) : Type 0 where
  pub compiled : Compilation
  pub compiles : CompilesAs text compiled
  pub fault : StreamFault
  pub named : IsToldOf fault.cause told
  pub stopped : StopsShort compiled.chart deck left old new fault

-- Why a run was not done: its chart is refused, or memory was wanting for it, and nothing was printed; or the run stopped.
pub data EndsRun (text : List ℕ) (deck left old new : Option (List ℕ)) (told : Fault) (Unprinted : Type 0) : Type 0 where
  chart_refused : RefusesChart text told → Unprinted → EndsRun text deck left old new told Unprinted
  chart_unread : told ≡ fault.Memory → Unprinted → EndsRun text deck left old new told Unprinted
  run_stopped : StopsInRun text deck left old new told → EndsRun text deck left old new told Unprinted

-- what a command has done where it ends well
abbrev pub HasServed : Command → List ℕ → (deck old new : Option (List ℕ)) → Type 0
HasServed command.Run text deck old new = HasRunWhole text deck old new
HasServed command.Check text deck old new = IsDone command.Check text deck old new
HasServed command.Wire text deck old new = IsDone command.Wire text deck old new
HasServed command.Replay text deck old new = IsDone command.Replay text deck old new
HasServed command.Upgrade text deck old new = IsDone command.Upgrade text deck old new

-- What a command has told and printed where it refuses its texts: nothing is printed, but by a run whose chart compiles.
abbrev pub HasRefused : Command → List ℕ → (deck old new : Option (List ℕ)) → Fault → (Unprinted : Type 0) → Type 0
HasRefused command.Run text deck old new told Unprinted =
    (RefusesChart text told × Unprinted) ⊎ ((left : Option (List ℕ)) × StopsInRun text deck left old new told)
HasRefused command.Check text deck old new told Unprinted = IsRefused command.Check text deck told × Unprinted
HasRefused command.Wire text deck old new told Unprinted = IsRefused command.Wire text deck told × Unprinted
HasRefused command.Replay text deck old new told Unprinted = IsRefused command.Replay text deck told × Unprinted
HasRefused command.Upgrade text deck old new told Unprinted = IsRefused command.Upgrade text deck told × Unprinted

-- Why a command was not carried out. The deck's own fault is told of a replay alone, and only where its wiring chart reads; of the commands
-- that read no deck the one device is the output.
abbrev pub HasFailed : Command → List ℕ → (deck old new : Option (List ℕ)) → (told unreadable : Fault) → (Unprinted : Type 0) → Type 0
HasFailed command.Run text deck old new told unreadable Unprinted =
    (left : Option (List ℕ)) × EndsRun text deck left old new told Unprinted
HasFailed command.Check text deck old new told unreadable Unprinted = Stops told fault.Write Unprinted
HasFailed command.Wire text deck old new told unreadable Unprinted = Stops told fault.Write Unprinted
HasFailed command.Replay text deck old new told unreadable Unprinted = Stops told unreadable Unprinted × (told ≡ unreadable → HasWiring text)
HasFailed command.Upgrade text deck old new told unreadable Unprinted = Stops told fault.Write Unprinted
