-- Helper words: what one feed does to a writer of pages.
use Rattle.std.specs.Prelude.{◌≡◌, ℕ, Bool, List, Option}
use Rattle.machine.specs.Feeds.{Feeds}
use Rattle.machine.specs.Machine.{MachineState}
use Rattle.machine.specs.Running.{Running}
use Rattle.net.specs.Nets.{IsNetOf}
use Rattle.report_writer.specs.Added.{added_all, line_after, page_after}
use Rattle.report_writer.specs.Outgoing.{Breaks, TakesUp}
use Rattle.report_writer.specs.Writing.{Writing}
use Rattle.page_text.specs.PlacedLines.InOrder.{FollowInOrder}
use Rattle.page_text.specs.declared.placed_lines.placed_line.PlacedLine.{PlacedLine}
use Rattle.cli_commands.specs.declared.commands.replays.fault.ReplayCause.{ReplayCause}
use Rattle.cli_commands.specs.declared.commands.replays.fault.ReplayCause.TheVariants as cause
use Rattle.hubs.specs.SetupsWords.Wiring.{Wiring}

-- The lines of a feed come in order after the place of a writer of pages.
pub record ComeNext {S : Type 0} (machine : Running) (next : Option (List ℕ)) (writing : Writing S) : Type 0 where
  pub wiring : Wiring
  pub net : IsNetOf wiring machine.net
  pub order : (left : MachineState) (lines : List PlacedLine) → Feeds wiring machine.machine next left lines
      → FollowInOrder writing.form_lines writing.page writing.line lines

-- A machine was fed, and leaves these lines.
abbrev pub Places : Running → Option (List ℕ) → MachineState → List PlacedLine → Type 0
Places machine next left lines = (wiring : Wiring) → IsNetOf wiring machine.net → Feeds wiring machine.machine next left lines

-- They are taken up.
pub record TakesFeed {S : Type 0} (held : S → Option (List ℕ)) (machine : Running) (next : Option (List ℕ)) (left : Running)
    (old new : Writing S) : Type 0 where
  pub lines : List PlacedLine
  pub placed : Places machine next left.machine lines
  pub net : left.net ≡ machine.net
  pub taken : TakesUp held (added_all old.form_lines old.page old.line lines) old.out new.out
  pub page : new.page ≡ page_after old.page lines
  pub line : new.line ≡ line_after old.line lines
  pub form : new.form_lines ≡ old.form_lines

-- Memory was refused and nothing is taken up, or the sink has failed and the first of their bytes are written.
pub data StopsInFeed {S : Type 0} (held : S → Option (List ℕ)) (has_failed : S → Bool) (machine : Running) (next : Option (List ℕ))
    (old new : Writing S) : ReplayCause → Type 0 where
  refused : new ≡ old → StopsInFeed held has_failed machine next old new cause.Memory
  broken : (left : MachineState) (lines : List PlacedLine) → Places machine next left lines
      → Breaks held has_failed (added_all old.form_lines old.page old.line lines) old.out new.out
      → StopsInFeed held has_failed machine next old new cause.Write
