-- What a replay writes, by the texts of its setup and its deck.
use Rattle.std.proofs.Common.{◌⊎◌, inr, refl, List, ℕ, Option, Result, Ok, Err}
use Rattle.std.specs.Prelude.{OnErr, OnOk}
use Rattle.std.specs.Io.KnownBytes.{Appends}
use Rattle.card_code.specs.Deck.{Deck}
use Rattle.cli_commands.specs.CommandsWords.Answers.{AreReplayedPages}
use Rattle.cli_commands.specs.CommandsWords.CommandEnds.{PrintsReplay}
use Rattle.machine.specs.Runs.{MachineLines}
use Rattle.page_text.specs.Pages.{Pages}
use Rattle.page_text.specs.declared.placed_lines.placed_line.PlacedLine.{PlacedLine}
use Rattle.cli_commands.specs.CommandsWords.DeckReplays.Replays.{GainsFront, GainsPages}
use Rattle.fault_lines.proofs.ProgramIo.Fronting.{front_of_all, front_of_first}
use Rattle.fault_lines.specs.ProgramIo.Fronts.{WritesFront}
use Rattle.hubs.specs.SetupsWords.Wiring.{Wiring}
use Rattle.wiring_text.specs.WiringText.{ReadsAs}

module _ (text deck : List ℕ) (wiring : Wiring) (reads : ReadsAs text wiring) where
  replayed_pages : (cards : List (List ℕ)) → Deck deck cards → (lines : List PlacedLine) → MachineLines wiring cards lines
      → AreReplayedPages text deck (Pages lines wiring.tape.lines)
  replayed_pages cards punched lines run = record {
    wiring = wiring;
    reads = reads;
    pages = record { cards = cards; punched = punched; lines = lines; run = run; printed = refl };
  }

  prints : (cards : List (List ℕ)) → Deck deck cards → (lines : List PlacedLine) → MachineLines wiring cards lines
      → (old after : Option (List ℕ)) → Appends old after (Pages lines wiring.tape.lines) → PrintsReplay text deck old after
  prints cards punched lines run old after written = record {
    answer = Pages lines wiring.tape.lines;
    pages = replayed_pages cards punched lines run;
    written = written;
  }

  pub printed_whole : {X E : Type 0} (result : Result X E) (old new : Option (List ℕ)) → OnOk result (GainsPages wiring deck old new)
      → OnOk result (PrintsReplay text deck old new)
  printed_whole (Ok _) old new gains = prints gains.cards gains.punched gains.lines gains.run old new gains.written
  printed_whole (Err _) old new gains = tt

  pub printed_front : {X E : Type 0} (result : Result X E) (Nothing : Type 0) (old new : Option (List ℕ))
      → OnOk result (GainsPages wiring deck old new) → OnErr result ((count : ℕ) × GainsFront wiring deck count old new)
      → Nothing ⊎ WritesFront (PrintsReplay text deck) old new
  printed_front (Ok _) Nothing old new gains part =
      inr (front_of_all (Pages gains.lines wiring.tape.lines) (prints gains.cards gains.punched gains.lines gains.run old) gains.written)
  printed_front (Err _) Nothing old new gains part =
      let its = part.1 in
      inr (front_of_first (Pages its.lines wiring.tape.lines) (prints its.cards its.punched its.lines its.run old) part.0 its.written)
