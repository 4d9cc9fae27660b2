-- Why the command doesn't end well on a planning chart, a wiring chart and a deck. The deck is known where its reader tells its bytes
-- beforehand.
use Rattle.std.specs.Prelude.{◌≡◌, ℕ, List, Option, IfSome}
use Rattle.fault_lines.specs.declared.faults.fault.Fault.{Fault}
use Rattle.fault_lines.specs.declared.faults.fault.Fault.TheVariants as fault
use Rattle.cli_matching.specs.Apart.{IsAlikeText, IsOtherwiseText}
use Rattle.cli_matching.specs.Found.{IsWiredText, Prints}
use Rattle.cli_matching.specs.Panels.{HasPanels, RefusesAll}
use Rattle.cli_matching.specs.Unmatched.{unmatched_status}
use Rattle.cli_matching.specs.declared.unmatched.Unmatched.{Unmatched}
use Rattle.cli_matching.specs.declared.unmatched.Unmatched.TheVariants as why
use Rattle.cli_matching.specs.declared.match_decks.lines.LinePlace.{LinePlace}
use Rattle.cli_matching.specs.declared.match_texts.counts.Counts.{Counts}
use Rattle.cli_matching.specs.declared.outcome.Outcome.{Outcome}
use Rattle.cli_matching.specs.declared.outcome.Outcome.TheVariants as outcome
use Rattle.fault_lines.specs.ProgramIo.Fronts.{WritesFront}

-- the text of what is found over a deck was written after what was there
abbrev pub PrintsOver : (chart wiring deck : List ℕ) → Outcome → (old new : Option (List ℕ)) → Type 0
PrintsOver chart wiring deck outcome.Wired = Prints chart wiring (λ _. IsWiredText)
PrintsOver chart wiring deck (outcome.Unwired counts) = Prints chart wiring (IsAlikeText wiring deck counts)
PrintsOver chart wiring deck (outcome.PrintsOtherwise place) = Prints chart wiring (IsOtherwiseText wiring deck place)

-- the front of it was, of the deck that was read
pub record WritesFrontOver (chart wiring : List ℕ) (deck old new : Option (List ℕ)) : Type 0 where
  pub read : List ℕ
  pub is_deck : IfSome deck (λ known. read ≡ known)
  pub found : Outcome
  pub front : WritesFront (PrintsOver chart wiring read found) old new

-- What is told of texts that don't match: the panel is not wired for the chart, and what is missing and extra was printed, and how the
-- first line of the deck that it prints otherwise differs, if one does; or a text is refused, and nothing was printed.
pub data LeavesApart (chart wiring deck : List ℕ) (told : Unmatched) (old new : Option (List ℕ)) (Unprinted : Type 0) : Type 0 where
  alike : (counts : Counts) → told ≡ why.Unwired counts → Prints chart wiring (IsAlikeText wiring deck counts) old new
      → LeavesApart chart wiring deck told old new Unprinted
  otherwise : (place : LinePlace) → told ≡ why.PrintsOtherwise place → Prints chart wiring (IsOtherwiseText wiring deck place) old new
      → LeavesApart chart wiring deck told old new Unprinted
  refused : (fault : Fault) → told ≡ why.Failed fault → RefusesAll chart wiring deck fault → Unprinted
      → LeavesApart chart wiring deck told old new Unprinted

-- it is told with the deck that was read
pub record LeavesOver (chart wiring : List ℕ) (deck : Option (List ℕ)) (told : Unmatched) (old new : Option (List ℕ)) (Unprinted : Type 0)
    : Type 0 where
  pub read : List ℕ
  pub is_deck : IfSome deck (λ known. read ≡ known)
  pub leaves : LeavesApart chart wiring read told old new Unprinted

-- Why the command does not end well: that; or the deck can't be read, and nothing was printed; or the output can't be written, or memory ran
-- out.
pub data StopsOver (chart wiring : List ℕ) (deck : Option (List ℕ)) (told : Unmatched) (unreadable : Fault) (old new : Option (List ℕ))
    (Unprinted : Type 0) : Type 0 where
  unmatched : unmatched_status told ≡ 3 → LeavesOver chart wiring deck told old new Unprinted
      → StopsOver chart wiring deck told unreadable old new Unprinted
  unread : told ≡ why.Failed unreadable → HasPanels chart wiring → Unprinted
      → StopsOver chart wiring deck told unreadable old new Unprinted
  unwritten : told ≡ why.Failed fault.Write → StopsOver chart wiring deck told unreadable old new Unprinted
  memory_wanting : told ≡ why.Failed fault.Memory → StopsOver chart wiring deck told unreadable old new Unprinted
