-- What is printed once a deck has run whole, and what is told if it hasn't, or if its report has no such page. The deck is known where its
-- reader tells its bytes beforehand, and what is written where the writer tells what it holds.
use Rattle.std.specs.Prelude.{◌≡◌, ◌⊎◌, ℕ, true, false, List, [], Option, Some}
use Rattle.std.specs.Io.KnownBytes.{Appends}
use Rattle.cli_commands.specs.CommandsWords.Answers.{ArePagesOf, CompilesAs}
use Rattle.cli_commands.specs.CommandsWords.Streamed.{EndsRun}
use Rattle.compile407.specs.Compilation.{Compilation}
use Rattle.fault_lines.specs.declared.faults.fault.Fault.{Fault}
use Rattle.fault_lines.specs.declared.faults.fault.Fault.TheVariants as fault
use Rattle.cli_commands.specs.declared.panel_guides.unexplained.Unexplained.{Unexplained}
use Rattle.cli_commands.specs.declared.panel_guides.unexplained.Unexplained.TheVariants as why
use Rattle.cli_calls.specs.WholeRuns.Pages.{chosen_pages, has_page}
use Rattle.cli_calls.specs.declared.whole_runs.pages.PageRange.{PageRange}

-- what is told of a page that a report doesn't have: it has no first line
abbrev pub no_page : (number : ℕ) → Unexplained
no_page number = why.NoSuchLine number 1

-- the text has the first page of a range, and its pages that are in the range were printed after what was there
pub record PrintsPages (text : List ℕ) (pages : PageRange) (old new : Option (List ℕ)) : Type 0 where
  pub there : has_page pages.first text ≡ true
  pub written : Appends old new (chosen_pages pages.first pages.last text)

-- The text is a chart that compiles; the deck was run to its end: all bytes of the reader are the deck, and this is so of its report.
pub record HasReport (text : List ℕ) (deck : Option (List ℕ)) (IsSo : List ℕ → Type 0) : Type 0 where
  pub compiled : Compilation
  pub compiles : CompilesAs text compiled
  pub whole : (known : List ℕ) → deck ≡ Some known → (report : List ℕ) × ArePagesOf text known report × IsSo report

-- of the report of the deck the pages in a range are printed
abbrev pub HasPrintedChosen : (text : List ℕ) (deck : Option (List ℕ)) → PageRange → (old new : Option (List ℕ)) → Type 0
HasPrintedChosen text deck pages old new = HasReport text deck (λ report. PrintsPages report pages old new)

-- the report of the deck has no page with this number
abbrev pub LacksPage : (text : List ℕ) (deck : Option (List ℕ)) (number : ℕ) → Type 0
LacksPage text deck number = HasReport text deck (λ report. has_page number report ≡ false)

-- why no pages in a range were printed, or not all: the text hasn't the first of them, and nothing was printed; or the output can't be
-- written, or memory ran out
pub data StopsPages (text : List ℕ) (pages : PageRange) (told : Unexplained) (Unprinted : Type 0) : Type 0 where
  lacking : has_page pages.first text ≡ false → told ≡ no_page pages.first → Unprinted → StopsPages text pages told Unprinted
  unwritten : (told ≡ why.Failed fault.Memory) ⊎ (told ≡ why.Failed fault.Write) → StopsPages text pages told Unprinted

-- Why it was not done. The run was not, with so much of the deck left to the reader, for the cause that a run of the deck tells that holds the
-- pages in memory; or it was, and the report has no such page: nothing was printed. Or the output can't be written, or memory ran out.
pub data StopsWhole (text : List ℕ) (deck left : Option (List ℕ)) (pages : PageRange) (told : Unexplained) (Unprinted : Type 0) : Type 0 where
  run_stopped :
      (met : Fault) (held : List ℕ) → EndsRun text deck left (Some []) (Some held) met (held ≡ []) → told ≡ why.Failed met → Unprinted
      → StopsWhole text deck left pages told Unprinted
  no_such_page : LacksPage text deck pages.first → told ≡ no_page pages.first → Unprinted → StopsWhole text deck left pages told Unprinted
  output_unwritten :
      (told ≡ why.Failed fault.Memory) ⊎ (told ≡ why.Failed fault.Write) → StopsWhole text deck left pages told Unprinted
