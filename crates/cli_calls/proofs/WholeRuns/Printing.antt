-- What is printed of a report that was held, and what is told if there is none, or no such page.
use Rattle.std.proofs.Common.{◌≡◌, ◌∙◌, ◌⊎◌, ◌≤◌, inl, inr, ap, subst, arith, ℕ, Bool, true, false, List, [], Option, Some, Result, Ok, Err, IfSome}
use Rattle.std.specs.Prelude.{IfErr, OnOk}
use Rattle.std.specs.Io.KnownBytes.{Appends}
use Rattle.cli_commands.specs.CommandsWords.Answers.{ArePagesOf}
use Rattle.cli_commands.specs.CommandsWords.Streamed.{EndsRun, HasRunWhole, chart_refused, chart_unread, run_stopped as stopped_in_run}
use Rattle.fault_lines.specs.FaultsWords.Lines.{IsTold}
use Rattle.fault_lines.specs.declared.faults.fault.Fault.{Fault}
use Rattle.fault_lines.specs.declared.faults.fault.Fault.TheVariants as fault
use Rattle.cli_commands.proofs.CommandsWords.RunEnds.{run_ends_status, run_memory}
use Rattle.fault_lines.proofs.ProgramIo.Fronting.{none_or_front_again}
use Rattle.fault_lines.specs.ProgramIo.Fronts.{WritesFront}
use Rattle.cli_commands.specs.PanelGuides.Unexplained.{IsToldUnexplained, unexplained_status}
use Rattle.cli_commands.specs.declared.panel_guides.unexplained.Unexplained.{Unexplained}
use Rattle.cli_commands.specs.declared.panel_guides.unexplained.Unexplained.TheVariants as why
use Rattle.cli_calls.specs.WholeRuns.Pages.{chosen_pages, has_page}
use Rattle.cli_calls.specs.WholeRuns.Whole.{HasPrintedChosen, HasReport, PrintsPages, StopsPages, StopsWhole, lacking, no_such_page, output_unwritten, run_stopped, unwritten}
use Rattle.cli_calls.specs.declared.whole_runs.pages.PageRange.{PageRange}

-- a run that was told of one thing that stays is told of another
pub ends_again : {Unprinted Again : Type 0} (text : List ℕ) (reader left old new : Option (List ℕ)) (told : Fault) → (Unprinted → Again)
    → EndsRun text reader left old new told Unprinted → EndsRun text reader left old new told Again
ends_again text reader left old new told again (chart_refused refuses is) = chart_refused refuses (again is)
ends_again text reader left old new told again (chart_unread memory is) = chart_unread memory (again is)
ends_again text reader left old new told again (stopped_in_run stops) = stopped_in_run stops

same_known : (reader : Option (List ℕ)) (read known : List ℕ) → reader ≡ Some known → IfSome reader (λ all. read ≡ all) → read ≡ known
same_known reader read known is all = subst (λ (of : Option (List ℕ)). IfSome of (λ bytes. read ≡ bytes)) is all

-- what is so of the bytes that were held is so of the report
of_report : (text items bytes : List ℕ) (reader : Option (List ℕ)) (IsSo : List ℕ → Type 0)
    → HasRunWhole text reader (Some []) (Some items) → bytes ≡ items → IsSo bytes → HasReport text reader IsSo
of_report text items bytes reader IsSo run same is_so = record {
  compiled = run.compiled;
  compiles = run.compiles;
  whole = λ known is.
      let done = run.whole known is in (
        done.answer,
        subst (λ (deck : List ℕ). ArePagesOf text deck done.answer) (same_known reader done.read known is done.is_deck) done.answers,
        subst IsSo (same ∙ done.written) is_so,
      );
}

module _ {X : Type 0} (result : Result X Unexplained) (text items bytes : List ℕ) (reader : Option (List ℕ)) (pages : PageRange)
    (run : HasRunWhole text reader (Some []) (Some items)) (same : bytes ≡ items) where
  -- the chosen pages of the report that was held are printed
  pub printed : (old new : Option (List ℕ)) → OnOk result (PrintsPages bytes pages old new)
      → OnOk result (HasPrintedChosen text reader pages old new)
  printed old new = by result
    where
      by : (any : Result X Unexplained) → OnOk any (PrintsPages bytes pages old new)
          → OnOk any (HasPrintedChosen text reader pages old new)
      by (Ok _) prints = of_report text items bytes reader (λ report. PrintsPages report pages old new) run same prints
      by (Err _) prints = tt

  -- or the front of them
  pub chosen_front : {Nothing : Type 0} (old new : Option (List ℕ)) → Nothing ⊎ WritesFront (PrintsPages bytes pages) old new
      → Nothing ⊎ WritesFront (HasPrintedChosen text reader pages) old new
  chosen_front old new =
      none_or_front_again (λ after. of_report text items bytes reader (λ report. PrintsPages report pages old after) run same)

  -- it lacks the first of them, or the output can't be written
  pub pages_stop : (left : Option (List ℕ)) (Unprinted : Type 0) → IfErr result (λ told. StopsPages bytes pages told Unprinted)
      → IfErr result (λ told. StopsWhole text reader left pages told Unprinted)
  pages_stop left Unprinted = by result
    where
      of : (told : Unexplained) → StopsPages bytes pages told Unprinted → StopsWhole text reader left pages told Unprinted
      of told (lacking lacks named unprinted) = no_such_page
          (of_report text items bytes reader (λ report. has_page pages.first report ≡ false) run same lacks) named unprinted
      of told (unwritten is) = output_unwritten is

      by : (any : Result X Unexplained) → IfErr any (λ told. StopsPages bytes pages told Unprinted)
          → IfErr any (λ told. StopsWhole text reader left pages told Unprinted)
      by (Ok _) stops = tt
      by (Err told) stops = of told stops

-- the bytes of the chosen pages are written
pub pages_written : (text bytes : List ℕ) (pages : PageRange) (old new : Option (List ℕ)) → has_page pages.first text ≡ true
    → bytes ≡ chosen_pages pages.first pages.last text → Appends old new bytes → PrintsPages text pages old new
pages_written text bytes pages old new there is written = record { there = there; written = subst (Appends old new) is written }

-- the output can't be written
pub pages_unwritten : (text : List ℕ) (pages : PageRange) (met : Fault) (told : Unexplained) (Unprinted : Type 0)
    → (met ≡ fault.Memory) ⊎ (met ≡ fault.Write) → told ≡ why.Failed met → StopsPages text pages told Unprinted
pages_unwritten text pages met told Unprinted (inl is) named = unwritten (inl (named ∙ ap why.Failed is))
pages_unwritten text pages met told Unprinted (inr is) named = unwritten (inr (named ∙ ap why.Failed is))

-- by refused input nothing is printed
pub whole_unprinted : (text : List ℕ) (reader left : Option (List ℕ)) (pages : PageRange) (told : Unexplained) (Unprinted : Type 0)
    → StopsWhole text reader left pages told Unprinted → unexplained_status told ≡ 3 → Unprinted
whole_unprinted text reader left pages told Unprinted (run_stopped met held ends named is) three = is
whole_unprinted text reader left pages told Unprinted (no_such_page lacks named is) three = is
whole_unprinted text reader left pages told Unprinted (output_unwritten (inl is)) three =
    absurd (omega (arith, ap unexplained_status is, three))
whole_unprinted text reader left pages told Unprinted (output_unwritten (inr is)) three =
    absurd (omega (arith, ap unexplained_status is, three))

-- which line is told by the status of what stopped it
module _ (text : List ℕ) (reader left : Option (List ℕ)) (pages : PageRange) (told : Unexplained) (Unprinted : Type 0) (status : ℕ) (is_told : Bool)
    (before after : Option (List ℕ)) (is_status : status ≡ unexplained_status told) (line : IsToldUnexplained told is_told before after) where
  -- the line of a fault that is told
  line_of : (met : Fault) → told ≡ why.Failed met → IsTold met is_told before after
  line_of met is = subst (λ (of : Unexplained). IsToldUnexplained of is_told before after) is line

  pub whole_memory : StopsWhole text reader left pages told Unprinted → status ≡ 5 → IsTold fault.Memory is_told before after
  whole_memory (run_stopped met held ends named is) five =
      run_memory met status is_told before after (is_status ∙ ap unexplained_status named)
      (line_of met named) ends five
  whole_memory (no_such_page lacks named is) five = absurd (omega (arith, is_status, ap unexplained_status named, five))
  whole_memory (output_unwritten (inl is)) five = line_of fault.Memory is
  whole_memory (output_unwritten (inr is)) five = absurd (omega (arith, is_status, ap unexplained_status is, five))

  pub whole_status : StopsWhole text reader left pages told Unprinted → 3 ≤ status × status ≤ 5
  whole_status (run_stopped met held ends named is) =
      run_ends_status met status is_told before after (is_status ∙ ap unexplained_status named)
      (line_of met named) ends
  whole_status (no_such_page lacks named is) =
      (omega (arith, is_status, ap unexplained_status named), omega (arith, is_status, ap unexplained_status named))
  whole_status (output_unwritten (inl is)) =
      (omega (arith, is_status, ap unexplained_status is), omega (arith, is_status, ap unexplained_status is))
  whole_status (output_unwritten (inr is)) =
      (omega (arith, is_status, ap unexplained_status is), omega (arith, is_status, ap unexplained_status is))
