-- What is read and written where a run has come to its end, and where it was stopped.
use Rattle.std.proofs.Common.{◌≡◌, ◌∙◌, refl, sym, ap, subst, inl, inr, ℕ, Bool, true, false, List, [], ◌++◌, Option, Some, append-nil}
use Rattle.std.proofs.Math.Seq.{take-append_seam, take-length}
use Rattle.std.proofs.lemmas.Bool.{false≢true}
use Rattle.std.specs.Io.{StartsWith}
use Rattle.report_streams.specs.CardLines.Reading.{Reading}
use Rattle.report_streams.specs.declared.card_lines.fault.ReadFault.{ReadFault}
use Rattle.chart_lines.specs.ChartsWords.Chart.{Chart}
use Rattle.report_writer.specs.Added.{last_end}
use Rattle.report_writer.specs.Open.{Open}
use Rattle.report_writer.specs.Outgoing.{Breaks, Outgoing, TakesUp}
use Rattle.report_writer.specs.Writing.{Writing}
use Rattle.report_writer.proofs.Opens.{pages_end}
use Rattle.page_text.specs.declared.placed_lines.placed_line.PlacedLine.{PlacedLine}
use Rattle.report_definition.specs.ChartForm.{form_of}
use Rattle.report_definition.specs.Report.{Report}
use Rattle.report_runs.proofs.Standing.{run_in_order}
use Rattle.report_runs.proofs.Written.{all_written, begins_shorter, taken_broken, taken_more}
use Rattle.report_definition.specs.FollowedDecks.Stands.{report_before}
use Rattle.report_runs.specs.Causes.{HasCause, cards_written, stops_between_cards}
use Rattle.report_runs.specs.FirstCauses.{HaveFitSoFar, IsFirstCause}
use Rattle.report_runs.specs.HelperStanding.{Ends, HasTaken, PutsOut, Serves, StandBeforeLast, Start, Stops, broken, whole}
use Rattle.report_runs.specs.Reading.{HasReadUpTo}
use Rattle.report_runs.specs.Runs.{IsWithinLast, RunsToEnd, StopsShort, at_the_end, before_last}
use Rattle.report_runs.specs.declared.fault.StreamCause.{StreamCause}
use Rattle.report_runs.specs.declared.fault.StreamCause.TheVariants as cause
use Rattle.report_runs.specs.declared.fault.StreamFault.{StreamFault}

-- bytes begin with the first of them
front_of : {bytes written : List ℕ} (tail : List ℕ) → bytes ≡ written ++ tail → StartsWith bytes written
front_of {bytes} {written} tail parts = subst (λ b. StartsWith b written) (sym parts) (take-append_seam written tail)

-- where a sink could not be written, that is all that is told
told_of_writing : (chart : Chart) (text : List ℕ) (cards : List (List ℕ)) (told : StreamCause) → told ≡ cause.Write → HasCause chart text cards told
told_of_writing chart text cards told is = subst (HasCause chart text cards) (sym is) tt

-- and it is the first cause
first_of_writing : (chart : Chart) (text : List ℕ) (cards : List (List ℕ)) (told : StreamCause) → told ≡ cause.Write
    → HaveFitSoFar chart.lines cards → IsFirstCause chart text cards told
first_of_writing chart text cards told is fit = subst (IsFirstCause chart text cards) (sym is) fit

not_between : (told : StreamCause) → told ≡ cause.Write → stops_between_cards told ≡ true → ⊥
not_between told is between = false≢true (sym (ap stops_between_cards is) ∙ between)

module _ {S W : Type 0} {left : S → Option (List ℕ)} {held : W → Option (List ℕ)} {has_failed : W → Bool} {chart : Chart} {start : Start}
    {reading : Reading S} {count : ℕ} {writing : Writing W} (serves : Serves chart start.wiring)
    (ends : Ends left held has_failed chart start reading count writing) where
  abbrev last : List ℕ
  last = last_end writing.form_lines writing.line

  all_bytes : Open ends.lines writing.form_lines ++ last ≡ Report chart ends.cards
  all_bytes =
      let form = (form_of chart.lines).lines in
      ap (λ f. Open ends.lines f ++ last_end f writing.line) (ends.form ∙ serves.form)
      ∙ ap (λ l. Open ends.lines form ++ last_end form l) ends.written.line
      ∙ sym (pages_end form ends.lines (run_in_order chart start.wiring serves ends.cards ends.lines ends.valid ends.printed))
      ∙ (serves.prints ends.cards ends.valid ends.fit).1 ends.lines ends.printed

  -- all was written
  pub has_run : (new : Outgoing W) → TakesUp held last writing.out new → new.waiting ≡ []
      → RunsToEnd chart start.text (left reading.source) start.held (held new.sink) count
  has_run new takes none =
      let bytes = Open ends.lines writing.form_lines in
      let taken = taken_more bytes last writing.out new ends.written.bytes ends.written.well takes in
      let sent : bytes ++ last ≡ taken.sent = all_written (bytes ++ last) new taken (takes.well ∙ ends.written.well) none in
      record {
        all = ends.all;
        run = λ text known. (
          taken.sent,
          record {
            cards = ends.cards;
            deck = ends.read text known;
            counted = sym ends.counted;
            valid = ends.valid;
            fit = ends.fit;
            report = sym sent ∙ all_bytes;
          },
          taken.taken,
        );
      }

  -- the sink failed at the end of the last page
  pub stopped_at_end : (fault : StreamFault) (new : Outgoing W) → Breaks held has_failed last writing.out new → fault.cause ≡ cause.Write
      → fault.written ≡ new.written → StopsShort chart start.text (left reading.source) start.held (held new.sink) fault
  stopped_at_end fault new breaks is count_is =
      let bytes = Open ends.lines writing.form_lines in
      let taken = taken_broken bytes last writing.out new ends.written.bytes ends.written.well breaks in
      let report : Report chart ends.cards ≡ taken.sent ++ taken.left = sym all_bytes ∙ taken.parts in
      record {
        written = taken.sent;
        gained = taken.taken;
        counted = taken.counted ∙ sym count_is;
        stopped = λ text known. record {
          cards = ends.cards;
          is_read = subst (λ met. HasReadUpTo text ends.cards met (left reading.source)) (sym is) (ends.up_to text known);
          valid = ends.valid;
          has_cause = told_of_writing chart text ends.cards fault.cause is;
          is_first = first_of_writing chart text ends.cards fault.cause is ends.so_far;
          begins = begins_shorter (Report chart ends.cards) taken.sent taken.left
              (subst (StartsWith (Report chart ends.cards)) report (take-length (Report chart ends.cards)));
          stands = λ between. absurd (not_between fault.cause is between);
          cut_off = λ _. at_the_end is (ends.read text known) ends.fit;
        };
      }

-- lines that stand before those of the last card, or at the end of the deck, are cut off there
cut_off_there : (chart : Chart) (start : Start) (cards : List (List ℕ)) (lines : List PlacedLine) (told : StreamCause) (written tail : List ℕ)
    → StandBeforeLast chart start cards lines → Open lines (form_of chart.lines).lines ≡ written ++ tail → told ≡ cause.Write
    → (text : List ℕ) → start.text ≡ Some text → IsWithinLast chart text cards told written
cut_off_there chart start cards lines told written tail (inl same) parts is text known =
    before_last (front_of tail (ap (λ l. Open l (form_of chart.lines).lines) (sym same) ∙ parts))
cut_off_there chart start cards lines told written tail (inr ended) parts is text known = at_the_end is (ended.0 text known) ended.1

-- the causes at which a run may stop between no cards
of_memory : {X : Type 0} (stopped : StreamCause) → stops_between_cards stopped ≡ false → (stopped ≡ cause.Write → ⊥) → (stopped ≡ cause.Memory → X) → X
of_memory (cause.Card fault) between not_write found = absurd (false≢true (sym between))
of_memory (cause.Invalid fault number) between not_write found = absurd (false≢true (sym between))
of_memory (cause.Misfit misfit) between not_write found = absurd (false≢true (sym between))
of_memory cause.Write between not_write found = absurd (not_write refl)
of_memory cause.Memory between not_write found = found refl

module _ {W : Type 0} {held : W → Option (List ℕ)} {has_failed : W → Bool} {chart : Chart} {start : Start} {stopped : StreamCause}
    {left : Option (List ℕ)} {writing : Writing W} (stops : Stops held has_failed chart start stopped left writing) (fault : StreamFault)
    (new : Outgoing W) (counted : fault.written ≡ new.written) where
  -- what is known where the sink has failed
  broken_off : (rest : List ℕ) → HasTaken held has_failed start.held (Open stops.lines (form_of chart.lines).lines ++ rest) new → rest ≡ []
      → fault.cause ≡ cause.Write → StopsShort chart start.text left start.held (held new.sink) fault
  broken_off rest taken none is =
      let all = Open stops.lines (form_of chart.lines).lines in
      let begun = stops.begun in
      let parts : all ≡ taken.sent ++ taken.left = sym (append-nil all) ∙ ap (λ t. all ++ t) (sym none) ∙ taken.parts in
      record {
        written = taken.sent;
        gained = taken.taken;
        counted = taken.counted ∙ sym counted;
        stopped = λ text known. record {
          cards = begun.cards;
          is_read = subst (λ met. HasReadUpTo text begun.cards met left) (sym is) (begun.read text known);
          valid = begun.valid;
          has_cause = told_of_writing chart text begun.cards fault.cause is;
          is_first = first_of_writing chart text begun.cards fault.cause is begun.so_far;
          begins = begins_shorter (Report chart begun.cards) taken.sent taken.left
              (subst (StartsWith (Report chart begun.cards)) parts begun.begins);
          stands = λ between. absurd (not_between fault.cause is between);
          cut_off = λ _. cut_off_there chart start begun.cards stops.lines fault.cause taken.sent taken.left begun.before_last parts is text known;
        };
      }

  -- what waited is written, or the sink has failed
  pub has_stopped : PutsOut held has_failed stopped fault writing.out new → (writing.out.has_failed ≡ true → new ≡ writing.out)
      → StopsShort chart start.text left start.held (held new.sink) fault
  has_stopped (whole is takes none well) again =
      let all = Open stops.lines (form_of chart.lines).lines in
      let before : writing.out.has_failed ≡ false = sym takes.well ∙ well in
      let taken = taken_more all [] writing.out new stops.written before takes in
      let sent : all ≡ taken.sent = sym (append-nil all) ∙ all_written (all ++ []) new taken well none in
      record {
        written = taken.sent;
        gained = taken.taken;
        counted = taken.counted ∙ sym counted;
        stopped = λ text known.
            let read = stops.read text known in
            record {
              cards = stops.cards;
              is_read = subst (λ met. HasReadUpTo text stops.cards met left) (sym is) read.0;
              valid = stops.valid;
              has_cause = subst (HasCause chart text stops.cards) (sym is) read.1;
              is_first = subst (IsFirstCause chart text stops.cards) (sym is) (stops.first text known);
              begins = subst (StartsWith (Report chart stops.cards)) sent stops.begins;
              stands = λ between.
                  let stand = stops.stands (sym (ap stops_between_cards is) ∙ between) in
                  sym sent ∙ ap (λ l. Open l (form_of chart.lines).lines) (stand ∙ ap (λ c. report_before chart stops.cards (cards_written stops.cards c)) (sym is));
              cut_off = λ between.
                  of_memory stopped (sym (ap stops_between_cards is) ∙ between) (λ same. false≢true (sym before ∙ stops.broken same))
                  (λ same. before_last (front_of [] (ap (λ l. Open l (form_of chart.lines).lines) (sym (stops.refused same)) ∙ sent ∙ sym (append-nil taken.sent))));
            };
      }
  has_stopped (broken is breaks) again = by writing.out.has_failed refl
    where
      by : (failed : Bool) → writing.out.has_failed ≡ failed → StopsShort chart start.text left start.held (held new.sink) fault
      by true failed =
          broken_off []
          (subst (HasTaken held has_failed start.held (Open stops.lines (form_of chart.lines).lines ++ [])) (sym (again failed))
          (subst (λ b. HasTaken held has_failed start.held b writing.out) (sym (append-nil (Open stops.lines (form_of chart.lines).lines))) stops.written))
          refl is
      by false failed =
          broken_off []
          (taken_broken (Open stops.lines (form_of chart.lines).lines) [] writing.out new stops.written failed breaks)
          refl is

  -- a failed write is told only where the sink has failed
  pub failed_of_writing : PutsOut held has_failed stopped fault writing.out new → fault.cause ≡ cause.Write → has_failed new.sink ≡ true
  failed_of_writing (whole is takes none well) told =
      absurd (false≢true (sym (sym takes.well ∙ well) ∙ stops.broken (sym is ∙ told)))
  failed_of_writing (broken is breaks) told = breaks.failed

-- a failed read is told only where the run was stopped for it
pub stopped_for : {W : Type 0} {held : W → Option (List ℕ)} {has_failed : W → Bool} {stopped : StreamCause} {fault : StreamFault}
    {old new : Outgoing W} (read : ReadFault) → PutsOut held has_failed stopped fault old new → fault.cause ≡ cause.Card read
    → stopped ≡ cause.Card read
stopped_for read (whole is takes none well) told = sym is ∙ told
stopped_for read (broken is breaks) told = let e = sym is ∙ told in cc
