-- What a sink holds where a replay ends and where it stops.
use Rattle.std.proofs.Common.{◌≡◌, ◌∙◌, sym, ap, subst, arith, List, ℕ, ◌+◌, Bool, true, [], ◌++◌, Option, Result, Ok, Err, OnOk, length, take, drop, append_assoc, length-append}
use Rattle.std.proofs.KnownBytes.{starts_with_rest}
use Rattle.std.proofs.Math.Seq.{take-append_seam}
use Rattle.std.proofs.lemmas.Bool.{false≢true}
use Rattle.std.specs.Io.KnownBytes.{Appends}
use Rattle.card_code.specs.Deck.{Deck}
use Rattle.machine.proofs.Order.{MachineLines-in_order}
use Rattle.machine.specs.Runs.{MachineLines}
use Rattle.page_text.specs.Pages.{Pages}
use Rattle.report_writer.proofs.Opens.{pages_begin, pages_end}
use Rattle.report_writer.proofs.WholePages.{writes}
use Rattle.report_writer.specs.Added.{last_end, line_after}
use Rattle.report_writer.specs.Open.{Open}
use Rattle.report_writer.specs.Outgoing.{Breaks, Outgoing, Takes, TakesUp, Writes}
use Rattle.report_writer.specs.Writing.{Writing}
use Rattle.report_writer.specs.declared.fault.WriteFault.{WriteFault}
use Rattle.page_text.specs.PlacedLines.InOrder.{IsInOrder}
use Rattle.page_text.specs.declared.placed_lines.placed_line.PlacedLine.{PlacedLine}
use Rattle.cli_commands.specs.CommandsWords.DeckReplays.HelperStanding.{Ends, IsUnbegun, Stops, broken, refused}
use Rattle.cli_commands.specs.CommandsWords.DeckReplays.Replays.{GainsFront, GainsPages}
use Rattle.cli_commands.specs.declared.commands.replays.fault.ReplayCause.{ReplayCause}
use Rattle.cli_commands.specs.declared.commands.replays.fault.ReplayCause.TheVariants as cause
use Rattle.hubs.specs.SetupsWords.Tapes.{IsCarriageTape}
use Rattle.hubs.specs.SetupsWords.Wiring.{Wiring}

module _ {S : Type 0} (held : S → Option (List ℕ)) (has_failed : S → Bool) (wiring : Wiring) (text : List ℕ) (cards : List (List ℕ)) (punched : Deck text cards)
    (form : IsCarriageTape wiring.tape) (begun : Writing S) (unbegun : IsUnbegun wiring begun) where
  -- the first bytes of what is written so far are the front of the pages
  front : (lines others : List PlacedLine) → MachineLines wiring cards (lines ++ others) → (sent tail : List ℕ)
      → Open lines wiring.tape.lines ≡ sent ++ tail → (last : Outgoing S) → Appends (held begun.out.sink) (held last.sink) sent
      → last.written ≡ begun.out.written + length sent
      → GainsFront wiring text last.written (held begun.out.sink) (held last.sink)
  front lines others run sent tail parts last taken counted =
      let all = Pages (lines ++ others) wiring.tape.lines in
      let order = MachineLines-in_order wiring cards (lines ++ others) form punched.few run in
      let rest = drop (length (Open lines wiring.tape.lines)) all in
      let whole : all ≡ sent ++ (tail ++ rest) =
      starts_with_rest all (Open lines wiring.tape.lines) (pages_begin wiring.tape.lines lines others order)
      ∙ ap (λ (t : List ℕ). t ++ rest) parts ∙ append_assoc sent tail rest in
      let count : last.written ≡ length sent = omega (arith, counted, unbegun.none_written) in
      let is_front : sent ≡ take last.written all =
      sym (take-append_seam sent (tail ++ rest)) ∙ ap (take (length sent)) (sym whole) ∙ ap (λ n. take n all) (sym count) in
      record {
        cards = cards;
        punched = punched;
        lines = lines ++ others;
        run = run;
        within = omega (arith, count, ap length whole, length-append sent (tail ++ rest));
        written = subst (Appends (held begun.out.sink) (held last.sink)) is_front taken;
      }

  -- what waits where nothing did at first
  from_none : (bytes : List ℕ) (sent left : List ℕ) → begun.out.waiting ++ bytes ≡ sent ++ left → bytes ≡ sent ++ left
  from_none bytes sent left parts = ap (λ (t : List ℕ). t ++ bytes) (sym unbegun.none_wait) ∙ parts

  pub stopped : (last : Writing S) {stopped : ReplayCause} → Stops held has_failed wiring cards begun.out last stopped
      → GainsFront wiring text last.out.written (held begun.out.sink) (held last.out.sink)
  stopped last (refused lines others run takes) =
      front lines others run takes.sent last.out.waiting (from_none _ takes.sent last.out.waiting takes.parts) last.out takes.sends.taken
      takes.sends.counted
  stopped last (broken lines others run breaks) =
      front lines others run breaks.sent breaks.lost (from_none _ breaks.sent breaks.lost breaks.parts) last.out breaks.sends.taken
      breaks.sends.counted

  pub failed : (last : Writing S) {stopped : ReplayCause} → Stops held has_failed wiring cards begun.out last stopped → stopped ≡ cause.Write
      → has_failed last.out.sink ≡ true
  failed last (refused lines others run takes) is = cc
  failed last (broken lines others run breaks) is = breaks.failed

  module _ (mid : Writing S) (run_ends : Ends held wiring cards begun.out mid) where
    order : IsInOrder wiring.tape.lines run_ends.lines
    order = MachineLines-in_order wiring cards run_ends.lines form punched.few run_ends.run

    -- the end of the last page, of the place of the last line
    end_is : last_end mid.form_lines mid.line ≡ last_end wiring.tape.lines (line_after 0 run_ends.lines)
    end_is = ap (λ f. last_end f mid.line) run_ends.taken.form ∙ ap (last_end wiring.tape.lines) run_ends.taken.line

    ended_pages : Pages run_ends.lines wiring.tape.lines ≡ Open run_ends.lines wiring.tape.lines ++ last_end mid.form_lines mid.line
    ended_pages = pages_end wiring.tape.lines run_ends.lines order
        ∙ ap (λ (t : List ℕ). Open run_ends.lines wiring.tape.lines ++ t) (sym end_is)

    -- no fault was told before the end
    well : mid.out.has_failed ≡ true → ⊥
    well is = false≢true (sym (run_ends.taken.taken.well ∙ unbegun.well) ∙ is)

    written : {U : Type 0} (last : Writing S) (result : Result U WriteFault)
        → Takes held has_failed (last_end mid.form_lines mid.line) result mid.out last.out → OnOk result (last.out.waiting ≡ [])
        → Writes (Open run_ends.lines wiring.tape.lines ++ last_end mid.form_lines mid.line) result (held begun.out.sink) (held last.out.sink)
        (has_failed last.out.sink)
    written last result takes all =
        let none : Unit {0} = tt in
        writes held has_failed begun.out unbegun.none_wait unbegun.none_written {T = Unit {0}} (Open run_ends.lines wiring.tape.lines)
        (last_end mid.form_lines mid.line) mid.out last.out (Ok none) result run_ends.taken.taken takes all (λ is. absurd (well is))

    pub ended_well : (last : Writing S) → TakesUp held (last_end mid.form_lines mid.line) mid.out last.out → last.out.waiting ≡ []
        → GainsPages wiring text (held begun.out.sink) (held last.out.sink)
    ended_well last takes all =
        let none : Unit {0} = tt in
        record {
          cards = cards;
          punched = punched;
          lines = run_ends.lines;
          run = run_ends.run;
          written = subst (Appends (held begun.out.sink) (held last.out.sink)) (sym ended_pages)
              (written {U = Unit {0}} last (Ok none) takes all);
        }

    pub ended_badly : (last : Writing S) (fault : WriteFault) → fault.written ≡ last.out.written
        → Breaks held has_failed (last_end mid.form_lines mid.line) mid.out last.out
        → GainsFront wiring text fault.written (held begun.out.sink) (held last.out.sink)
    ended_badly last fault told breaks =
        let none : Unit {0} = tt in
        let off = written {U = Unit {0}} last (Err fault) (told, breaks) none in
        record {
          cards = cards;
          punched = punched;
          lines = run_ends.lines;
          run = run_ends.run;
          within = omega (arith, off.within, ap length ended_pages);
          written = subst (λ (bytes : List ℕ). Appends (held begun.out.sink) (held last.out.sink) bytes)
              (ap (take fault.written) (sym ended_pages)) off.taken;
        }
