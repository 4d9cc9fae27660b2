-- A line that the machine prints stands on the pages of the text and the deck that give its run.
use Rattle.std.proofs.Common.{sym, subst, refl, ◌≡◌, ℕ, Bool, List}
use Rattle.cli_commands.specs.CommandsWords.Answers.{Answers}
use Rattle.compile407.specs.Headline.{WiredSetupsPrintReports}
use Rattle.explain_wheels.specs.ExplanationsWords.PlacedInRun.{PlacedLinesArePrinted, PrintsLine}
use Rattle.page_text.specs.Pages.{Pages}
use Rattle.page_text.specs.declared.placed_lines.placed_line.PlacedLine.{PlacedLine}
use Rattle.report_definition.specs.Report.{Report}
use Rattle.hubs.specs.SetupsWords.Wiring.{Wiring}
use Rattle.cli_commands.specs.PanelGuides.Laws.{ExplainedLinesAreOnPages, IsOnPages, printing}
use Rattle.cli_commands.specs.PanelGuides.Panels.{IsRunOf, replayed, reported}

of_run : (reports : WiredSetupsPrintReports) (text deck : List ℕ) (cards : List (List ℕ)) {wiring : Wiring}
    → IsRunOf text deck cards wiring → (line : PlacedLine) → PrintsLine wiring cards line → IsOnPages text deck wiring cards line
of_run reports text deck cards (replayed is_wiring wiring reads punched) line printed = record {
  pages = Pages printed.lines wiring.tape.lines;
  answered = subst (λ (of : Bool). Answers (printing of) text deck (Pages printed.lines wiring.tape.lines)) (sym is_wiring)
      (record {
        wiring = wiring;
        reads = reads;
        pages = record { cards = cards; punched = punched; lines = printed.lines; run = printed.run; printed = refl };
      });
  printed = printed;
  of_lines = refl;
}
of_run reports text deck cards (reported is_chart compiled compiles punched runnable) line printed = record {
  pages = Report compiled.chart cards;
  answered = subst (λ (of : Bool). Answers (printing of) text deck (Report compiled.chart cards)) (sym is_chart)
      (record {
        compiled = compiled;
        compiles = compiles;
        cards = cards;
        punched = punched;
        runnable = runnable;
        reported = refl;
      });
  printed = printed;
  of_lines = subst (λ (long : ℕ). Report compiled.chart cards ≡ Pages printed.lines long) (sym compiles.wired.wired.tape.form_lines)
      (sym ((reports compiled.chart compiled.plan compiled.setup compiles.wired.sound compiles.wired.serves compiles.wired.wired
      cards runnable.deck runnable.fits).1 printed.lines printed.run));
}

pub on_pages : WiredSetupsPrintReports → PlacedLinesArePrinted → ExplainedLinesAreOnPages
on_pages reports placed text deck place answer is =
    of_run reports text deck is.cards is.run.run is.told.line
    (placed is.wiring is.cards is.told.cards is.told.cycle is.told.line is.explains.right.run)
