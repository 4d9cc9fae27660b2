-- The pages that the machine prints, wired for a chart, are the chart's report of the deck.
use Rattle.std.proofs.Common.{◌≡◌, ◌∙◌, ℕ, ◌≤◌, List, ◌∷◌, length, ap, subst, sym}
use Rattle.std.specs.List.{All}
use Rattle.card_code.specs.MostCards.{most_cards}
use Rattle.chart_plans.specs.PlansWords.Plans.{Lists, ServesChart}
use Rattle.page_text.specs.declared.placed_lines.placed_line.PlacedLine.{PlacedLine}
use Rattle.chart_rules.specs.Rules.{IsLawful}
use Rattle.chart_rules.specs.ValidCard.{IsValidCard}
use Rattle.proof_reports.proofs.PrintedReports.Begun.{machines_begin_reports}
use Rattle.proof_reports.proofs.PrintedReports.Reports.{machine_prints_reports}
use Rattle.chart_text.specs.Below.chart_lines.ChartsWords.Chart.{Chart, NumbersRise}
use Rattle.chart_text.specs.ChartText.{Reads}
use Rattle.chart_text.specs.Below.chart_lines.declared.charts.chart.Line.{Line}
use Rattle.chart_text.proofs.ReadLiterals.{read_literals}
use Rattle.hubs.specs.SetupsWords.Wiring.{Wiring}
use Rattle.machine.proofs.SameSetups.{MachineLines-same}
use Rattle.machine.proofs.SomeOutcome.{FedLines-some, MachineLines-some}
use Rattle.machine.specs.Machine.{machine_at_start}
use Rattle.machine.specs.Runs.{MachineLines}
use Rattle.page_text.specs.Pages.{Pages}
use Rattle.report_misfits.specs.Below.report_definition.ChartForm.{form_of}
use Rattle.report_misfits.specs.Below.report_definition.Report.{report_lines}
use Rattle.report_misfits.specs.Below.report_definition.Totals.{Fits}
use Rattle.wiring_text.proofs.WiringReader.Answered.{one_setup}
use Rattle.wiring_text.specs.WiringText.{IsSameSetup, ReadsAs}
use Rattle.proof_reports.specs.Below.wiring_table.WiredFor.{WiredFor}
use Rattle.compile407.specs.Compilation.{Compilation, IsCompiled}
use Rattle.report_runs.specs.PrintPromises.Promises.{IsDeck}
use Rattle.compile407.specs.Headline.{IsSound, ReadSetupsPrintAlike, WiredSetupsBeginReports, WiredSetupsPrintReports}
use Rattle.compile407.specs.Headline.{WrittenSetupsBeginReports, WrittenSetupsPrintReports}

-- a chart that was read and breaks no rule is sound
pub sound_read : (bytes : List ℕ) (raw chart : Chart) → Reads bytes raw → chart ≡ raw → IsLawful chart →
    NumbersRise chart.lines chart.end → IsSound chart
sound_read bytes raw chart reads same lawful rising =
    record { lawful = lawful; rising = rising; literals = read_literals bytes chart (subst (Reads bytes) (sym same) reads) }

-- a setup wired for a sound chart places the lines of its reports
placed_lines : (chart : Chart) (plan : Lists) (wiring : Wiring) (cards : List (List ℕ)) (lines : List PlacedLine) →
    IsSound chart → ServesChart chart.lines plan → WiredFor chart.lines plan wiring → IsDeck chart cards → Fits chart.lines cards →
    MachineLines wiring cards lines → lines ≡ report_lines chart cards
placed_lines chart plan wiring cards lines sound serves wired deck fits run =
    machine_prints_reports chart plan wiring cards lines
    (record { lawful = sound.lawful; planned = serves; wired = wired }) sound.rising sound.literals deck.valid deck.long fits run

-- the headline
pub wired_setups_print_reports : WiredSetupsPrintReports
wired_setups_print_reports chart plan wiring sound serves wired cards deck fits = (
  MachineLines-some wiring cards,
  λ lines run. ap (λ placed. Pages placed (form_of chart.lines).lines)
      (placed_lines chart plan wiring cards lines sound serves wired deck fits run),
)

-- the lines before those of a card before which all totals fit
pub wired_setups_begin_reports : WiredSetupsBeginReports
wired_setups_begin_reports chart plan wiring sound serves wired card cards later deck fit = (
  FedLines-some wiring (machine_at_start wiring) (card ∷ cards),
  λ left lines fed. machines_begin_reports chart plan wiring card cards later left lines
      (record { lawful = sound.lawful; planned = serves; wired = wired }) sound.rising sound.literals deck.valid deck.long fit fed,
)

-- a deck is valid for the chart of a compilation
pub compiled_deck : (compiled : Compilation) (chart : Chart) (cards : List (List ℕ)) → chart ≡ compiled.chart →
    length cards ≤ most_cards → All (IsValidCard chart) cards → IsDeck compiled.chart cards
compiled_deck compiled chart cards same_chart long valid =
    let V : Chart → Type 0 = λ c. All (IsValidCard c) cards in
    record { valid = subst V same_chart valid; long = long }

-- the lines that a compiled setup places for a deck are those of its report
pub compiled_lines : (compiled : Compilation) (wiring : Wiring) (cards : List (List ℕ)) (lines : List PlacedLine) →
    IsCompiled compiled → wiring ≡ compiled.setup → IsDeck compiled.chart cards → Fits compiled.chart.lines cards →
    MachineLines wiring cards lines → lines ≡ report_lines compiled.chart cards
compiled_lines compiled wiring cards lines is same_setup deck fits run =
    let M : Wiring → Type 0 = λ w. MachineLines w cards lines in
    placed_lines compiled.chart compiled.plan compiled.setup cards lines is.sound is.serves is.wired deck fits
    (subst M same_setup run)

-- a setup that is the same as one that is wired for a chart is wired for it
same_wired : (lines : List Line) (plan : Lists) (one other : Wiring) → IsSameSetup one other → WiredFor lines plan one →
    WiredFor lines plan other
same_wired lines plan one other same wired = record {
  wires = λ exit entry. (
    λ has. (wired.wires exit entry).0 ((same.wires exit entry).0 has),
    λ asked. (same.wires exit entry).1 ((wired.wires exit entry).1 asked),
  );
  jacks = λ jack. (
    λ has. (wired.jacks jack).0 (sym (same.jacks jack) ∙ has),
    λ asked. same.jacks jack ∙ (wired.jacks jack).1 asked,
  );
  tape = record {
    form_lines = same.tape.lines ∙ wired.tape.form_lines;
    first = same.tape.first ∙ wired.tape.first;
    overflow = same.tape.overflow ∙ wired.tape.overflow;
    stops = λ channel line. (
      λ has. (wired.tape.stops channel line).0 (sym (same.tape.stops channel line) ∙ has),
      λ listed. same.tape.stops channel line ∙ (wired.tape.stops channel line).1 listed,
    );
  };
}

-- a setup that the text of a wired one reads as is wired too
read_wired : (lines : List Line) (plan : Lists) (text : List ℕ) (wiring read : Wiring) → WiredFor lines plan wiring → ReadsAs text wiring →
    ReadsAs text read → WiredFor lines plan read
read_wired lines plan text wiring read wired written reads =
    same_wired lines plan wiring read (one_setup text wiring read written reads) wired

-- the headline as the wiring chart says
pub written_setups_print_reports : WrittenSetupsPrintReports
written_setups_print_reports chart plan wiring text read sound serves wired written reads =
    wired_setups_print_reports chart plan read sound serves (read_wired chart.lines plan text wiring read wired written reads)

-- and the lines before those of a card before which all totals fit
pub written_setups_begin_reports : WrittenSetupsBeginReports
written_setups_begin_reports chart plan wiring text read sound serves wired written reads =
    wired_setups_begin_reports chart plan read sound serves (read_wired chart.lines plan text wiring read wired written reads)

-- setups that one wiring chart reads as
pub read_setups_print_alike : ReadSetupsPrintAlike
read_setups_print_alike text one other cards lines reads also form good run =
    let same : IsSameSetup one other = one_setup text one other reads also in
    MachineLines-same one other cards lines form good same.wires same.jacks same.tape run
