-- A machine wired for a chart goes by cards, and so the lines that it places are those of the report.
use Rattle.std.proofs.Common.{◌≡◌, ◌∙◌, refl, sym, ap, subst, ℕ, ◌+◌, ◌<◌, ◌^◌, true, false, List, [], ◌∷◌, ◌++◌, Option, Some, None}
use Rattle.carriage.specs.Asked.{nothing_asked}
use Rattle.report_definition.specs.Below.page_text.declared.placed_lines.placed_line.PlacedLine.{PlacedLine}
use Rattle.report_definition.specs.Below.chart_rules.Rules.{IsLawful}
use Rattle.report_definition.specs.Below.chart_lines.ChartsWords.Chart.{Chart}
use Rattle.report_definition.specs.FollowedDecks.Runner.{Runner, GoesByCards, FollowsNext, Runs}
use Rattle.report_definition.specs.FollowedDecks.Stands.{Stand, at_first, card_bodies, stand_after}
use Rattle.proof_reports.specs.Below.hubs.SetupsWords.Wiring.{Wiring}
use Rattle.proof_reports.specs.Below.machine.Cycles.{CycleRun}
use Rattle.proof_reports.specs.Below.machine.Feeds.{Feeds, LinesFrom, begun, due_in}
use Rattle.proof_reports.specs.Below.machine.Machine.{MachineState, machine_at_start}
use Rattle.proof_reports.specs.Below.machine.Runs.{has_more, moved_on}
use Rattle.proof_reports.specs.Below.net.Printing.{printing_of}
use Rattle.proof_reports.specs.Below.net.declared.cycle.Cycle.TheVariants.{RunIn}
use Rattle.proof_reports.specs.Below.net.declared.cycle.ProgramLevel.{ProgramLevel}
use Rattle.proof_reports.proofs.WiredPanels.CycleAsks.LinePlaces.DueCycles.{due, is_between}
use Rattle.proof_reports.proofs.WiredPanels.CycleAsks.LinePlaces.Placements.{starts}
use Rattle.proof_reports.specs.WiredPanels.CycleAsks.LinePlaces.Placing.{IsCarriageOf, IsFormOf, printing_of_chart}
use Rattle.program_unit.specs.CycleOrder.{card_over}
use Rattle.program_unit.specs.Program.{ProgramState}
use Rattle.report_definition.specs.Places.{before_all, placed}
use Rattle.proof_reports.proofs.PrintedReports.Feed.{IsWaiting, card_fed}
use Rattle.proof_reports.proofs.PrintedReports.Levels.{quietly}
use Rattle.proof_reports.proofs.PrintedReports.Steps.{fed_with, GoesFrom, stepped, over}
use Rattle.proof_reports.specs.PrintedReports.Goes.{IsDue, MachineGoes}
use Rattle.proof_reports.specs.PrintedReports.Steps.{GoesOn}

-- the machine as one that is fed cards
abbrev pub runner : Chart → Wiring → (List ℕ → Type 0) → (Stand → List ℕ → MachineState → Type 0) → Runner MachineState
runner chart wiring Reads Waits = record {
  chart = chart;
  start = machine_at_start wiring;
  Feeds = Feeds wiring;
  Reads = Reads;
  Follows = λ stand card machine. IsWaiting chart (Waits stand card) stand.left card machine;
}

-- without cards nothing is placed
ends : (wiring : Wiring) (new : MachineState) (lines : List PlacedLine) → Feeds wiring (machine_at_start wiring) None new lines → lines ≡ []
ends wiring new lines feed =
    (over wiring (begun (machine_at_start wiring) None) new lines refl (record { cycles = feed.cycles; runs = feed.runs })).1

-- the first card is taken in
first_fed :
    (chart : Chart) (wiring : Wiring) (Waits : MachineState → Type 0) (card : List ℕ) (new : MachineState) (lines : List PlacedLine)
    → printing_of wiring ≡ printing_of_chart chart.lines → IsFormOf chart.lines wiring.tape
    → ((mid : MachineState) → CycleRun wiring RunIn (moved_on (Some card) (machine_at_start wiring)) mid
    → Waits mid × GoesOn RunIn nothing_asked (moved_on (Some card) (machine_at_start wiring)) mid)
    → Feeds wiring (machine_at_start wiring) (Some card) new lines
    → (lines ≡ []) × IsWaiting chart Waits before_all card new
first_fed chart wiring Waits card new lines printing form runs feed =
    let start : MachineState = moved_on (Some card) (machine_at_start wiring) in
    let goes : GoesFrom wiring (fed_with start false (Some card)) new lines = record { cycles = feed.cycles; runs = feed.runs } in
    let one = stepped wiring RunIn (fed_with start false (Some card)) new lines refl goes in
    let ran = runs one.mid one.ran in
    let carriage : IsCarriageOf chart.lines start.carriage = record { form = form; printing = printing } in
    let quiet = quietly chart before_all RunIn start one.mid refl refl carriage (starts chart.lines wiring) ran.1.carriage in
    let none : due_in (fed_with one.mid false (Some card)) ≡ None
    = ap (λ (p : ProgramState). due p false one.mid.carriage.spot.latch (has_more one.mid)) ran.1.program in
    let finished = over wiring (fed_with one.mid false (Some card)) new one.others none one.goes in
    let waiting : IsWaiting chart Waits before_all card one.mid = record {
      content = ran.0;
      first = ap (λ s. s.first) ran.1.stations;
      between = ap (λ p. is_between p.stage) ran.1.program;
      is_over = ap (λ p. card_over p true) ran.1.program;
      printing = ap (λ p. p.printing) ran.1.program ∙ printing;
      carriage = quiet.carriage;
      at = quiet.at;
    } in (
      one.is_lines ∙ ap (λ l. l ++ one.others) quiet.no_line ∙ finished.1,
      subst (λ m. IsWaiting chart Waits before_all card m) (sym finished.0) waiting,
    )

-- a machine whose cycles go so goes by cards
pub goes_by_cards :
    (chart : Chart) (wiring : Wiring) {Reads : List ℕ → Type 0} {Waits : Stand → List ℕ → MachineState → Type 0}
    {After : Stand → List ℕ → Option (List ℕ) → ℕ → MachineState → Type 0}
    {Tested Turned : Stand → List ℕ → Option (List ℕ) → ProgramLevel → MachineState → Type 0}
    → IsLawful chart → MachineGoes chart wiring Reads Waits After Tested Turned
    → GoesByCards (runner chart wiring Reads Waits)
goes_by_cards chart wiring {Reads} {Waits} {After} {Tested} {Turned} lawful goes = record {
  ends = λ new lines feed. ends wiring new lines feed;
  starts = λ card new lines reads feed.
      first_fed chart wiring (Waits at_first card) card new lines goes.printing goes.form (λ mid ran. goes.starts card mid reads ran) feed;
  goes = λ stand card next old new lines reads reads_next page alike fit is feed.
      one_card stand card next old new lines
      (record { reads = reads; reads_next = reads_next; alike = alike; fit = fit }) page is feed;
}
  where
    one_card : (stand : Stand) (card : List ℕ) (next : Option (List ℕ)) (old new : MachineState) (lines : List PlacedLine)
        → IsDue chart Reads stand card next → stand.left.page + 5 < 2 ^ 32
        → IsWaiting chart (Waits stand card) stand.left card old → Feeds wiring old next new lines
        → (lines ≡ placed chart.lines stand.left (card_bodies chart.lines stand card next))
        × FollowsNext (λ s c m. IsWaiting chart (Waits s c) s.left c m) (stand_after chart.lines stand card next) next new
    one_card stand card None old new lines due page is feed =
        let done = card_fed chart wiring stand card None (Waits stand card) (After stand card None) (Tested stand card None)
        (Turned stand card None) old new lines lawful (goes.cards stand card None due) (goes.levels stand card None due) is page feed in
        (done.is_lines, tt)
    one_card stand card (Some next) old new lines due page is feed =
        let done = card_fed chart wiring stand card (Some next) (Waits stand card) (After stand card (Some next))
        (Tested stand card (Some next)) (Turned stand card (Some next)) old new lines lawful (goes.cards stand card (Some next) due)
        (goes.levels stand card (Some next) due) is page feed in (
          done.is_lines,
          record {
            content = goes.arrives stand card next new due done.content;
            first = done.first;
            between = done.between;
            is_over = done.is_over;
            printing = done.printing;
            carriage = done.carriage;
            at = done.at;
          },
        )

-- the lines of a machine are those of its feeds
pub lines-run :
    (chart : Chart) (wiring : Wiring) (Reads : List ℕ → Type 0) (Waits : Stand → List ℕ → MachineState → Type 0)
    (old : MachineState) (cards : List (List ℕ)) (lines : List PlacedLine)
    → LinesFrom wiring old cards lines → Runs (runner chart wiring Reads Waits) old cards lines
unfolding LinesFrom
lines-run chart wiring Reads Waits old [] lines (new, feed) = (new, feed)
lines-run chart wiring Reads Waits old (card ∷ cards) lines (new, first, others, feed, run, is) =
    (new, first, others, feed, lines-run chart wiring Reads Waits new cards others run, is)
