-- The feed of a card: its own cycle, and the cycles of the levels that end with it, each with heading cycles where its line starts a page.
use Rattle.std.proofs.Common.{◌≡◌, ◌∙◌, refl, sym, ap, subst, ℕ, zero, suc, ◌+◌, ◌≤◌, ◌<◌, ◌^◌, Bool, true, false, List, [], ◌∷◌, ◌++◌, Option, Some, None, is_some, length, if◌then◌else◌, arith}
use Rattle.report_definition.specs.Below.page_text.declared.placed_lines.placed_line.PlacedLine.{PlacedLine}
use Rattle.report_definition.specs.Below.chart_rules.Rules.{IsLawful}
use Rattle.report_definition.specs.Below.chart_lines.ChartsWords.Chart.{Chart}
use Rattle.report_definition.proofs.FollowedDecks.Pages.{after-most}
use Rattle.report_definition.proofs.FollowedDecks.Places.{places_split}
use Rattle.report_definition.specs.FollowedDecks.Left.{bodies_of, left_after}
use Rattle.report_definition.specs.FollowedDecks.Stands.{Stand, card_bodies}
use Rattle.proof_reports.specs.Below.hubs.SetupsWords.Wiring.{Wiring}
use Rattle.proof_reports.specs.Below.machine.Feeds.{Feeds, FeedRuns, begun, due_in}
use Rattle.proof_reports.specs.Below.machine.Machine.{MachineState}
use Rattle.proof_reports.specs.Below.machine.Runs.{has_more, moved_on}
use Rattle.proof_reports.specs.Below.net.Printing.{prints}
use Rattle.proof_reports.specs.Below.net.declared.cycle.Cycle.TheVariants.{Card, Head}
use Rattle.proof_reports.specs.Below.net.declared.cycle.ProgramLevel.{ProgramLevel}
use Rattle.proof_reports.specs.Below.net.declared.cycle.Ordinal.TheVariants.{First}
use Rattle.proof_reports.proofs.WiredPanels.CycleAsks.LinePlaces.BodyLines.{jacks-print}
use Rattle.proof_reports.proofs.WiredPanels.CycleAsks.LinePlaces.CyclesDue.{cards-due, cards-wait, others-come}
use Rattle.proof_reports.proofs.WiredPanels.CycleAsks.LinePlaces.DueCycles.{due, is_between, stage_after}
use Rattle.proof_reports.proofs.WiredPanels.CycleAsks.LinePlaces.LawfulForms.{form-lawful}
use Rattle.proof_reports.specs.WiredPanels.CycleAsks.LinePlaces.FormFacts.{HasGoodForm}
use Rattle.proof_reports.specs.WiredPanels.CycleAsks.LinePlaces.Placing.{IsCarriageOf, IsAt, prints_kind, printing_of_chart}
use Rattle.program_unit.specs.CycleOrder.{card_over, is_fresh, levels_to, top_level, headed as headed_by}
use Rattle.program_unit.specs.Program.{stage_ended}
use Rattle.program_unit.specs.declared.stage.Stage.{Stage}
use Rattle.program_unit.specs.declared.stage.Stage.TheVariants.{Fresh, BeforeCard}
use Rattle.report_definition.proofs.FewLines.{ended-few}
use Rattle.report_definition.specs.BodyLines.{card_line}
use Rattle.report_definition.specs.Breaks.{ended_after, taking, totals_to}
use Rattle.report_definition.specs.Outline.{OutlineLine, Total}
use Rattle.report_definition.specs.Places.{BodyText, Left, placed}
use Rattle.proof_reports.proofs.PrintedReports.Bodies.{BodyRan, bodies_for, printed_ran, silent_ran}
use Rattle.proof_reports.proofs.PrintedReports.Headings.{CanWait, readied}
use Rattle.proof_reports.proofs.PrintedReports.Levels.{levels_ran, totals_after}
use Rattle.proof_reports.proofs.PrintedReports.Steps.{fed_with, GoesFrom}
use Rattle.proof_reports.specs.PrintedReports.Goes.{CardGoes, HeadsKeep, LevelsGo}

-- The machine stands between two cards: the card waits at first reading.
pub record IsWaiting (chart : Chart) (Waits : MachineState → Type 0) (left : Left) (card : List ℕ) (machine : MachineState) :
    Type 0 where
  pub content : Waits machine
  pub first : machine.stations.first ≡ Some card
  pub between : is_between machine.program.stage ≡ true
  pub is_over : card_over machine.program true ≡ true
  pub printing : machine.program.printing ≡ printing_of_chart chart.lines
  pub carriage : IsCarriageOf chart.lines machine.carriage
  pub at : IsAt chart.lines left machine.carriage.spot

-- a card cycle waits after heading cycles
card_waits : (more : Bool) → CanWait Card true more BeforeCard
card_waits more = record {
  follows = λ program heading restore is. cards-wait program heading restore more is;
  stays = λ heading other. refl;
}

-- the total lines up to a level are those up to a lower one, and those after it
totals-parts : (count k : ℕ) (groups : ℕ → List (List ℕ)) → totals_to (k + count) groups ≡ totals_to k groups ++ totals_after count k groups
totals-parts zero k groups =
    let same : k + 0 ≡ k = omega arith in
    ap (λ n. totals_to n groups) same ∙ end (totals_to k groups)
  where
    end : (xs : List OutlineLine) → xs ≡ xs ++ []
    end [] = refl
    end (x ∷ xs) = ap (λ l. x ∷ l) (end xs)
totals-parts (suc count) k groups =
    let same : k + suc count ≡ suc k + count = omega arith in
    ap (λ n. totals_to n groups) same ∙ totals-parts count (suc k) groups
    ∙ joined (totals_to k groups) (Total (suc k) (groups (suc k))) (totals_after count (suc k) groups)
  where
    joined : (a : List OutlineLine) (b : OutlineLine) (rest : List OutlineLine) → (a ++ (b ∷ [])) ++ rest ≡ a ++ (b ∷ rest)
    joined [] b rest = refl
    joined (x ∷ xs) b rest = ap (λ l. x ∷ l) (joined xs b rest)

-- the card cycle, with the heading cycles before it
card_ran :
    (chart : Chart) (wiring : Wiring) (Waits : MachineState → Type 0) (left : Left) (card : List ℕ) (next : Option (List ℕ))
    (old new : MachineState) (lines : List PlacedLine)
    → IsLawful chart → HasGoodForm chart.lines → HeadsKeep chart wiring Waits → IsWaiting chart Waits left card old
    → left.page < 2 ^ 32 → GoesFrom wiring (fed_with old true next) new lines
    → BodyRan chart wiring Waits Card 0 left true next old new lines
card_ran chart wiring Waits left card next old new lines lawful good keeps is page goes =
    let more : has_more old ≡ true = ap is_some is.first in
    let is_due = cards-due old.program old.carriage.spot.latch is.between is.is_over in
    let due_now : due_in (fed_with old true next) ≡ Some (headed_by old.program.printing old.carriage.spot.latch Card)
    = ap (λ b. due old.program true old.carriage.spot.latch b) more ∙ is_due.0 in
    let kinds : prints old.program.printing Card ≡ prints_kind chart.lines 0
    = ap (λ p. prints p Card) is.printing ∙ jacks-print chart.lines Card 0 refl in
    by (prints_kind chart.lines 0) refl kinds due_now is_due.1
  where
    by : (b : Bool) → prints_kind chart.lines 0 ≡ b → prints old.program.printing Card ≡ prints_kind chart.lines 0
        → due_in (fed_with old true next) ≡ Some (headed_by old.program.printing old.carriage.spot.latch Card)
        → stage_ended old.program.stage (Head First) ≡ BeforeCard First
        → BodyRan chart wiring Waits Card 0 left true next old new lines
    by true printed kinds due_now waits =
        printed_ran chart wiring Waits Card 0 left true next old new lines good refl printed
        (readied chart wiring Waits Card left true next BeforeCard old new lines good keeps (card_waits (has_more old))
        is.content is.carriage is.at page (kinds ∙ printed) due_now waits goes)
    by false silent kinds due_now waits =
        silent_ran chart wiring Waits Card 0 left true next old new lines lawful refl silent is.content is.carriage is.at
        (due_now ∙ ap Some (others-come old.program.printing old.carriage.spot.latch Card (kinds ∙ silent))) goes

-- The feed after a waiting card placed the lines of the card, and left the machine after the levels that ended.
pub record CardFed (chart : Chart) (After : ℕ → MachineState → Type 0) (stand : Stand) (card : List ℕ) (next : Option (List ℕ))
    (new : MachineState) (lines : List PlacedLine) : Type 0 where
  pub content : After (ended_after chart.lines card next) new
  pub first : new.stations.first ≡ next
  pub between : is_between new.program.stage ≡ true
  pub is_over : card_over new.program (is_some next) ≡ true
  pub printing : new.program.printing ≡ printing_of_chart chart.lines
  pub carriage : IsCarriageOf chart.lines new.carriage
  pub at : IsAt chart.lines (left_after chart.lines stand.left (card_bodies chart.lines stand card next)) new.carriage.spot
  pub is_lines : lines ≡ placed chart.lines stand.left (card_bodies chart.lines stand card next)

-- stages between cards are not the first one
not_fresh : (stage : Stage) → is_between stage ≡ true → is_fresh stage ≡ false
not_fresh Fresh between = cc
not_fresh other between = refl

-- after levels a card waits between cards
stages_between : (done : Option ProgramLevel) → is_between (stage_after done) ≡ true
stages_between None = refl
stages_between (Some level) = refl

pub card_fed :
    (chart : Chart) (wiring : Wiring) (stand : Stand) (card : List ℕ) (next : Option (List ℕ))
    (Waits : MachineState → Type 0) (After : ℕ → MachineState → Type 0) (Tested Turned : ProgramLevel → MachineState → Type 0)
    (old new : MachineState) (lines : List PlacedLine)
    → IsLawful chart → CardGoes chart wiring stand card next Waits After → LevelsGo chart wiring stand card next After Tested Turned
    → IsWaiting chart Waits stand.left card old → stand.left.page + 5 < 2 ^ 32 → Feeds wiring old next new lines
    → CardFed chart After stand card next new lines
card_fed chart wiring stand card next Waits After Tested Turned old new lines lawful goes levels is page feed =
    let good = form-lawful chart lawful in
    let begins : begun old next ≡ fed_with old true next
    = ap (λ (b : Bool). if b then (record { machine = moved_on next old; waits = false; next = next }) else (record { machine = old; waits = true; next = next }))
    (not_fresh old.program.stage is.between) in
    let from : GoesFrom wiring (fed_with old true next) new lines
    = record { cycles = feed.cycles; runs = subst (λ f. FeedRuns wiring feed.cycles f new lines) begins feed.runs } in
    let page_now : stand.left.page < 2 ^ 32 = omega (arith, page) in
    let ran = card_ran chart wiring Waits stand.left card next old new lines lawful good goes.heads is page_now from in
    let first : ran.machine.stations.first ≡ Some card = ap (λ s. s.first) ran.stations ∙ is.first in
    let went = goes.runs ran.machine ran.mid ran.content first ran.ran in
    let text = card_line chart.lines stand.opens card in
    let here = ran.placed_so text went.1.carriage went.1.line in
    let bodies = bodies_for chart 0 text in
    let left_here = left_after chart.lines stand.left bodies in
    let groups = taking card stand.so_far in
    let ended = ended_after chart.lines card next in
    let more : has_more ran.mid ≡ is_some next = ap is_some went.1.first in
    let top : levels_to (top_level ran.mid.program (has_more ran.mid)) ≡ ended
    = ap (λ b. levels_to (top_level ran.mid.program b)) more ∙ went.1.levels in
    let few = ended-few chart.lines card next in
    let from_none : 0 + ended ≡ ended = omega arith in
    let pages = turned stand.left text in
    let rest = levels_ran chart wiring stand card next After Tested Turned ended 0 None left_here ran.mid new ran.others lawful good levels
    refl (sym from_none) went.0 went.1.stage (went.1.printing ∙ ran.printing ∙ is.printing) top here.2 here.1
    (omega (arith, page, few, pages)) ran.goes in
    let split = places_split chart.lines stand.left bodies (bodies_of chart.lines (totals_after ended 0 groups)) in
    let all_bodies : bodies ++ bodies_of chart.lines (totals_after ended 0 groups) ≡ card_bodies chart.lines stand card next
    = ap (λ l. bodies ++ bodies_of chart.lines l)
    (sym (totals-parts ended 0 groups) ∙ ap (λ n. totals_to n groups) from_none) in
    let first_new : new.stations.first ≡ next = ap (λ s. s.first) rest.stations ∙ went.1.first in
    record {
      content = rest.content;
      first = first_new;
      between = ap is_between rest.stage ∙ stages_between rest.done;
      is_over = ap (λ (f : Option (List ℕ)). card_over new.program (is_some f)) (sym first_new) ∙ rest.is_over;
      printing = rest.printing ∙ went.1.printing ∙ ran.printing ∙ is.printing;
      carriage = rest.carriage;
      at = subst (λ l. IsAt chart.lines l new.carriage.spot)
          (sym split.1 ∙ ap (λ b. left_after chart.lines stand.left b) all_bodies) rest.at;
      is_lines = here.0 ∙ ap (λ l. placed chart.lines stand.left bodies ++ l) rest.is_lines ∙ sym split.0
          ∙ ap (λ b. placed chart.lines stand.left b) all_bodies;
    }
  where
    by_test : (b : Bool) (body : BodyText) → length (if b then (body ∷ []) else []) ≤ 1
    by_test true body = omega arith
    by_test false body = omega arith

    turned : (from : Left) (text : List ℕ) → (left_after chart.lines from (bodies_for chart 0 text)).page ≤ from.page + 1
    turned from text =
        let most = after-most chart.lines from (bodies_for chart 0 text) in
        let one = by_test (prints_kind chart.lines 0) (record { kind = 0; text = text }) in
        omega (arith, most, one)
