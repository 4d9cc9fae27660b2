-- The program cycles after a card cycle: level by level, from the lowest on, three cycles each. The third places the total line of its
-- level where the report does.
use Rattle.std.proofs.Common.{◌≡◌, ◌∙◌, refl, sym, ap, subst, ℕ, zero, suc, ◌+◌, ◌≤◌, ◌<◌, ◌^◌, not, Bool, true, false, List, [], ◌∷◌, ◌++◌, Option, Some, None, length, if◌then◌else◌, arith}
use Rattle.std.proofs.lemmas.Bool.Decides.{nat_tests}
use Rattle.carriage.specs.Asked.{nothing_asked}
use Rattle.report_definition.specs.Below.page_text.declared.placed_lines.placed_line.PlacedLine.{PlacedLine}
use Rattle.report_definition.specs.Below.chart_rules.Rules.{IsLawful}
use Rattle.report_definition.specs.Below.chart_lines.ChartsWords.Chart.{Chart}
use Rattle.report_definition.proofs.FollowedDecks.Pages.{after-most}
use Rattle.report_definition.proofs.FollowedDecks.Places.{places_split}
use Rattle.report_definition.specs.FollowedDecks.Left.{bodies_of, left_after}
use Rattle.report_definition.specs.FollowedDecks.Stands.{Stand}
use Rattle.proof_reports.specs.Below.hubs.SetupsWords.Wiring.{Wiring}
use Rattle.proof_reports.specs.Below.machine.Cycles.{line_of}
use Rattle.proof_reports.specs.Below.machine.Feeds.{due_in}
use Rattle.proof_reports.specs.Below.machine.Machine.{MachineState}
use Rattle.proof_reports.specs.Below.machine.Runs.{has_more}
use Rattle.proof_reports.specs.Below.net.Cycles.{level_number}
use Rattle.proof_reports.specs.Below.net.Printing.{prints}
use Rattle.proof_reports.specs.Below.net.declared.cycle.Cycle.{Cycle}
use Rattle.proof_reports.specs.Below.net.declared.cycle.Cycle.TheVariants.{Prog, Head}
use Rattle.proof_reports.specs.Below.net.declared.cycle.ProgramLevel.{ProgramLevel}
use Rattle.proof_reports.specs.Below.net.declared.cycle.ProgramLevel.TheVariants.{Final}
use Rattle.proof_reports.specs.Below.net.declared.cycle.Ordinal.TheVariants.{First, Second, Third}
use Rattle.proof_reports.proofs.WiredPanels.CycleAsks.LinePlaces.BodyLines.{jacks-print}
use Rattle.proof_reports.proofs.WiredPanels.CycleAsks.LinePlaces.CyclesDue.{levels-due, levels-rise, seconds-due, thirds-due, totals-wait, others-come}
use Rattle.proof_reports.proofs.WiredPanels.CycleAsks.LinePlaces.DueCycles.{due, stage_after}
use Rattle.proof_reports.proofs.WiredPanels.CycleAsks.LinePlaces.Placements.{quiet-stays}
use Rattle.proof_reports.specs.WiredPanels.CycleAsks.LinePlaces.CarriageCycles.{begins_page, carriage_after, line_at}
use Rattle.proof_reports.specs.WiredPanels.CycleAsks.LinePlaces.FormFacts.{HasGoodForm}
use Rattle.proof_reports.specs.WiredPanels.CycleAsks.LinePlaces.Placing.{IsCarriageOf, IsAt, prints_kind, printing_of_chart}
use Rattle.program_unit.specs.CycleOrder.{card_over, has_level_left, level_above, levels_to, top_level, headed as headed_by}
use Rattle.program_unit.specs.Program.{ProgramState, stage_ended}
use Rattle.program_unit.specs.declared.stage.Stage.TheVariants.{RanProg, BeforeTotal}
use Rattle.report_definition.specs.BodyLines.{total_line}
use Rattle.report_definition.specs.Breaks.{ended_after, taking}
use Rattle.report_definition.specs.Outline.{OutlineLine, Total}
use Rattle.report_definition.specs.Places.{BodyText, Left, placed}
use Rattle.report_definition.specs.ChartForm.{prints_totals}
use Rattle.proof_reports.proofs.PrintedReports.Bodies.{BodyRan, bodies_for, printed_ran, silent_ran}
use Rattle.proof_reports.proofs.PrintedReports.Headings.{CanWait, readied}
use Rattle.proof_reports.proofs.PrintedReports.Steps.{fed_with, GoesFrom, Stepped, stepped, over}
use Rattle.proof_reports.specs.PrintedReports.Goes.{HeadsKeep, LevelsGo}
use Rattle.proof_reports.specs.PrintedReports.Steps.{GoesOn, Totals}

-- the total lines of so many levels after a number of levels
abbrev pub totals_after : (count k : ℕ) → (ℕ → List (List ℕ)) → List OutlineLine
totals_after zero k groups = []
totals_after (suc count) k groups = Total (suc k) (groups (suc k)) ∷ totals_after count (suc k) groups

-- the levels that are left ran, and the feed is over
pub record LevelsRan (chart : Chart) (After : ℕ → MachineState → Type 0) (ended : ℕ) (left : Left) (bodies : List BodyText)
    (old new : MachineState) (lines : List PlacedLine) : Type 0 where
  pub content : After ended new
  pub done : Option ProgramLevel
  pub all_done : levels_to done ≡ ended
  pub stage : new.program.stage ≡ stage_after done
  pub printing : new.program.printing ≡ old.program.printing
  pub is_over : card_over new.program (has_more new) ≡ true
  pub stations : new.stations ≡ old.stations
  pub carriage : IsCarriageOf chart.lines new.carriage
  pub at : IsAt chart.lines (left_after chart.lines left bodies) new.carriage.spot
  pub is_lines : lines ≡ placed chart.lines left bodies

-- a third cycle waits after heading cycles
third_waits : (level : ProgramLevel) (more : Bool) → CanWait (Prog level Third) false more (BeforeTotal level)
third_waits level more = record {
  follows = λ program heading restore is. totals-wait program level heading false restore more is;
  stays = λ heading other. refl;
}

-- where the levels that run are as many as have run, none is left
none_left : (program : ProgramState) (done : Option ProgramLevel) (more : Bool) → levels_to (top_level program more) ≡ levels_to done
    → has_level_left program done more ≡ false
none_left program level more same = grind (arith, nat_tests, same)

some_left : (program : ProgramState) (done : Option ProgramLevel) (more : Bool) (n : ℕ)
    → levels_to (top_level program more) ≡ levels_to done + suc n → has_level_left program done more ≡ true
some_left program level more n same = grind (arith, nat_tests, same)

-- a cycle that doesn't print and asks for nothing leaves the carriage where it stands, and places no line
pub record StaysQuiet (chart : Chart) (left : Left) (new : MachineState) : Type 0 where
  pub carriage : IsCarriageOf chart.lines new.carriage
  pub at : IsAt chart.lines left new.carriage.spot
  pub no_line : line_of new ≡ []

pub quietly :
    (chart : Chart) (left : Left) (cycle : Cycle) (old new : MachineState)
    → prints old.carriage.printing cycle ≡ false → begins_page cycle ≡ false
    → IsCarriageOf chart.lines old.carriage → IsAt chart.lines left old.carriage.spot
    → new.carriage ≡ carriage_after old.carriage nothing_asked cycle → StaysQuiet chart left new
quietly chart left cycle old new quiet no_page is at goes =
    let stays = goes ∙ quiet-stays old.carriage cycle quiet no_page in
    record {
      carriage = subst (λ c. IsCarriageOf chart.lines c) (sym stays) (record { form = is.form; printing = is.printing });
      at = subst (λ c. IsAt chart.lines left c.spot) (sym stays) at;
      no_line = ap (λ c. line_at c.printed new.wheels.line) stays;
    }

-- the third cycle of a level, with the heading cycles before it
third_ran :
    (chart : Chart) (wiring : Wiring) (Turned : MachineState → Type 0) (level : ProgramLevel) (left : Left) (next : Option (List ℕ))
    (old new : MachineState) (lines : List PlacedLine)
    → IsLawful chart → HasGoodForm chart.lines → HeadsKeep chart wiring Turned → Turned old
    → old.program.printing ≡ printing_of_chart chart.lines → old.program.stage ≡ RanProg level Second
    → IsCarriageOf chart.lines old.carriage → IsAt chart.lines left old.carriage.spot → left.page < 2 ^ 32
    → GoesFrom wiring (fed_with old false next) new lines
    → BodyRan chart wiring Turned (Prog level Third) (level_number level) left false next old new lines
third_ran chart wiring Turned level left next old new lines lawful good keeps content printing stage is at page goes =
    let is_due = thirds-due old.program level false old.carriage.spot.latch (has_more old) stage in
    let kinds : prints old.program.printing (Prog level Third) ≡ prints_kind chart.lines (level_number level)
    = ap (λ p. prints p (Prog level Third)) printing ∙ jacks-print chart.lines (Prog level Third) (level_number level) refl in
    by (prints_kind chart.lines (level_number level)) refl kinds is_due.0 is_due.1
  where
    by : (b : Bool) → prints_kind chart.lines (level_number level) ≡ b
        → prints old.program.printing (Prog level Third) ≡ prints_kind chart.lines (level_number level)
        → due old.program false old.carriage.spot.latch (has_more old)
        ≡ Some (headed_by old.program.printing old.carriage.spot.latch (Prog level Third))
        → stage_ended old.program.stage (Head First) ≡ BeforeTotal level First
        → BodyRan chart wiring Turned (Prog level Third) (level_number level) left false next old new lines
    by true printed kinds is_due waits =
        printed_ran chart wiring Turned (Prog level Third) (level_number level) left false next old new lines good refl printed
        (readied chart wiring Turned (Prog level Third) left false next (BeforeTotal level) old new lines good keeps
        (third_waits level (has_more old)) content is at page (kinds ∙ printed) is_due waits goes)
    by false silent kinds is_due waits =
        silent_ran chart wiring Turned (Prog level Third) (level_number level) left false next old new lines lawful refl silent content is at
        (is_due ∙ ap Some (others-come old.program.printing old.carriage.spot.latch (Prog level Third) (kinds ∙ silent))) goes

-- One level ran: what its three program cycles leave and place, with the heading cycles before its total line.
record LevelRan (chart : Chart) (wiring : Wiring) (After : ℕ → MachineState → Type 0) (k : ℕ) (level : ProgramLevel) (left : Left)
    (bodies : List BodyText) (next : Option (List ℕ)) (old new : MachineState) (lines : List PlacedLine) : Type 0 where
  mid : MachineState
  others : List PlacedLine
  goes : GoesFrom wiring (fed_with mid false next) new others
  content : After (suc k) mid
  stage : mid.program.stage ≡ stage_after (Some level)
  printing : mid.program.printing ≡ old.program.printing
  highest : mid.program.highest ≡ old.program.highest
  stations : mid.stations ≡ old.stations
  carriage : IsCarriageOf chart.lines mid.carriage
  at : IsAt chart.lines (left_after chart.lines left bodies) mid.carriage.spot
  is_lines : lines ≡ placed chart.lines left bodies ++ others

-- the bodies of the total line of a level
abbrev total_bodies : Chart → Stand → List ℕ → ℕ → List BodyText
total_bodies chart stand card level = bodies_for chart level (total_line chart.lines level (taking card stand.so_far level))

-- a level runs
module _ (chart : Chart) (wiring : Wiring) (stand : Stand) (card : List ℕ) (next : Option (List ℕ))
    (After : ℕ → MachineState → Type 0) (Tested Turned : ProgramLevel → MachineState → Type 0) (k : ℕ) (level : ProgramLevel) (left : Left)
    (old new : MachineState) (lines : List PlacedLine) (lawful : IsLawful chart) (good : HasGoodForm chart.lines)
    (go : LevelsGo chart wiring stand card next After Tested Turned) (number : level_number level ≡ suc k)
    (within : suc k ≤ ended_after chart.lines card next) (printing : old.program.printing ≡ printing_of_chart chart.lines)
    (is : IsCarriageOf chart.lines old.carriage) (at : IsAt chart.lines left old.carriage.spot) (page : left.page < 2 ^ 32) where
  abbrev ItsRun : Type 0
  ItsRun = LevelRan chart wiring After k level left (total_bodies chart stand card (level_number level)) next old new lines

  kind_printed : (n m : ℕ) → n ≡ suc m → prints_kind chart.lines n ≡ true → prints_totals chart.lines n ≡ true
  kind_printed zero m is printed = absurd (omega (arith, is))
  kind_printed (suc n) m is printed = printed

  -- the third cycle ran
  third_over :
      (one : Stepped wiring (Prog level First) (fed_with old false next) new lines)
      → GoesOn (Prog level First) nothing_asked old one.mid → StaysQuiet chart left one.mid
      → (two : Stepped wiring (Prog level Second) (fed_with one.mid false next) new one.others)
      → GoesOn (Prog level Second) nothing_asked one.mid two.mid → StaysQuiet chart left two.mid
      → (ran : BodyRan chart wiring (Turned level) (Prog level Third) (level_number level) left false next two.mid new two.others)
      → After (suc k) ran.mid × Totals chart stand card level ran.machine ran.mid → ItsRun
  third_over one first quiet_one two second quiet_two ran (after, third) =
      let text = total_line chart.lines (level_number level) (taking card stand.so_far (level_number level)) in
      let places = ran.placed_so text third.goes.carriage (λ printed. third.line (kind_printed (level_number level) k number printed)) in
      record {
        mid = ran.mid;
        others = ran.others;
        goes = ran.goes;
        content = after;
        stage = ap (λ p. p.stage) third.goes.program;
        printing = ap (λ p. p.printing) third.goes.program ∙ ran.printing ∙ ap (λ p. p.printing) second.program
            ∙ ap (λ p. p.printing) first.program;
        highest = ap (λ p. p.highest) third.goes.program ∙ ran.highest ∙ ap (λ p. p.highest) second.program
            ∙ ap (λ p. p.highest) first.program;
        stations = third.goes.stations ∙ ran.stations ∙ second.stations ∙ first.stations;
        carriage = places.2;
        at = places.1;
        is_lines = one.is_lines ∙ ap (λ l. l ++ one.others) quiet_one.no_line
            ∙ two.is_lines ∙ ap (λ l. l ++ two.others) quiet_two.no_line ∙ places.0;
      }

  -- the second cycle ran
  second_over :
      (one : Stepped wiring (Prog level First) (fed_with old false next) new lines)
      → GoesOn (Prog level First) nothing_asked old one.mid → StaysQuiet chart left one.mid
      → (two : Stepped wiring (Prog level Second) (fed_with one.mid false next) new one.others)
      → Turned level two.mid × GoesOn (Prog level Second) nothing_asked one.mid two.mid → ItsRun
  second_over one first quiet_one two (turned, second) =
      third (third_ran chart wiring (Turned level) level left next two.mid new two.others lawful good (go.heads level) turned
      (ap (λ p. p.printing) second.program ∙ ap (λ p. p.printing) first.program ∙ printing) (ap (λ p. p.stage) second.program)
      quiet_two.carriage quiet_two.at page two.goes)
    where
      quiet_two : StaysQuiet chart left two.mid
      quiet_two = quietly chart left (Prog level Second) one.mid two.mid refl refl quiet_one.carriage quiet_one.at second.carriage

      third : BodyRan chart wiring (Turned level) (Prog level Third) (level_number level) left false next two.mid new two.others → ItsRun
      third ran =
          third_over one first quiet_one two second quiet_two ran (go.third k level ran.machine ran.mid number within ran.content ran.ran)

  -- the first cycle ran
  first_over : (one : Stepped wiring (Prog level First) (fed_with old false next) new lines)
      → Tested level one.mid × GoesOn (Prog level First) nothing_asked old one.mid → ItsRun
  first_over one (tested, first) =
      second (stepped wiring (Prog level Second) (fed_with one.mid false next) new one.others
      (seconds-due one.mid.program level false one.mid.carriage.spot.latch (has_more one.mid) (ap (λ p. p.stage) first.program)) one.goes)
    where
      second : Stepped wiring (Prog level Second) (fed_with one.mid false next) new one.others → ItsRun
      second two =
          second_over one first (quietly chart left (Prog level First) old one.mid refl refl is at first.carriage) two
          (go.second level one.mid two.mid tested two.ran)

  level_ran :
      due_in (fed_with old false next) ≡ Some (Prog level First) → After k old → GoesFrom wiring (fed_with old false next) new lines → ItsRun
  level_ran is_due content goes =
      first (stepped wiring (Prog level First) (fed_with old false next) new lines is_due goes)
    where
      first : Stepped wiring (Prog level First) (fed_with old false next) new lines → ItsRun
      first one = first_over one (go.first k level old one.mid number within content one.ran)

-- a level turns one page at most
module _ (chart : Chart) where
  by_test : (b : Bool) (body : BodyText) → length (if b then (body ∷ []) else []) ≤ 1
  by_test true body = omega arith
  by_test false body = omega arith

  one_body : (kind : ℕ) (text : List ℕ) → length (bodies_for chart kind text) ≤ 1
  one_body kind text = by_test (prints_kind chart.lines kind) (record { kind = kind; text = text })

  turned_pages : (kind : ℕ) (text : List ℕ) (from : Left)
      → (left_after chart.lines from (bodies_for chart kind text)).page ≤ from.page + 1
  turned_pages kind text from =
      let most = after-most chart.lines from (bodies_for chart kind text) in
      let one = one_body kind text in
      omega (arith, most, one)

-- the levels that are left run, one after another
pub levels_ran :
    (chart : Chart) (wiring : Wiring) (stand : Stand) (card : List ℕ) (next : Option (List ℕ))
    (After : ℕ → MachineState → Type 0) (Tested Turned : ProgramLevel → MachineState → Type 0)
    (count k : ℕ) (done : Option ProgramLevel) (left : Left) (old new : MachineState) (lines : List PlacedLine)
    → IsLawful chart → HasGoodForm chart.lines → LevelsGo chart wiring stand card next After Tested Turned
    → levels_to done ≡ k → ended_after chart.lines card next ≡ k + count
    → After k old → old.program.stage ≡ stage_after done → old.program.printing ≡ printing_of_chart chart.lines
    → levels_to (top_level old.program (has_more old)) ≡ ended_after chart.lines card next
    → IsCarriageOf chart.lines old.carriage → IsAt chart.lines left old.carriage.spot → left.page + count < 2 ^ 32
    → GoesFrom wiring (fed_with old false next) new lines
    → LevelsRan chart After (ended_after chart.lines card next) left
    (bodies_of chart.lines (totals_after count k (taking card stand.so_far))) old new lines
levels_ran chart wiring stand card next After Tested Turned zero k done left old new lines lawful good go is_k all content stage printing top is at page goes =
    let same : levels_to (top_level old.program (has_more old)) ≡ levels_to done = omega (arith, top, all, is_k) in
    let none = none_left old.program done (has_more old) same in
    let due_now = levels-due old.program done old.carriage.spot.latch (has_more old) stage in
    let no_more : due_in (fed_with old false next) ≡ None
    = due_now.0 ∙ ap (λ (b : Bool). if b then Some (Prog (level_above done) First) else None) none in
    let finished = over wiring (fed_with old false next) new lines no_more goes in
    let is_new : new ≡ old = finished.0 in
    let ended : k ≡ ended_after chart.lines card next = omega (arith, all) in
    record {
      content = subst (λ m. After (ended_after chart.lines card next) m) (sym is_new) (subst (λ n. After n old) ended content);
      done = done;
      all_done = is_k ∙ ended;
      stage = ap (λ m. m.program.stage) is_new ∙ stage;
      printing = ap (λ m. m.program.printing) is_new;
      is_over = ap (λ m. card_over m.program (has_more m)) is_new ∙ due_now.1 ∙ ap not none;
      stations = ap (λ m. m.stations) is_new;
      carriage = subst (λ m. IsCarriageOf chart.lines m.carriage) (sym is_new) is;
      at = subst (λ m. IsAt chart.lines left m.carriage.spot) (sym is_new) at;
      is_lines = finished.1;
    }
levels_ran chart wiring stand card next After Tested Turned (suc count) k done left old new lines lawful good go is_k all content stage printing top is at page goes =
    let left_over : levels_to (top_level old.program (has_more old)) ≡ levels_to done + suc count = omega (arith, top, all, is_k) in
    let some = some_left old.program done (has_more old) count left_over in
    let number : level_number (level_above done) ≡ suc k
    = levels-rise old.program done (has_more old) some ∙ ap (λ n. n + 1) is_k ∙ plus_one k in
    let within : suc k ≤ ended_after chart.lines card next = omega (arith, all) in
    let due_now = levels-due old.program done old.carriage.spot.latch (has_more old) stage in
    let due_first : due_in (fed_with old false next) ≡ Some (Prog (level_above done) First)
    = due_now.0 ∙ ap (λ (b : Bool). if b then Some (Prog (level_above done) First) else None) some in
    with_level (level_above done) number
    (level_ran chart wiring stand card next After Tested Turned k (level_above done) left old new lines lawful good go number within printing
    is at (omega (arith, page)) due_first content goes)
    (λ from mid others. levels_ran chart wiring stand card next After Tested Turned count (suc k) (Some (level_above done)) from mid new others
    lawful good go)
  where
    plus_one : (n : ℕ) → n + 1 ≡ suc n
    plus_one n = omega arith

    shifted : (n m : ℕ) → n + suc m ≡ suc n + m
    shifted n m = omega arith

    same_top : (one other : ProgramState) (a b : Bool) → one.highest ≡ other.highest → a ≡ b
        → levels_to (top_level one a) ≡ levels_to (top_level other b)
    same_top one other a b high same = λ i. levels_to (if same i then high i else Some Final)

    Ran : ProgramLevel → Type 0
    Ran level = LevelRan chart wiring After k level left (total_bodies chart stand card (level_number level)) next old new lines

    Rest : (level : ProgramLevel) → Ran level → Type 0
    Rest level ran =
        LevelsRan chart After (ended_after chart.lines card next)
        (left_after chart.lines left (total_bodies chart stand card (level_number level)))
        (bodies_of chart.lines (totals_after count (suc k) (taking card stand.so_far))) ran.mid new ran.others

    together : (level : ProgramLevel) → level_number level ≡ suc k → (ran : Ran level) → Rest level ran
        → LevelsRan chart After (ended_after chart.lines card next) left
        (bodies_of chart.lines (totals_after (suc count) k (taking card stand.so_far))) old new lines
    together level number ran rest =
        let bodies = total_bodies chart stand card (level_number level) in
        let others = bodies_of chart.lines (totals_after count (suc k) (taking card stand.so_far)) in
        let split = places_split chart.lines left bodies others in
        let all_bodies : bodies ++ others ≡ bodies_of chart.lines (totals_after (suc count) k (taking card stand.so_far))
        = ap (λ n. total_bodies chart stand card n ++ others) number in
        record {
          content = rest.content;
          done = rest.done;
          all_done = rest.all_done;
          stage = rest.stage;
          printing = rest.printing ∙ ran.printing;
          is_over = rest.is_over;
          stations = rest.stations ∙ ran.stations;
          carriage = rest.carriage;
          at = subst (λ l. IsAt chart.lines l new.carriage.spot)
              (sym split.1 ∙ ap (λ b. left_after chart.lines left b) all_bodies) rest.at;
          is_lines = ran.is_lines ∙ ap (λ l. placed chart.lines left bodies ++ l) rest.is_lines
              ∙ sym split.0 ∙ ap (λ b. placed chart.lines left b) all_bodies;
        }

    -- the levels above, after any machine
    Above : ProgramLevel → Type 0
    Above level =
        (from : Left) (mid : MachineState) (others : List PlacedLine) → level_number level ≡ suc k
        → ended_after chart.lines card next ≡ suc k + count → After (suc k) mid → mid.program.stage ≡ stage_after (Some level)
        → mid.program.printing ≡ printing_of_chart chart.lines
        → levels_to (top_level mid.program (has_more mid)) ≡ ended_after chart.lines card next
        → IsCarriageOf chart.lines mid.carriage → IsAt chart.lines from mid.carriage.spot → from.page + count < 2 ^ 32
        → GoesFrom wiring (fed_with mid false next) new others
        → LevelsRan chart After (ended_after chart.lines card next) from
        (bodies_of chart.lines (totals_after count (suc k) (taking card stand.so_far))) mid new others

    with_level : (level : ProgramLevel) → level_number level ≡ suc k → Ran level → Above level
        → LevelsRan chart After (ended_after chart.lines card next) left
        (bodies_of chart.lines (totals_after (suc count) k (taking card stand.so_far))) old new lines
    with_level level number ran above =
        let few = turned_pages chart (level_number level)
        (total_line chart.lines (level_number level) (taking card stand.so_far (level_number level))) left in
        let more : has_more ran.mid ≡ has_more old = ap (λ s. has_more (record old { stations = s })) ran.stations in
        together level number ran
        (above (left_after chart.lines left (total_bodies chart stand card (level_number level))) ran.mid ran.others number
        (all ∙ shifted k count) ran.content ran.stage (ran.printing ∙ printing)
        (same_top ran.mid.program old.program (has_more ran.mid) (has_more old) ran.highest more ∙ top) ran.carriage ran.at
        (omega (arith, page, few)) ran.goes)
