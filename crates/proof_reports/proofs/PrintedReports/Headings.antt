-- Where a printing cycle is due, the heading cycles come before it where its line starts a page. After them, or at once, the carriage stands
-- ready for the line.
use Rattle.std.proofs.Common.{◌≡◌, ◌∙◌, refl, sym, ap, subst, ℕ, zero, suc, ◌≤◌, ◌<◌, ◌^◌, Bool, true, List, [], ◌++◌, Option, Some, None, arith}
use Rattle.std.proofs.lemmas.List.{append_assoc}
use Rattle.carriage.specs.Asked.{nothing_asked}
use Rattle.carriage.specs.Carriage.{CarriageState}
use Rattle.report_definition.specs.Below.page_text.declared.placed_lines.placed_line.PlacedLine.{PlacedLine}
use Rattle.report_definition.specs.Below.chart_lines.ChartsWords.Chart.{Chart}
use Rattle.proof_reports.specs.Below.hubs.SetupsWords.Wiring.{Wiring}
use Rattle.proof_reports.specs.Below.machine.Cycles.{line_of}
use Rattle.proof_reports.specs.Below.machine.Feeds.{due_in}
use Rattle.proof_reports.specs.Below.machine.Machine.{MachineState}
use Rattle.proof_reports.specs.Below.machine.Runs.{has_more}
use Rattle.proof_reports.specs.Below.net.Printing.{prints}
use Rattle.proof_reports.specs.Below.net.declared.cycle.Cycle.{Cycle}
use Rattle.proof_reports.specs.Below.net.declared.cycle.Cycle.TheVariants.{Head}
use Rattle.proof_reports.specs.Below.net.declared.cycle.Ordinal.{Ordinal}
use Rattle.proof_reports.specs.Below.net.declared.cycle.Ordinal.TheVariants.{First, Second, Third}
use Rattle.proof_reports.proofs.WiredPanels.CycleAsks.LinePlaces.CyclesDue.{headings-come}
use Rattle.proof_reports.proofs.WiredPanels.CycleAsks.LinePlaces.DueCycles.{due}
use Rattle.proof_reports.proofs.WiredPanels.CycleAsks.LinePlaces.HeadingLines.{headings-placed}
use Rattle.proof_reports.proofs.WiredPanels.CycleAsks.LinePlaces.Placements.{ready-within}
use Rattle.proof_reports.specs.WiredPanels.CycleAsks.LinePlaces.CarriageCycles.{begun_by, carriage_after, line_at, heading_cycles, lines_placed}
use Rattle.proof_reports.specs.WiredPanels.CycleAsks.LinePlaces.FormFacts.{HasGoodForm}
use Rattle.proof_reports.specs.WiredPanels.CycleAsks.LinePlaces.Laws.{AreHeadingTexts}
use Rattle.proof_reports.specs.WiredPanels.CycleAsks.LinePlaces.Placing.{IsCarriageOf, IsAt, AwaitsBody}
use Rattle.program_unit.specs.CycleOrder.{headed as headed_by, after_heading}
use Rattle.program_unit.specs.Program.{ProgramState, stage_ended}
use Rattle.program_unit.specs.declared.stage.Stage.{Stage}
use Rattle.report_definition.specs.BodyLines.{heading_line}
use Rattle.report_definition.specs.ChartForm.{heading_count}
use Rattle.report_definition.specs.Places.{Left, headed}
use Rattle.proof_reports.proofs.PrintedReports.Steps.{fed_with, GoesFrom, Stepped, stepped}
use Rattle.proof_reports.specs.PrintedReports.Goes.{HeadsKeep}
use Rattle.proof_reports.specs.PrintedReports.Steps.{Heads}

-- A printing cycle can wait after heading cycles: the stages in which it waits.
pub record CanWait (cycle : Cycle) (waits more : Bool) (before : Ordinal → Stage) : Type 0 where
  pub follows : (program : ProgramState) (heading : Ordinal) (restore : Bool) → program.stage ≡ before heading
      → due program waits restore more ≡ Some (after_heading heading cycle)
  pub stays : (heading other : Ordinal) → stage_ended (before heading) (Head other) ≡ before other

-- The machine stands ready for a line, and the cycle that prints it is due.
pub record IsReadyFor (chart : Chart) (wiring : Wiring) (Content : MachineState → Type 0) (cycle : Cycle) (left : Left) (waits : Bool)
    (next : Option (List ℕ)) (old new : MachineState) (lines : List PlacedLine) : Type 0 where
  pub machine : MachineState
  pub others : List PlacedLine
  pub goes : GoesFrom wiring (fed_with machine waits next) new others
  pub is_due : due_in (fed_with machine waits next) ≡ Some cycle
  pub content : Content machine
  pub ready : AwaitsBody chart.lines left machine.carriage.spot
  pub carriage : IsCarriageOf chart.lines machine.carriage
  pub stations : machine.stations ≡ old.stations
  pub printing : machine.program.printing ≡ old.program.printing
  pub highest : machine.program.highest ≡ old.program.highest
  pub is_lines : lines ≡ headed chart.lines left ++ others

-- three texts by their numbers
abbrev texts_of : List ℕ → List ℕ → List ℕ → ℕ → List ℕ
texts_of one two three zero = one
texts_of one two three (suc zero) = one
texts_of one two three (suc (suc zero)) = two
texts_of one two three (suc (suc (suc more))) = three

-- A machine after a heading cycle: it holds the cards of the one before all headings, and is in the stage in which the cycle waits.
record StandsAfter (old : MachineState) (before : Ordinal → Stage) (heading : Ordinal) (machine : MachineState) : Type 0 where
  stations : machine.stations ≡ old.stations
  printing : machine.program.printing ≡ old.program.printing
  highest : machine.program.highest ≡ old.program.highest
  stage : machine.program.stage ≡ before heading

-- the next line starts a page: the heading cycles run
module _ (chart : Chart) (wiring : Wiring) (Content : MachineState → Type 0) (cycle : Cycle) (left : Left) (waits : Bool)
    (next : Option (List ℕ)) (before : Ordinal → Stage) (old new : MachineState) (lines : List PlacedLine)
    (good : HasGoodForm chart.lines) (keeps : HeadsKeep chart wiring Content) (wait : CanWait cycle waits (has_more old) before)
    (content : Content old) (is : IsCarriageOf chart.lines old.carriage) (at : IsAt chart.lines left old.carriage.spot)
    (page : left.page < 2 ^ 32) (none : left.line ≡ None) where
  abbrev ItsReady : Type 0
  ItsReady = IsReadyFor chart wiring Content cycle left waits next old new lines

  -- what is due after a heading cycle
  next_due : (heading : Ordinal) (machine : MachineState) → StandsAfter old before heading machine
      → due_in (fed_with machine waits next) ≡ Some (after_heading heading cycle)
  next_due heading machine stands =
      ap (λ s. due machine.program waits machine.carriage.spot.latch (has_more (record old { stations = s }))) stands.stations
      ∙ wait.follows machine.program heading machine.carriage.spot.latch stands.stage

  -- how the machine stands after the next one
  after_next : (heading other : Ordinal) (one two : MachineState) → StandsAfter old before heading one → Heads chart other one two
      → StandsAfter old before other two
  after_next heading other one two stands ran = record {
    stations = ran.goes.stations ∙ stands.stations;
    printing = ap (λ p. p.printing) ran.goes.program ∙ stands.printing;
    highest = ap (λ p. p.highest) ran.goes.program ∙ stands.highest;
    stage = ap (λ p. p.stage) ran.goes.program ∙ ap (λ s. stage_ended s (Head other)) stands.stage ∙ wait.stays heading other;
  }

  -- the texts of the heading lines
  text : (number : ℕ) → 1 ≤ number → number ≤ heading_count chart.lines
      → {one two three : List ℕ}
      → (1 ≤ heading_count chart.lines → one ≡ heading_line chart.lines 1)
      → (2 ≤ heading_count chart.lines → two ≡ heading_line chart.lines 2)
      → (3 ≤ heading_count chart.lines → three ≡ heading_line chart.lines 3)
      → texts_of one two three number ≡ heading_line chart.lines number
  text zero from to one two three = absurd (omega (arith, from))
  text (suc zero) from to one two three = one to
  text (suc (suc zero)) from to one two three = two to
  text (suc (suc (suc zero))) from to one two three = three to
  text (suc (suc (suc (suc more)))) from to one two three = absurd (omega (arith, to, good.room.few_headings))

  joined : (a b c rest : List PlacedLine) → a ++ (b ++ (c ++ rest)) ≡ (a ++ (b ++ (c ++ []))) ++ rest
  joined a b c rest = simp (append_assoc)

  same : (one two three : MachineState)
      → one.carriage ≡ carriage_after old.carriage nothing_asked (Head First)
      → two.carriage ≡ carriage_after (carriage_after old.carriage nothing_asked (Head First)) nothing_asked (Head Second)
      → three.carriage
      ≡ carriage_after
      (carriage_after (carriage_after old.carriage nothing_asked (Head First)) nothing_asked (Head Second))
      nothing_asked (Head Third)
      → line_of one ++ (line_of two ++ (line_of three ++ []))
      ≡ lines_placed old.carriage (heading_cycles (texts_of one.wheels.line two.wheels.line three.wheels.line))
  same one two three a b c =
      λ i. line_at ((a i).printed) one.wheels.line
      ++ (line_at ((b i).printed) two.wheels.line ++ (line_at ((c i).printed) three.wheels.line ++ []))

  -- all three ran
  all_ran : (one : Stepped wiring (Head First) (fed_with old waits next) new lines) → Heads chart First old one.mid
      → (two : Stepped wiring (Head Second) (fed_with one.mid waits next) new one.others) → Heads chart Second one.mid two.mid
      → (three : Stepped wiring (Head Third) (fed_with two.mid waits next) new two.others) → Heads chart Third two.mid three.mid
      → Content three.mid → StandsAfter old before Third three.mid → ItsReady
  all_ran one first two second three third held stands =
      let after_second : CarriageState → CarriageState = λ c. carriage_after c nothing_asked (Head Second) in
      let after_third : CarriageState → CarriageState = λ c. carriage_after c nothing_asked (Head Third) in
      let carriage_two = second.goes.carriage ∙ ap after_second first.goes.carriage in
      let carriage_three = third.goes.carriage ∙ ap after_third carriage_two in
      let are_texts : AreHeadingTexts chart.lines (texts_of one.mid.wheels.line two.mid.wheels.line three.mid.wheels.line)
      = λ number from to. text number from to first.line second.line third.line in
      let heads = headings-placed chart.lines left old.carriage
      (texts_of one.mid.wheels.line two.mid.wheels.line three.mid.wheels.line) good is at none page are_texts in
      record {
        machine = three.mid;
        others = three.others;
        goes = three.goes;
        is_due = next_due Third three.mid stands;
        content = held;
        ready = subst (λ c. AwaitsBody chart.lines left c.spot) (sym carriage_three) heads.ready;
        carriage = subst (λ c. IsCarriageOf chart.lines c) (sym carriage_three) heads.keeps;
        stations = stands.stations;
        printing = stands.printing;
        highest = stands.highest;
        is_lines = one.is_lines ∙ ap (λ l. line_of one.mid ++ l) (two.is_lines ∙ ap (λ l. line_of two.mid ++ l) three.is_lines)
            ∙ joined (line_of one.mid) (line_of two.mid) (line_of three.mid) three.others
            ∙ ap (λ l. l ++ three.others) (same one.mid two.mid three.mid first.goes.carriage carriage_two carriage_three ∙ heads.heads);
      }

  -- two of them ran
  two_ran : (one : Stepped wiring (Head First) (fed_with old waits next) new lines) → Heads chart First old one.mid
      → (two : Stepped wiring (Head Second) (fed_with one.mid waits next) new one.others) → Heads chart Second one.mid two.mid
      → Content two.mid → StandsAfter old before Second two.mid → ItsReady
  two_ran one first two second held stands =
      step (stepped wiring (Head Third) (fed_with two.mid waits next) new two.others (next_due Second two.mid stands) two.goes)
    where
      kept : (three : Stepped wiring (Head Third) (fed_with two.mid waits next) new two.others)
          → Content three.mid × Heads chart Third two.mid three.mid → ItsReady
      kept three (content_three, third) =
          all_ran one first two second three third content_three (after_next Second Third two.mid three.mid stands third)

      step : Stepped wiring (Head Third) (fed_with two.mid waits next) new two.others → ItsReady
      step three = kept three (keeps Third two.mid three.mid held three.ran)

  -- the first ran
  one_ran : (one : Stepped wiring (Head First) (fed_with old waits next) new lines) → Heads chart First old one.mid
      → Content one.mid → StandsAfter old before First one.mid → ItsReady
  one_ran one first held stands =
      step (stepped wiring (Head Second) (fed_with one.mid waits next) new one.others (next_due First one.mid stands) one.goes)
    where
      kept : (two : Stepped wiring (Head Second) (fed_with one.mid waits next) new one.others)
          → Content two.mid × Heads chart Second one.mid two.mid → ItsReady
      kept two (content_two, second) =
          two_ran one first two second content_two (after_next First Second one.mid two.mid stands second)

      step : Stepped wiring (Head Second) (fed_with one.mid waits next) new one.others → ItsReady
      step two = kept two (keeps Second one.mid two.mid held two.ran)

  pub with_headings :
      due_in (fed_with old waits next) ≡ Some (Head First) → stage_ended old.program.stage (Head First) ≡ before First
      → GoesFrom wiring (fed_with old waits next) new lines → ItsReady
  with_headings is_due stage goes =
      step (stepped wiring (Head First) (fed_with old waits next) new lines is_due goes)
    where
      kept : (one : Stepped wiring (Head First) (fed_with old waits next) new lines) → Content one.mid × Heads chart First old one.mid → ItsReady
      kept one (content_one, first) =
          one_ran one first content_one (record {
            stations = first.goes.stations;
            printing = ap (λ p. p.printing) first.goes.program;
            highest = ap (λ p. p.highest) first.goes.program;
            stage = ap (λ p. p.stage) first.goes.program ∙ stage;
          })

      step : Stepped wiring (Head First) (fed_with old waits next) new lines → ItsReady
      step one = kept one (keeps First old one.mid content one.ran)

-- A printing cycle is due: the machine comes to stand ready for its line.
pub readied :
    (chart : Chart) (wiring : Wiring) (Content : MachineState → Type 0) (cycle : Cycle) (left : Left) (waits : Bool)
    (next : Option (List ℕ)) (before : Ordinal → Stage) (old new : MachineState) (lines : List PlacedLine)
    → HasGoodForm chart.lines → HeadsKeep chart wiring Content → CanWait cycle waits (has_more old) before
    → Content old → IsCarriageOf chart.lines old.carriage → IsAt chart.lines left old.carriage.spot → left.page < 2 ^ 32
    → prints old.program.printing cycle ≡ true
    → due_in (fed_with old waits next) ≡ Some (headed_by old.program.printing old.carriage.spot.latch cycle)
    → stage_ended old.program.stage (Head First) ≡ before First
    → GoesFrom wiring (fed_with old waits next) new lines
    → IsReadyFor chart wiring Content cycle left waits next old new lines
readied chart wiring Content cycle left waits next before old new lines good keeps wait content is at page printing is_due stage goes =
    by left.line refl (headings-come chart.lines left old.carriage.spot old.program.printing cycle at printing)
  where
    by : (o : Option ℕ) → left.line ≡ o → headed_by old.program.printing old.carriage.spot.latch cycle ≡ begun_by left.line cycle
        → IsReadyFor chart wiring Content cycle left waits next old new lines
    by None none comes =
        with_headings chart wiring Content cycle left waits next before old new lines good keeps wait content is at page none
        (is_due ∙ ap Some (comes ∙ ap (λ (l : Option ℕ). begun_by l cycle) none)) stage goes
    by (Some line) on comes =
        let within = ready-within chart.lines left old.carriage.spot line at on in
        record {
          machine = old;
          others = lines;
          goes = goes;
          is_due = is_due ∙ ap Some (comes ∙ ap (λ (l : Option ℕ). begun_by l cycle) on);
          content = content;
          ready = within.0;
          carriage = is;
          stations = refl;
          printing = refl;
          highest = refl;
          is_lines = ap (λ l. l ++ lines) (sym within.1);
        }
