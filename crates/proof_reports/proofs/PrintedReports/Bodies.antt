-- A body line in a feed: the cycle that prints it places it where the report does, or, where its kind is not printed, places nothing.
use Rattle.std.proofs.Common.{◌≡◌, ◌∙◌, refl, sym, ap, subst, ℕ, Bool, true, false, List, [], ◌∷◌, ◌++◌, Option, Some, if◌then◌else◌}
use Rattle.report_definition.specs.Below.page_text.declared.placed_lines.placed_line.PlacedLine.{PlacedLine}
use Rattle.report_definition.specs.Below.chart_rules.Rules.{IsLawful}
use Rattle.report_definition.specs.Below.chart_lines.ChartsWords.Chart.{Chart}
use Rattle.report_definition.specs.FollowedDecks.Left.{left_after}
use Rattle.proof_reports.specs.Below.hubs.SetupsWords.Wiring.{Wiring}
use Rattle.proof_reports.specs.Below.machine.Cycles.{CycleRun, line_of}
use Rattle.proof_reports.specs.Below.machine.Feeds.{due_in, taken}
use Rattle.proof_reports.specs.Below.machine.Machine.{MachineState}
use Rattle.proof_reports.specs.Below.net.declared.cycle.Cycle.{Cycle}
use Rattle.proof_reports.proofs.WiredPanels.CycleAsks.LinePlaces.BodyLines.{body-placed}
use Rattle.proof_reports.proofs.WiredPanels.CycleAsks.LinePlaces.UnprintedKinds.{unprinted-stays}
use Rattle.proof_reports.specs.WiredPanels.CycleAsks.LinePlaces.CarriageCycles.{carriage_after, line_at}
use Rattle.proof_reports.specs.WiredPanels.CycleAsks.LinePlaces.FormFacts.{HasGoodForm}
use Rattle.proof_reports.specs.WiredPanels.CycleAsks.LinePlaces.Placing.{IsCarriageOf, IsAt, asked_of, kind_of, prints_kind}
use Rattle.report_definition.specs.Places.{BodyText, Left, page_of, line_below, left_by, headed, placed}
use Rattle.proof_reports.proofs.PrintedReports.Headings.{IsReadyFor}
use Rattle.proof_reports.proofs.PrintedReports.Steps.{fed_with, GoesFrom, stepped}

-- the body lines of a kind with a text: one, or none where the kind is not printed
abbrev pub bodies_for : Chart → ℕ → List ℕ → List BodyText
bodies_for chart kind text = if prints_kind chart.lines kind then record { kind = kind; text = text } ∷ [] else []

-- The cycle of a kind of body line ran in a feed: the machine before it, which holds the same content, the one after it, and the lines.
pub record BodyRan (chart : Chart) (wiring : Wiring) (Content : MachineState → Type 0) (cycle : Cycle) (kind : ℕ) (left : Left)
    (waits : Bool) (next : Option (List ℕ)) (old new : MachineState) (lines : List PlacedLine) : Type 0 where
  pub machine : MachineState
  pub mid : MachineState
  pub others : List PlacedLine
  pub content : Content machine
  pub stations : machine.stations ≡ old.stations
  pub printing : machine.program.printing ≡ old.program.printing
  pub highest : machine.program.highest ≡ old.program.highest
  pub ran : CycleRun wiring cycle (taken cycle (fed_with machine waits next)).machine mid
  pub goes : GoesFrom wiring (fed_with mid (taken cycle (fed_with machine waits next)).waits next) new others
  pub placed_so :
      (text : List ℕ) → mid.carriage ≡ carriage_after machine.carriage (asked_of chart.lines kind) cycle
      → (prints_kind chart.lines kind ≡ true → mid.wheels.line ≡ text)
      → (lines ≡ placed chart.lines left (bodies_for chart kind text) ++ others)
      × IsAt chart.lines (left_after chart.lines left (bodies_for chart kind text)) mid.carriage.spot
      × IsCarriageOf chart.lines mid.carriage

-- the cycle runs where its kind is printed
pub printed_ran :
    (chart : Chart) (wiring : Wiring) (Content : MachineState → Type 0) (cycle : Cycle) (kind : ℕ) (left : Left) (waits : Bool)
    (next : Option (List ℕ)) (old new : MachineState) (lines : List PlacedLine)
    → HasGoodForm chart.lines → kind_of cycle ≡ Some kind → prints_kind chart.lines kind ≡ true
    → IsReadyFor chart wiring Content cycle left waits next old new lines
    → BodyRan chart wiring Content cycle kind left waits next old new lines
printed_ran chart wiring Content cycle kind left waits next old new lines good is_kind printed ready =
    let step = stepped wiring cycle (fed_with ready.machine waits next) new ready.others ready.is_due ready.goes in
    record {
      machine = ready.machine;
      mid = step.mid;
      others = step.others;
      content = ready.content;
      stations = ready.stations;
      printing = ready.printing;
      highest = ready.highest;
      ran = step.ran;
      goes = step.goes;
      placed_so = λ text is_carriage is_text.
          let done = body-placed chart.lines left ready.machine.carriage cycle kind good ready.carriage ready.ready is_kind printed in
          let bodies : bodies_for chart kind text ≡ record { kind = kind; text = text } ∷ []
          = ap (λ (b : Bool). if b then record { kind = kind; text = text } ∷ [] else []) printed in
          let line : line_of step.mid ≡ record { page = page_of left; line = line_below chart.lines left.line kind; text = text } ∷ []
          = ap (λ c. line_at c.printed step.mid.wheels.line) is_carriage
          ∙ ap (λ (p : Option (ℕ × ℕ)). line_at p step.mid.wheels.line) done.place
          ∙ ap (λ (t : List ℕ). record { page = page_of left; line = line_below chart.lines left.line kind; text = t } ∷ [])
          (is_text printed) in
          let P : List BodyText → Type 0 = λ b. (lines ≡ placed chart.lines left b ++ step.others)
          × IsAt chart.lines (left_after chart.lines left b) step.mid.carriage.spot
          × IsCarriageOf chart.lines step.mid.carriage in
          subst P (sym bodies) (
            ready.is_lines
                ∙ ap (λ l. headed chart.lines left ++ l) (step.is_lines ∙ ap (λ l. l ++ step.others) line)
                ∙ joined (headed chart.lines left)
                (record { page = page_of left; line = line_below chart.lines left.line kind; text = text }) step.others,
            subst (λ c. IsAt chart.lines (left_by chart.lines left kind) c.spot) (sym is_carriage) done.stands,
            subst (λ c. IsCarriageOf chart.lines c) (sym is_carriage) done.keeps,
          );
    }
  where
    joined : (a : List PlacedLine) (b : PlacedLine) (rest : List PlacedLine) → a ++ ((b ∷ []) ++ rest) ≡ (a ++ (b ∷ [])) ++ rest
    joined [] b rest = refl
    joined (x ∷ xs) b rest = ap (λ l. x ∷ l) (joined xs b rest)

-- the cycle runs at once where its kind is not printed
pub silent_ran :
    (chart : Chart) (wiring : Wiring) (Content : MachineState → Type 0) (cycle : Cycle) (kind : ℕ) (left : Left) (waits : Bool)
    (next : Option (List ℕ)) (old new : MachineState) (lines : List PlacedLine)
    → IsLawful chart → kind_of cycle ≡ Some kind → prints_kind chart.lines kind ≡ false
    → Content old → IsCarriageOf chart.lines old.carriage → IsAt chart.lines left old.carriage.spot
    → due_in (fed_with old waits next) ≡ Some cycle → GoesFrom wiring (fed_with old waits next) new lines
    → BodyRan chart wiring Content cycle kind left waits next old new lines
silent_ran chart wiring Content cycle kind left waits next old new lines lawful is_kind silent content is at is_due goes =
    let step = stepped wiring cycle (fed_with old waits next) new lines is_due goes in
    record {
      machine = old;
      mid = step.mid;
      others = step.others;
      content = content;
      stations = refl;
      printing = refl;
      highest = refl;
      ran = step.ran;
      goes = step.goes;
      placed_so = λ text is_carriage is_text.
          let stays = is_carriage ∙ unprinted-stays chart old.carriage cycle kind lawful is is_kind silent in
          let bodies : bodies_for chart kind text ≡ []
          = ap (λ (b : Bool). if b then record { kind = kind; text = text } ∷ [] else []) silent in
          let line : line_of step.mid ≡ [] = ap (λ c. line_at c.printed step.mid.wheels.line) stays in
          let P : List BodyText → Type 0 = λ b. (lines ≡ placed chart.lines left b ++ step.others)
          × IsAt chart.lines (left_after chart.lines left b) step.mid.carriage.spot
          × IsCarriageOf chart.lines step.mid.carriage in
          subst P (sym bodies) (
            step.is_lines ∙ ap (λ l. l ++ step.others) line,
            subst (λ c. IsAt chart.lines left c.spot) (sym stays) at,
            subst (λ c. IsCarriageOf chart.lines c) (sym stays) (record { form = is.form; printing = is.printing }),
          );
    }
