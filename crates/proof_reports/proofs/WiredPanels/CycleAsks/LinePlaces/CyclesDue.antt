-- Which cycle is due between cards, after a level, and within one.
use Rattle.std.proofs.Common.{◌≡◌, ℕ, ◌+◌, ◌≤◌, ◌&&◌, ◌||◌, not, Bool, true, false, List, Option, Some, None, refl, ap, ◌∙◌, arith, if◌then◌else◌}
use Rattle.std.proofs.lemmas.Bool.Decides.{nat_tests}
use Rattle.carriage.specs.Below.net.Cycles.{level_number}
use Rattle.carriage.specs.Below.net.Printing.{prints}
use Rattle.carriage.specs.Below.net.declared.cycle.Cycle.{Cycle}
use Rattle.carriage.specs.Below.net.declared.cycle.Cycle.TheVariants.{Card, Prog, Head}
use Rattle.carriage.specs.Below.net.declared.cycle.ProgramLevel.{ProgramLevel}
use Rattle.carriage.specs.Below.net.declared.cycle.ProgramLevel.TheVariants.{Minor, Final}
use Rattle.carriage.specs.Below.net.declared.cycle.Ordinal.{Ordinal}
use Rattle.carriage.specs.Below.net.declared.cycle.Ordinal.TheVariants.{First, Second, Third}
use Rattle.carriage.specs.Below.net.declared.printing.Printing.{Printing}
use Rattle.carriage.specs.declared.spot.Spot.{Spot}
use Rattle.program_unit.specs.CycleOrder.{levels_to, level_above, top_level, has_level_left, headed, after_heading, cycle_after, is_over_at, card_over}
use Rattle.program_unit.specs.Program.{ProgramState, stage_ended}
use Rattle.program_unit.specs.declared.stage.Stage.{Stage}
use Rattle.program_unit.specs.declared.stage.Stage.TheVariants.{RanIn, RanCard, RanProg, BeforeCard, BeforeTotal}
use Rattle.report_definition.specs.Below.chart_lines.declared.charts.chart.Line.{Line}
use Rattle.report_definition.specs.Places.{Left}
use Rattle.proof_reports.specs.WiredPanels.CycleAsks.LinePlaces.Placing.{IsOnLine, IsAt}
use Rattle.proof_reports.specs.WiredPanels.CycleAsks.LinePlaces.CarriageCycles.{begun_by}
use Rattle.proof_reports.proofs.WiredPanels.CycleAsks.LinePlaces.DueCycles.{due, is_between, stage_after}

-- the first heading cycle comes in the place of a printing cycle where its line starts a page
pub headings-come : (lines : List Line) (left : Left) (spot : Spot) (printing : Printing) (cycle : Cycle) → IsAt lines left spot
    → prints printing cycle ≡ true → headed printing spot.latch cycle ≡ begun_by left.line cycle
headings-come lines left spot printing cycle at printed =
    ap (λ (b : Bool). if b && spot.latch then Head First else cycle) printed ∙ by left.line at.line
  where
    by : (o : Option ℕ) → IsOnLine lines o spot → (if spot.latch then Head First else cycle) ≡ begun_by o cycle
    by None is = ap (λ (b : Bool). if b then Head First else cycle) is
    by (Some line) is = ap (λ (b : Bool). if b then Head First else cycle) (is.0)

-- no heading cycle comes in the place of another cycle
pub others-come : (printing : Printing) (restore : Bool) (cycle : Cycle) → prints printing cycle ≡ false
    → headed printing restore cycle ≡ cycle
others-come printing restore cycle quiet = ap (λ (b : Bool). if b && restore then Head First else cycle) quiet

-- where no level is left the card cycle comes
none-left : {X : Type 0} (left : Bool) (level card : X) → not left ≡ true → (if left then level else card) ≡ card
none-left true level card none = cc
none-left false level card none = refl

-- between cards the card cycle of a waiting card follows
card-follows : (program : ProgramState) (stage : Stage) (restore : Bool) → is_between stage ≡ true
    → is_over_at program stage true ≡ true
    → cycle_after program stage restore true ≡ Some (headed program.printing restore Card)
card-follows program RanIn restore between over = refl
card-follows program RanCard restore between over =
    none-left (has_level_left program None true) (Some (Prog Minor First)) (Some (headed program.printing restore Card)) over
card-follows program (RanProg level Third) restore between over =
    none-left (has_level_left program (Some level) true) (Some (Prog (level_above (Some level)) First)) (Some (headed program.printing restore Card)) over
card-follows program other restore between over = cc

-- after heading cycles that come there the card waits on
card-waits : (stage : Stage) → is_between stage ≡ true → stage_ended stage (Head First) ≡ BeforeCard First
card-waits RanIn between = refl
card-waits RanCard between = refl
card-waits (RanProg level Third) between = refl
card-waits other between = cc

-- which cycle is due at a stage
abbrev due_at : ProgramState → Stage → Bool → Bool → Bool → Option Cycle
due_at program stage waits restore more =
    if waits || not (is_over_at program stage more) then cycle_after program stage restore more else None

-- the card cycle is due between cards
pub cards-due : (program : ProgramState) (restore : Bool) → is_between program.stage ≡ true → card_over program true ≡ true
    → (due program true restore true ≡ Some (headed program.printing restore Card))
    × (stage_ended program.stage (Head First) ≡ BeforeCard First)
cards-due program restore between over =
    (card-follows program program.stage restore between over, card-waits program.stage between)

-- a card waits after its heading cycles
pub cards-wait : (program : ProgramState) (heading : Ordinal) (restore more : Bool) → program.stage ≡ BeforeCard heading
    → due program true restore more ≡ Some (after_heading heading Card)
cards-wait program heading restore more is = ap (λ s. due_at program s true restore more) is

-- what is due where a level is left, and where none is
level-left : {X : Type 0} (left : Bool) (level card : Option X)
    → (if not (not left) then (if left then level else card) else None) ≡ (if left then level else None)
level-left true level card = refl
level-left false level card = refl

-- the first cycle of the next level is due after the card cycle or a level
levels-at : (program : ProgramState) (done : Option ProgramLevel) (restore more : Bool)
    → (due_at program (stage_after done) false restore more ≡ (if has_level_left program done more then Some (Prog (level_above done) First) else None))
    × (is_over_at program (stage_after done) more ≡ not (has_level_left program done more))
levels-at program None restore more =
    (level-left (has_level_left program None more) (Some (Prog Minor First)) (if more then Some (headed program.printing restore Card) else None), refl)
levels-at program (Some level) restore more =
    (level-left (has_level_left program (Some level) more) (Some (Prog (level_above (Some level)) First)) (if more then Some (headed program.printing restore Card) else None), refl)

pub levels-due : (program : ProgramState) (done : Option ProgramLevel) (restore more : Bool) → program.stage ≡ stage_after done
    → (due program false restore more ≡ (if has_level_left program done more then Some (Prog (level_above done) First) else None))
    × (card_over program more ≡ not (has_level_left program done more))
levels-due program done restore more is =
    let at = levels-at program done restore more in
    (ap (λ s. due_at program s false restore more) is ∙ at.0, ap (λ s. is_over_at program s more) is ∙ at.1)

-- no more than four levels run
levels-few : (top : Option ProgramLevel) → levels_to top ≤ 4
levels-few None = omega arith
levels-few (Some Minor) = omega arith
levels-few other = omega arith

-- the level that is left is the one above
pub levels-rise : (program : ProgramState) (done : Option ProgramLevel) (more : Bool) → has_level_left program done more ≡ true
    → level_number (level_above done) ≡ levels_to done + 1
levels-rise program (Some Final) more is_left =
    let few = levels-few (top_level program more) in absurd (grind (arith, nat_tests, is_left, few))
levels-rise program other more is_left = refl

-- a cycle that is due whether a card waits or not
due-anyway : {X : Type 0} (waits : Bool) (next : Option X) → (if waits || true then next else None) ≡ next
due-anyway true next = refl
due-anyway false next = refl

-- the second cycle of a level is due after the first
pub seconds-due : (program : ProgramState) (level : ProgramLevel) (waits restore more : Bool) → program.stage ≡ RanProg level First
    → due program waits restore more ≡ Some (Prog level Second)
seconds-due program level waits restore more is =
    ap (λ s. due_at program s waits restore more) is ∙ due-anyway waits (Some (Prog level Second))

-- the third cycle of a level is due after the second
pub thirds-due : (program : ProgramState) (level : ProgramLevel) (waits restore more : Bool) → program.stage ≡ RanProg level Second
    → (due program waits restore more ≡ Some (headed program.printing restore (Prog level Third)))
    × (stage_ended program.stage (Head First) ≡ BeforeTotal level First)
thirds-due program level waits restore more is = (
  ap (λ s. due_at program s waits restore more) is ∙ due-anyway waits (Some (headed program.printing restore (Prog level Third))),
  ap (λ s. stage_ended s (Head First)) is,
)

-- a total waits after its heading cycles
pub totals-wait : (program : ProgramState) (level : ProgramLevel) (heading : Ordinal) (waits restore more : Bool)
    → program.stage ≡ BeforeTotal level heading
    → due program waits restore more ≡ Some (after_heading heading (Prog level Third))
totals-wait program level heading waits restore more is =
    ap (λ s. due_at program s waits restore more) is ∙ due-anyway waits (Some (after_heading heading (Prog level Third)))
