-- Cycles as the carriage ends them, one after another, and the lines that they place.
use Rattle.std.specs.Prelude.{ℕ, List, [], ◌∷◌, ◌++◌, Option, Some, None, Bool, true, false, if◌then◌else◌}
use Rattle.carriage.specs.Below.net.declared.cycle.Cycle.{Cycle}
use Rattle.carriage.specs.Below.net.declared.cycle.Cycle.TheVariants.{RunIn, Card, Prog, Head}
use Rattle.carriage.specs.Below.net.declared.cycle.Ordinal.TheVariants.{First, Second, Third}
use Rattle.carriage.specs.Asked.{nothing_asked}
use Rattle.carriage.specs.Carriage.{CarriageState, carriage_ended}
use Rattle.carriage.specs.declared.asked.Asked.{Asked}
pub use Rattle.report_definition.specs.Below.page_text.PlacedLines.Lines.{line_at}
use Rattle.report_definition.specs.Below.page_text.declared.placed_lines.placed_line.PlacedLine.{PlacedLine}
use Rattle.report_definition.specs.Below.chart_lines.declared.charts.chart.Line.{Line}
use Rattle.proof_reports.specs.WiredPanels.CycleAsks.LinePlaces.Placing.{asked_of}

-- A cycle at its end: what the carriage was asked for, and the line on the print wheels.
pub record CarriageCycle : Type 0 where
  pub cycle : Cycle
  pub asked : Asked
  pub text : List ℕ

-- the carriage after a cycle in which it was asked for something
abbrev pub carriage_after : CarriageState → Asked → Cycle → CarriageState
carriage_after carriage asked cycle = carriage_ended (record carriage { asked = asked }) cycle

-- the carriage after some cycles
abbrev pub carriage_after_all : CarriageState → List CarriageCycle → CarriageState
carriage_after_all carriage [] = carriage
carriage_after_all carriage (each ∷ others) = carriage_after_all (carriage_after carriage each.asked each.cycle) others

-- the lines that some cycles place
abbrev pub lines_placed : CarriageState → List CarriageCycle → List PlacedLine
lines_placed carriage [] = []
lines_placed carriage (each ∷ others) =
    line_at (carriage_after carriage each.asked each.cycle).printed each.text
    ++ lines_placed (carriage_after carriage each.asked each.cycle) others

-- the three heading cycles, in which nothing is asked for, and on the wheels the texts with their numbers
abbrev pub heading_cycles : (ℕ → List ℕ) → List CarriageCycle
heading_cycles texts =
    record { cycle = Head First; asked = nothing_asked; text = texts 1 }
    ∷ record { cycle = Head Second; asked = nothing_asked; text = texts 2 }
    ∷ record { cycle = Head Third; asked = nothing_asked; text = texts 3 }
    ∷ []

-- the cycle that prints a body line of a kind, and before it the heading cycles where the restore latch is set
abbrev pub cycles_for : List Line → Bool → (ℕ → List ℕ) → Cycle → ℕ → List ℕ → List CarriageCycle
cycles_for lines latch texts cycle kind text =
    (if latch then heading_cycles texts else [])
    ++ (record { cycle = cycle; asked = asked_of lines kind; text = text } ∷ [])

-- whether a cycle begins a page: the first heading cycle does
abbrev pub begins_page : Cycle → Bool
begins_page RunIn = false
begins_page Card = false
begins_page (Prog level ordinal) = false
begins_page (Head First) = true
begins_page (Head Second) = false
begins_page (Head Third) = false

-- the cycle that comes where a printing cycle is due: the first heading cycle where its line starts a page
abbrev pub begun_by : Option ℕ → Cycle → Cycle
begun_by None cycle = Head First
begun_by (Some line) cycle = cycle
