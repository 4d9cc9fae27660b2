-- The program unit. It tells of a cycle at its control point: CC of card cycles, PX of a level's program cycles, HX of the
-- heading cycles. At the closing point of card cycles it senses which levels are called for, by their hubs ST. It keeps
-- how far the card has come.
use Rattle.std.specs.Prelude.{ℕ, Bool, false, Option, Some, None, if◌then◌else◌}
use Rattle.hubs.specs.SetupsWords.Wiring.{Wiring}
use Rattle.hubs.specs.declared.hub.Hub.{Hub}
use Rattle.hubs.specs.declared.hub.Hub.TheVariants.{ST}
use Rattle.net.specs.Printing.{printing_of}
pub use Rattle.net.specs.Tells.{tells}
use Rattle.net.specs.declared.cycle.Cycle.{Cycle}
use Rattle.net.specs.declared.cycle.Cycle.TheVariants.{RunIn, Card, Prog, Head}
use Rattle.net.specs.declared.cycle.ProgramLevel.{ProgramLevel}
use Rattle.net.specs.declared.cycle.ProgramLevel.TheVariants.{Minor, Intermediate, Major}
use Rattle.net.specs.declared.cycle.Ordinal.{Ordinal}
use Rattle.net.specs.declared.cycle.Ordinal.TheVariants.{Second}
use Rattle.net.specs.declared.cycle.Point.{Point}
use Rattle.net.specs.declared.cycle.Point.TheVariants.{C, Row, K}
use Rattle.net.specs.declared.printing.Printing.{Printing}
use Rattle.program_unit.specs.declared.stage.Stage.{Stage}
use Rattle.program_unit.specs.declared.stage.Stage.TheVariants.{Fresh, RanIn, RanCard, RanProg, BeforeCard, BeforeTotal}

-- What the program unit keeps: which cycles print, how far the card has come, and the highest level called for at the card
-- cycle that ran last, if any was.
pub record ProgramState : Type 0 where
  pub printing : Printing
  pub stage : Stage
  pub highest : Option ProgramLevel

-- its number among the units
abbrev pub program_number : ProgramState → ℕ
program_number program = 45

-- at the start no cycle has run
abbrev pub program_at_start : Wiring → ProgramState
program_at_start wiring = record { printing = printing_of wiring; stage = Fresh; highest = None }

-- it emits that exit at the control point
abbrev pub program_emits : ProgramState → Cycle → Point → Hub → Bool
program_emits program cycle C hub = tells cycle hub
program_emits program cycle (Row row) hub = false
program_emits program cycle K hub = false

-- the highest level that is called for
abbrev pub called_for : (Hub → Bool) → Option ProgramLevel
called_for picture =
    if picture (ST 3)
    then Some Major
    else if picture (ST 2) then Some Intermediate else if picture (ST 1) then Some Minor else None

-- it senses at the closing point of card cycles alone
abbrev pub program_sensed : ProgramState → Cycle → Point → (Hub → Bool) → ProgramState
program_sensed program Card K picture = record program { highest = called_for picture }
program_sensed program cycle point picture = program

-- the stage at the end of a heading cycle: what waits is the third program cycle after the second, else a card cycle
abbrev pub waiting : Stage → Ordinal → Stage
waiting (RanProg level Second) heading = BeforeTotal level heading
waiting (BeforeTotal level before) heading = BeforeTotal level heading
waiting stage heading = BeforeCard heading

-- the stage at the end of a cycle
abbrev pub stage_ended : Stage → Cycle → Stage
stage_ended stage RunIn = RanIn
stage_ended stage Card = RanCard
stage_ended stage (Prog level ordinal) = RanProg level ordinal
stage_ended stage (Head heading) = waiting stage heading

-- at the end of a cycle the card has come further
abbrev pub program_ended : ProgramState → Cycle → ProgramState
program_ended program cycle = record program { stage = stage_ended program.stage cycle }
