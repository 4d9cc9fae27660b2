-- Which cycle is due, as the cards' cycles go on.
use Rattle.std.specs.Prelude.{Bool, true, false, not, ◌||◌, Option, Some, None, if◌then◌else◌}
use Rattle.carriage.specs.Below.net.declared.cycle.Cycle.{Cycle}
use Rattle.carriage.specs.Below.net.declared.cycle.ProgramLevel.{ProgramLevel}
use Rattle.carriage.specs.Below.net.declared.cycle.Ordinal.TheVariants.{First, Second, Third}
use Rattle.program_unit.specs.CycleOrder.{next_cycle, card_over}
use Rattle.program_unit.specs.Program.{ProgramState}
use Rattle.program_unit.specs.declared.stage.Stage.{Stage}
use Rattle.program_unit.specs.declared.stage.Stage.TheVariants.{Fresh, RanIn, RanCard, RanProg, BeforeCard, BeforeTotal}

-- The cycle that is due, if any: waits says that a card waits for its card cycle. Without such a card none is due once the cycles of
-- the card are over.
abbrev pub due : ProgramState → (waits restore more : Bool) → Option Cycle
due program waits restore more = if waits || not (card_over program more) then next_cycle program restore more else None

-- whether a stage lies between cards, before heading cycles: after the run-in, a card cycle, or the third cycle of a level
abbrev pub is_between : Stage → Bool
is_between Fresh = false
is_between RanIn = true
is_between RanCard = true
is_between (RanProg level First) = false
is_between (RanProg level Second) = false
is_between (RanProg level Third) = true
is_between (BeforeCard heading) = false
is_between (BeforeTotal level heading) = false

-- the stage after the cycles of these levels: without a level, after the card cycle
abbrev pub stage_after : Option ProgramLevel → Stage
stage_after None = RanCard
stage_after (Some level) = RanProg level Third
