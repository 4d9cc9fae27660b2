-- The order of cycles. The run-in comes first, and then for each card its card cycle with three program cycles for each
-- level that ends with it, from the lowest on: up to the highest level called for at the card cycle, or all four after the
-- last card. A printing card or program cycle that is due while the restore latch is set is preceded by the three heading
-- cycles, once.
use Rattle.std.specs.Prelude.{ℕ, ◌&&◌, not, nat_lt, Bool, true, false, Option, Some, None, if◌then◌else◌}
use Rattle.net.specs.Cycles.{level_number}
use Rattle.net.specs.Printing.{prints}
use Rattle.net.specs.declared.cycle.Cycle.{Cycle}
use Rattle.net.specs.declared.cycle.Cycle.TheVariants.{RunIn, Card, Prog, Head}
use Rattle.net.specs.declared.cycle.ProgramLevel.{ProgramLevel}
use Rattle.net.specs.declared.cycle.ProgramLevel.TheVariants.{Minor, Intermediate, Major, Final}
use Rattle.net.specs.declared.cycle.Ordinal.{Ordinal}
use Rattle.net.specs.declared.cycle.Ordinal.TheVariants.{First, Second, Third}
use Rattle.net.specs.declared.printing.Printing.{Printing}
use Rattle.program_unit.specs.Program.{ProgramState}
use Rattle.program_unit.specs.declared.stage.Stage.{Stage}
use Rattle.program_unit.specs.declared.stage.Stage.TheVariants.{Fresh, RanIn, RanCard, RanProg, BeforeCard, BeforeTotal}

-- whether no cycle has run
abbrev pub is_fresh : Stage → Bool
is_fresh Fresh = true
is_fresh stage = false

-- how many levels run up to this one; none runs without a level
abbrev pub levels_to : Option ProgramLevel → ℕ
levels_to None = 0
levels_to (Some level) = level_number level

-- the level that runs after another, the lowest after none; no level runs after the final one
abbrev pub level_above : Option ProgramLevel → ProgramLevel
level_above None = Minor
level_above (Some Minor) = Intermediate
level_above (Some Intermediate) = Major
level_above (Some Major) = Final
level_above (Some Final) = Final

-- the highest level that runs with a card: the highest called for, and after the last card the final one
abbrev pub top_level : ProgramState → Bool → Option ProgramLevel
top_level program more = if more then program.highest else Some Final

-- whether a level is still to run where these have run
abbrev pub has_level_left : ProgramState → Option ProgramLevel → Bool → Bool
has_level_left program done more = nat_lt (levels_to done) (levels_to (top_level program more))

-- a cycle is due: it runs, or the first heading cycle in its place, where it prints and the restore latch is set
abbrev pub headed : Printing → Bool → Cycle → Cycle
headed printing restore cycle = if prints printing cycle && restore then Head First else cycle

-- what follows a card's cycles where these levels have run: the next level, or the next card
abbrev pub after : ProgramState → Option ProgramLevel → Bool → Bool → Option Cycle
after program done restore more =
    if has_level_left program done more
    then Some (Prog (level_above done) First)
    else if more then Some (headed program.printing restore Card) else None

-- what follows a program cycle of a level
abbrev pub after_prog : ProgramState → ProgramLevel → Ordinal → Bool → Bool → Option Cycle
after_prog program level First restore more = Some (Prog level Second)
after_prog program level Second restore more = Some (headed program.printing restore (Prog level Third))
after_prog program level Third restore more = after program (Some level) restore more

-- what follows a heading cycle: the next one, and after the third the cycle that waits
abbrev pub after_heading : Ordinal → Cycle → Cycle
after_heading First waiting = Head Second
after_heading Second waiting = Head Third
after_heading Third waiting = waiting

-- which cycle follows a stage, if any: restore is the restore latch, and more says that a card stands at first reading
abbrev pub cycle_after : ProgramState → Stage → Bool → Bool → Option Cycle
cycle_after program Fresh restore more = if more then Some RunIn else None
cycle_after program RanIn restore more = Some (headed program.printing restore Card)
cycle_after program RanCard restore more = after program None restore more
cycle_after program (RanProg level ordinal) restore more = after_prog program level ordinal restore more
cycle_after program (BeforeCard heading) restore more = Some (after_heading heading Card)
cycle_after program (BeforeTotal level heading) restore more = Some (after_heading heading (Prog level Third))

-- which cycle follows, if any
abbrev pub next_cycle : ProgramState → Bool → Bool → Option Cycle
next_cycle program restore more = cycle_after program program.stage restore more

-- whether the cycles of a card are over at a stage: none is left, or none before the next card cycle and its heading cycles
abbrev pub is_over_at : ProgramState → Stage → Bool → Bool
is_over_at program Fresh more = not more
is_over_at program RanIn more = true
is_over_at program RanCard more = not (has_level_left program None more)
is_over_at program (RanProg level First) more = false
is_over_at program (RanProg level Second) more = false
is_over_at program (RanProg level Third) more = not (has_level_left program (Some level) more)
is_over_at program (BeforeCard heading) more = true
is_over_at program (BeforeTotal level heading) more = false

-- whether the cycles of a card are over
abbrev pub card_over : ProgramState → Bool → Bool
card_over program more = is_over_at program program.stage more
