-- Laws of the order of cycles.
use Rattle.std.specs.Prelude.{◌≡◌, Bool, false, List, [], ◌∷◌, Option, Some, None, if◌then◌else◌, take, flat_map}
use Rattle.hubs.specs.declared.hub.Hub.{Hub}
use Rattle.net.specs.declared.cycle.Cycle.{Cycle}
use Rattle.net.specs.declared.cycle.Cycle.TheVariants.{Card, Prog, Head}
use Rattle.net.specs.declared.cycle.ProgramLevel.{ProgramLevel}
use Rattle.net.specs.declared.cycle.ProgramLevel.TheVariants.{Minor, Intermediate, Major, Final}
use Rattle.net.specs.declared.cycle.Ordinal.TheVariants.{First, Second, Third}
use Rattle.net.specs.declared.cycle.Point.TheVariants.{K}
use Rattle.program_unit.specs.CycleOrder.{levels_to, next_cycle}
use Rattle.program_unit.specs.Program.{ProgramState, called_for, program_ended, program_sensed}

-- the program unit after the first heading cycle, the second and the third
abbrev pub first_headed : ProgramState → ProgramState
first_headed program = program_ended program (Head First)

abbrev pub second_headed : ProgramState → ProgramState
second_headed program = program_ended (first_headed program) (Head Second)

abbrev pub third_headed : ProgramState → ProgramState
third_headed program = program_ended (second_headed program) (Head Third)

-- Where the first heading cycle follows, the second follows that, and the third the second. Then comes the cycle in whose
-- place they came. All this is so whatever the restore latch is by then.
abbrev pub HeadingsComeOnce : Type 0
HeadingsComeOnce =
    (program : ProgramState) (restore more by_then : Bool)
    → next_cycle program restore more ≡ Some (Head First)
    → (next_cycle (first_headed program) by_then more ≡ Some (Head Second))
    × (next_cycle (second_headed program) by_then more ≡ Some (Head Third))
    × (next_cycle (third_headed program) by_then more ≡ next_cycle program false more)

-- These cycles follow one after the other where the restore latch stays reset, and after them this one, or none.
abbrev pub AreNext : ProgramState → Bool → List Cycle → Option Cycle → Type 0
AreNext program more [] last = next_cycle program false more ≡ last
AreNext program more (cycle ∷ cycles) last =
    (next_cycle program false more ≡ Some cycle) × AreNext (program_ended program cycle) more cycles last

-- the program unit after a card cycle at whose closing point it sensed this picture
abbrev pub after_card : ProgramState → (Hub → Bool) → ProgramState
after_card program picture = program_ended (program_sensed program Card K picture) Card

-- the levels, from the lowest on
abbrev pub levels : List ProgramLevel
levels = Minor ∷ Intermediate ∷ Major ∷ Final ∷ []

-- the levels that run with a card: those up to the highest that is called for, and all four with the last card
abbrev pub levels_with : (Hub → Bool) → Bool → List ProgramLevel
levels_with picture more = take (levels_to (if more then called_for picture else Some Final)) levels

-- the three program cycles of a level
abbrev pub program_cycles : ProgramLevel → List Cycle
program_cycles level = Prog level First ∷ Prog level Second ∷ Prog level Third ∷ []

-- After a card cycle the three program cycles of each level that runs with the card follow, level by level from the lowest on, and then
-- the next card's cycle, or none after the last card.
abbrev pub LevelsRunInOrder : Type 0
LevelsRunInOrder =
    (program : ProgramState) (picture : Hub → Bool) (more : Bool)
    → AreNext (after_card program picture) more (flat_map program_cycles (levels_with picture more))
    (if more then Some Card else None)
