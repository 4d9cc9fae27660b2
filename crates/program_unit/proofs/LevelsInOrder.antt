-- The program cycles of the levels that run with a card, one after the other.
use Rattle.std.proofs.Common.{◌≡◌, Bool, true, false, ◌&&◌, List, [], ◌∷◌, Option, Some, None, if◌then◌else◌, flat_map, take, refl}
use Rattle.net.specs.Printing.{prints}
use Rattle.net.specs.declared.cycle.Cycle.{Cycle}
use Rattle.net.specs.declared.cycle.Cycle.TheVariants.{Card, Prog, Head}
use Rattle.net.specs.declared.cycle.ProgramLevel.{ProgramLevel}
use Rattle.net.specs.declared.cycle.ProgramLevel.TheVariants.{Minor, Intermediate, Major, Final}
use Rattle.net.specs.declared.cycle.Ordinal.TheVariants.{First, Third}
use Rattle.net.specs.declared.printing.Printing.{Printing}
use Rattle.program_unit.specs.CycleOrder.{cycle_after, headed, levels_to}
use Rattle.program_unit.specs.Laws.{AreNext, LevelsRunInOrder, levels, program_cycles}
use Rattle.program_unit.specs.Program.{called_for}
use Rattle.program_unit.specs.declared.stage.Stage.{Stage}
use Rattle.program_unit.specs.declared.stage.Stage.TheVariants.{RanCard, RanProg}

-- with the restore latch reset no heading cycle comes
reset : (printing : Printing) (cycle : Cycle) → ◌≡◌ {A = Option Cycle} (Some (headed printing false cycle)) (Some cycle)
reset printing cycle = by (prints printing cycle)
  where
    by : (p : Bool) → ◌≡◌ {A = Option Cycle} (Some (if p && false then Head First else cycle)) (Some cycle)
    by true = refl
    by false = refl

module _ (printing : Printing) (highest : Option ProgramLevel) (more : Bool) (last : Option Cycle) where
  -- what follows where these levels are left
  abbrev Follow : Stage → List ProgramLevel → Type 0
  Follow stage left =
      AreNext (record { printing = printing; stage = stage; highest = highest }) more (flat_map program_cycles left) last

  -- the three cycles of a level, and then what follows them
  three : (stage : Stage) (level : ProgramLevel) (left : List ProgramLevel)
      → cycle_after (record { printing = printing; stage = stage; highest = highest }) stage false more ≡ Some (Prog level First)
      → Follow (RanProg level Third) left → Follow stage (level ∷ left)
  three stage level left first after = (first, (refl, (reset printing (Prog level Third), after)))

-- after a card cycle, by the highest level that runs with the card
levels-next : (printing : Printing) (more : Bool) (highest : Option ProgramLevel)
    → Follow printing highest more (if more then Some Card else None) RanCard
    (take (levels_to (if more then highest else Some Final)) levels)
levels-next printing true None = reset printing Card
levels-next printing true (Some Minor) =
    three printing (Some Minor) true (Some Card) RanCard Minor [] refl (reset printing Card)
levels-next printing true (Some Intermediate) =
    three printing (Some Intermediate) true (Some Card) RanCard Minor (Intermediate ∷ []) refl
    (three printing (Some Intermediate) true (Some Card) (RanProg Minor Third) Intermediate [] refl (reset printing Card))
levels-next printing true (Some Major) =
    three printing (Some Major) true (Some Card) RanCard Minor (Intermediate ∷ Major ∷ []) refl
    (three printing (Some Major) true (Some Card) (RanProg Minor Third) Intermediate (Major ∷ []) refl
    (three printing (Some Major) true (Some Card) (RanProg Intermediate Third) Major [] refl (reset printing Card)))
levels-next printing true (Some Final) =
    three printing (Some Final) true (Some Card) RanCard Minor (Intermediate ∷ Major ∷ Final ∷ []) refl
    (three printing (Some Final) true (Some Card) (RanProg Minor Third) Intermediate (Major ∷ Final ∷ []) refl
    (three printing (Some Final) true (Some Card) (RanProg Intermediate Third) Major (Final ∷ []) refl
    (three printing (Some Final) true (Some Card) (RanProg Major Third) Final [] refl (reset printing Card))))
levels-next printing false highest =
    three printing highest false None RanCard Minor (Intermediate ∷ Major ∷ Final ∷ []) refl
    (three printing highest false None (RanProg Minor Third) Intermediate (Major ∷ Final ∷ []) refl
    (three printing highest false None (RanProg Intermediate Third) Major (Final ∷ []) refl
    (three printing highest false None (RanProg Major Third) Final [] refl refl)))

pub levels-in_order : LevelsRunInOrder
levels-in_order program picture more = levels-next program.printing more (called_for picture)
