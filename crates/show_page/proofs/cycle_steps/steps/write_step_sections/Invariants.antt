use Rattle.std.specs.Prelude.{take}
use Rattle.std.specs.String.{string_bytes}
use Rattle.show_drawings.specs.MarkupWords.Pieces.{GainsEach}
use Rattle.show_page.specs.CycleSteps.Steps.{IsStepSection}
use Rattle.show_page.proofs.cycle_steps.steps.write_step_sections.Given as goal

-- the elements so far are written
abbrev pub invariant-loop-one : goal.invariant-loop-one
invariant-loop-one l =
    GainsEach (IsStepSection l.setup l.wires) (take l.one-index l.found) (string_bytes l.initial.text) (string_bytes l.text)
