use Rattle.std.specs.List.{range_with_len}
use Rattle.std.specs.String.{string_bytes}
use Rattle.show_drawings.specs.MarkupWords.Pieces.{GainsEach}
use Rattle.net.specs.Nets.{IsNetOf}
use Rattle.hubs.specs.SetupsWords.Wiring.{Wiring}
use Rattle.show_page.specs.CycleSteps.Steps.{IsStep}
use Rattle.show_page.proofs.cycle_steps.steps.write_steps.Given as goal

-- the steps so far are written
abbrev pub invariant-loop-passed : goal.invariant-loop-passed
invariant-loop-passed l =
    (wiring : Wiring) → IsNetOf wiring l.net
    → GainsEach (IsStep wiring l.points l.wires) (range_with_len 1 l.passed) (string_bytes l.initial.text) (string_bytes l.text)
