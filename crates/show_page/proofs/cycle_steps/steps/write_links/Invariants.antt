use Rattle.std.specs.Prelude.{◌≡◌, ◌++◌, take}
use Rattle.std.specs.List.{flat_map}
use Rattle.std.specs.String.{string_bytes}
use Rattle.show_page.specs.CycleSteps.Steps.{step_link}
use Rattle.show_page.proofs.cycle_steps.steps.write_links.Given as goal

-- the links so far are written
abbrev pub invariant-loop-one : goal.invariant-loop-one
invariant-loop-one l = string_bytes l.text ≡ string_bytes l.initial.text ++ flat_map step_link (take l.one-index l.found)
