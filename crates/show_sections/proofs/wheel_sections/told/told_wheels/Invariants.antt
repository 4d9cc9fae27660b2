use Rattle.std.specs.Prelude.{[], take}
use Rattle.show_sections.specs.WheelSections.Helper.{GainsTold}
use Rattle.show_sections.specs.WheelSections.ToldWheels.{printed_places}
use Rattle.show_sections.proofs.wheel_sections.told.told_wheels.Given as goal

-- the lines so far are told of
abbrev pub invariant-loop-place : goal.invariant-loop-place
invariant-loop-place l = GainsTold l.setup l.asked l.cards (printed_places (take l.place l.lines)) [] l.told.items
