use Rattle.std.specs.List.{flat_map, range_with_len}
use Rattle.show_sections.specs.WheelSections.Helper.{GainsTold}
use Rattle.show_sections.specs.WheelSections.ToldWheels.{printed_by}
use Rattle.show_sections.proofs.wheel_sections.told.push_wheels.Given as goal

-- the wheels so far are told of
abbrev pub invariant-loop-passed : goal.invariant-loop-passed
invariant-loop-passed l =
    GainsTold l.setup l.asked l.cards (flat_map (printed_by l.placed) (range_with_len 1 l.passed)) l.initial.told.items l.told.items
