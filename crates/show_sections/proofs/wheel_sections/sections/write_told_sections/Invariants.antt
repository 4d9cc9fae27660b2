use Rattle.std.specs.Prelude.{◌≡◌, ◌++◌, take}
use Rattle.std.specs.String.{string_bytes}
use Rattle.show_sections.specs.WheelSections.Sections.{told_sections}
use Rattle.show_sections.proofs.wheel_sections.sections.write_told_sections.Given as goal

-- the elements so far are written
abbrev pub invariant-loop-one : goal.invariant-loop-one
invariant-loop-one l = string_bytes l.text ≡ string_bytes l.initial.text ++ told_sections l.shown l.sums l.totals (take l.one-index l.told)
