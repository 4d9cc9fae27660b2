use Rattle.std.specs.Prelude.{◌≡◌, ◌++◌, take}
use Rattle.std.specs.List.{flat_map}
use Rattle.std.specs.String.{string_bytes}
use Rattle.show_sums.specs.SumSections.Sections.{section_text}
use Rattle.show_sums.proofs.sum_sections.sections.write_sum_sections.Given as goal

-- those so far are written
abbrev pub invariant-loop-sum : goal.invariant-loop-sum
invariant-loop-sum l =
    string_bytes l.text ≡ string_bytes l.initial.text ++ flat_map (section_text l.shown l.sums) (take l.sum-index l.sums)
