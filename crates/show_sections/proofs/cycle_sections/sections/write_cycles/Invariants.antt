use Rattle.std.specs.Prelude.{◌≡◌, ◌+◌, ◌++◌, length}
use Rattle.std.specs.String.{string_bytes}
use Rattle.card_code.specs.Lines.{lines_of}
use Rattle.show_sections.specs.CycleSections.Sections.{cycles_text, sections_text}
use Rattle.show_sections.proofs.cycle_sections.sections.write_cycles.Given as goal

-- the elements so far, and those of the lines that are left
abbrev pub invariant-loop-line : goal.invariant-loop-line
invariant-loop-line l = record {
  written : string_bytes l.text ++ sections_text l.number l.first l.shown l.all (lines_of l.rest)
      ≡ string_bytes l.initial.text ++ cycles_text l.before l.all l.part;
  numbered : l.number + length (lines_of l.rest) ≡ l.before + length (lines_of l.part) + 1;
}

abbrev pub decreases-loop-line : goal.decreases-loop-line
decreases-loop-line l = length l.rest
