-- The cycles of the run on the page: an element for each that is shown.
use Rattle.std.specs.Prelude.{List, ℕ}
use Rattle.show_sections.specs.CycleSections.Sections.{cycles_text}
use Rattle.explain_words.specs.declared.traces.parts.TracePart.{TracePart}

-- the elements of the cycles of a part of the trace
abbrev pub shown_cycles : TracePart → List ℕ
shown_cycles part = cycles_text part.before part.all part.text.items
