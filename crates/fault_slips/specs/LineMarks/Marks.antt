-- The line that marks a part of the line above it.
use Rattle.std.specs.Prelude.{ℕ, ◌==◌, ◌&&◌, Bool, List, [], ◌∷◌, ◌++◌, take, nat_le, slice_range, if◌then◌else◌}
use Rattle.std.specs.List.{flat_map}
use Rattle.fault_slips.specs.declared.line_marks.span.Span.{Span}

-- a byte that continues a character of several bytes, which takes no column of its own
abbrev pub continues : ℕ → Bool
continues byte = nat_le 128 byte && nat_le byte 191

-- what stands under a byte before the mark: a tab under a tab, and else a blank
abbrev pub under : ℕ → List ℕ
under byte = if continues byte then [] else if byte == 9 then 9 ∷ [] else 32 ∷ []

-- what stands under a byte that is marked: a caret
abbrev pub caret : ℕ → List ℕ
caret byte = if continues byte then [] else 94 ∷ []

-- the mark of a part of a line
abbrev pub mark_text : List ℕ → Span → List ℕ
mark_text line span = flat_map under (take span.start line) ++ flat_map caret (slice_range line span.start span.end)
