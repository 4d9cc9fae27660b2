-- The lines of a draft.
use Rattle.std.specs.Prelude.{◌≡◌, ◌++◌, ◌∷◌, [], ℕ, ◌<◌, All, List, length, Option, None, Some, codes}
use Rattle.hubs.specs.SetupsWords.Tapes.{CarriageTape}
use Rattle.readback_panels.specs.declared.draft.Draft.{Draft}
use Rattle.readback_panels.specs.declared.draft.Said.{Said}
use Rattle.readback_panels.specs.declared.draft.Said.TheVariants.{Amount, Literal, Text}
use Rattle.readback_panels.specs.declared.lines.DraftLine.{DraftLine}
use Rattle.readback_panels.specs.declared.lines.DraftLine.TheVariants as says

-- the field, the control field or the item of which the line speaks is there
abbrev pub IsOf : Draft → DraftLine → Type 0
IsOf draft (says.Field field) = field < length draft.fields.items
IsOf draft (says.Control control) = control < length draft.controls.items
IsOf draft (says.Item item) = item < length draft.items.items
IsOf draft (says.Print printing) = Unit {0}
IsOf draft (says.Blank line wheel) = Unit {0}
IsOf draft (says.Space line spacing) = Unit {0}
IsOf draft (says.After line action) = Unit {0}
IsOf draft (says.Tape channel) = Unit {0}
IsOf draft (says.Form lines first overflow) = Unit {0}

-- so it is for each line
abbrev pub AreOf : Draft → List DraftLine → Type 0
AreOf draft lines = All (IsOf draft) lines

-- the lines end with the form of a tape
abbrev pub EndsWithForm : CarriageTape → List DraftLine → Type 0
EndsWithForm tape lines = (before : List DraftLine) × (lines ≡ before ++ says.Form tape.lines tape.first tape.overflow ∷ [])

-- the place of the field of which an item puts something on its line, if it does
abbrev pub field_of : Said → Option ℕ
field_of (Text field indicated) = Some field
field_of (Amount field digits mark) = Some field
field_of (Literal characters) = None

-- a text of version 2 of the language, whatever stands between its first line and END
abbrev pub IsFramed : List ℕ → Type 0
IsFramed text = (body : List ℕ) × (text ≡ codes "CHART407 2\n" ++ body ++ codes "END\n")
