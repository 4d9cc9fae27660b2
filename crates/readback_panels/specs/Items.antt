-- The items that a draft gains.
use Rattle.std.specs.Prelude.{◌≡◌, ◌++◌, All, List}
use Rattle.chart_lines.specs.declared.charts.statement.BodyLine.TheVariants.{Detail, Total}
use Rattle.chart_lines.specs.declared.charts.level.Level.{Level}
use Rattle.readback_panels.specs.declared.draft.Draft.{Draft}
use Rattle.readback_panels.specs.declared.draft.Item.{Item}
use Rattle.readback_panels.specs.declared.draft.PrintedLine.TheVariants.{Body}
use Rattle.readback_panels.specs.declared.draft.Said.{Said}
use Rattle.readback_panels.specs.declared.draft.Said.TheVariants.{Amount, Literal, Text}

-- a draft gains items, each of a kind
pub record Gains (IsOfKind : Item → Type 0) (old new : Draft) : Type 0 where
  pub more : List Item
  pub all : All IsOfKind more
  pub gained : new.items.items ≡ old.items.items ++ more

-- what an item puts on its line
abbrev pub IsText : Said → Type 0
IsText (Text field indicated) = Unit {0}
IsText (Amount field digits mark) = ⊥
IsText (Literal characters) = ⊥

abbrev pub IsAmount : Said → Type 0
IsAmount (Text field indicated) = ⊥
IsAmount (Amount field digits mark) = Unit {0}
IsAmount (Literal characters) = ⊥

abbrev pub IsCharacters : Said → Type 0
IsCharacters (Text field indicated) = ⊥
IsCharacters (Amount field digits mark) = ⊥
IsCharacters (Literal characters) = Unit {0}

-- an amount on the line of a card
pub record IsCardAmount (item : Item) : Type 0 where
  pub on : item.line ≡ Body Detail
  pub says : IsAmount item.said

-- a text on a total line
pub record IsTotalText (item : Item) : Type 0 where
  pub level : Level
  pub on : item.line ≡ Body (Total level)
  pub says : IsText item.said

-- a literal, on any line
abbrev pub IsLiteral : Item → Type 0
IsLiteral item = IsCharacters item.said
