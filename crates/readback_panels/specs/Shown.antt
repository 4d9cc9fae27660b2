-- What the texts on the line of a card show: on each wheel a column.
use Rattle.std.specs.Prelude.{◌≡◌, ◌⊎◌, ℕ, ◌+◌, ◌<◌, ◌≤◌, true, false, Contains, IfSome, List, Option, None, Some, slice_get}
use Rattle.std.specs.List.{list_any}
use Rattle.chart_lines.specs.ChartsWords.Levels.{level_number}
use Rattle.chart_lines.specs.declared.charts.level.Level.{Level}
use Rattle.chart_lines.specs.declared.charts.statement.BodyLine.TheVariants.{Detail}
use Rattle.hubs.specs.declared.hub.Group.{Group}
use Rattle.hubs.specs.declared.hub.Hub.TheVariants as hub
use Rattle.readback_panels.specs.Lowest.{IsLowest}
use Rattle.readback_panels.specs.Zones.{IsInZone, has_wheel}
use Rattle.readback_panels.specs.declared.card_line.Cell.{Cell}
use Rattle.readback_panels.specs.declared.card_line.Run.{Run}
use Rattle.readback_panels.specs.declared.draft.Draft.{Draft}
use Rattle.readback_panels.specs.declared.draft.DraftField.{DraftField}
use Rattle.readback_panels.specs.declared.draft.Item.{Item}
use Rattle.readback_panels.specs.declared.draft.PrintedLine.TheVariants.{Body}
use Rattle.readback_panels.specs.declared.draft.Said.TheVariants.{Text}
use Rattle.readback_panels.specs.declared.hub_rows.HubRow.TheVariants as row
use Rattle.readback_panels.specs.declared.zones.Zone.{Zone}
use Rattle.hubs.specs.SetupsWords.Wiring.{HasWire, Wiring}

-- a counter group is read out by the third program cycle of a level, and its units lead to a wheel
pub record HasUnitsOn (setup : Wiring) (wheel : ℕ) : Type 0 where
  pub level : Level
  pub group : Group
  pub out : HasWire setup (hub.PX (level_number level) 3) (hub.RO group)
  pub units : HasWire setup (hub.GX group 1) (hub.W wheel)

-- the jacks show an amount on a wheel, or the units of a total stand there
abbrev pub IsAmountWheel : Wiring → ℕ → Type 0
IsAmountWheel setup wheel = IsInZone setup wheel ⊎ HasUnitsOn setup wheel

-- a zone has such wheels alone
abbrev pub IsAmountZone : Wiring → Zone → Type 0
IsAmountZone setup zone = (wheel : ℕ) → has_wheel wheel zone ≡ true → IsAmountWheel setup wheel

-- a column at second reading leads to a wheel, and none below it does
abbrev pub IsColumnOn : Wiring → (wheel column : ℕ) → Type 0
IsColumnOn setup wheel column = IsLowest row.Second (λ number. HasWire setup (hub.SR number) (hub.W wheel)) column

-- what is found on a wheel is this column, on each card
pub record IsPlainCell (found : Option Cell) (column : ℕ) : Type 0 where
  pub cell : Cell
  pub is : found ≡ Some cell
  pub column_is : cell.column ≡ column
  pub plain : cell.level ≡ None

-- the field at a place has these columns
pub record HasColumns (draft : Draft) (place first last : ℕ) : Type 0 where
  pub its : DraftField
  pub at : slice_get draft.fields.items place ≡ Some its
  pub first_is : its.first ≡ first
  pub last_is : its.last ≡ last

-- fields that a draft has keep their places
abbrev pub KeepsFields : Draft → Draft → Type 0
KeepsFields old new =
    (place : ℕ) (its : DraftField) → slice_get old.fields.items place ≡ Some its → slice_get new.fields.items place ≡ Some its

-- A text on the line of a card shows a column on a wheel, on each card: its field has as many columns as the text has wheels, and the
-- column is as far behind the first as the wheel.
pub record ShowsColumn (draft : Draft) (wheel column : ℕ) : Type 0 where
  pub item : Item
  pub listed : Contains draft.items.items item
  pub on : item.line ≡ Body Detail
  pub from : item.first ≤ wheel
  pub to : wheel ≤ item.last
  pub field : ℕ
  pub says : item.said ≡ Text field None
  pub its : DraftField
  pub at : slice_get draft.fields.items field ≡ Some its
  pub wide : its.first + item.last ≡ its.last + item.first
  pub column_is : its.first + wheel ≡ column + item.first

-- what is shown stays so
abbrev pub KeepsShown : Draft → Draft → Type 0
KeepsShown old new = (wheel column : ℕ) → ShowsColumn old wheel column → ShowsColumn new wheel column

-- a run has as many columns as wheels
pub record IsStraight (run : Run) : Type 0 where
  pub ordered : run.wheel ≤ run.last_wheel
  pub wide : run.first + run.last_wheel ≡ run.last + run.wheel

-- a run shows a column on a wheel, on each card
pub record RunShows (run : Run) (wheel column : ℕ) : Type 0 where
  pub from : run.wheel ≤ wheel
  pub to : wheel ≤ run.last_wheel
  pub plain : run.level ≡ None
  pub column_is : run.first + wheel ≡ column + run.wheel

-- a text of a draft shows it, or the run that is being read does
pub data IsShownBehind (draft : Draft) (run : Option Run) (wheel column : ℕ) : Type 0 where
  shown : ShowsColumn draft wheel column → IsShownBehind draft run wheel column
  running : (its : Run) → run ≡ Some its → RunShows its wheel column → IsShownBehind draft run wheel column

-- what is shown, or runs, stays so
abbrev pub KeepsBehind : Draft → Option Run → Draft → Option Run → Type 0
KeepsBehind old run new next = (wheel column : ℕ) → IsShownBehind old run wheel column → IsShownBehind new next wheel column

-- a draft and a run behind a wheel that shows a cell
pub record GoesOnWith (cell : Cell) (wheel : ℕ) (old : Draft) (run : Option Run) (new : Draft) (next : Option Run) : Type 0 where
  pub straight : IfSome next IsStraight
  pub here : cell.level ≡ None → IsShownBehind new next wheel cell.column
  pub kept : KeepsBehind old run new next

-- the wheel is in no zone of a list, and this column is on it
pub record IsTextCell (setup : Wiring) (zones : List Zone) (wheel column : ℕ) : Type 0 where
  pub outside : list_any (has_wheel wheel) zones ≡ false
  pub column_on : IsColumnOn setup wheel column

-- a draft and a run behind a wheel
pub record GoesOn (setup : Wiring) (zones : List Zone) (wheel : ℕ) (old : Draft) (run : Option Run) (new : Draft) (next : Option Run)
    : Type 0 where
  pub straight : IfSome next IsStraight
  pub here : (column : ℕ) → IsTextCell setup zones wheel column → IsShownBehind new next wheel column
  pub kept : KeepsBehind old run new next

-- so it is for the wheels below a bound
abbrev pub AreShownBelow : Wiring → List Zone → Draft → Option Run → ℕ → Type 0
AreShownBelow setup zones draft run bound =
    (wheel column : ℕ) → 1 ≤ wheel → wheel < bound → IsTextCell setup zones wheel column → IsShownBehind draft run wheel column

-- texts show the columns on all wheels that are in no zone of a list
abbrev pub ShowsOutside : Wiring → List Zone → Draft → Type 0
ShowsOutside setup zones draft =
    (wheel column : ℕ) → 1 ≤ wheel → wheel ≤ 120 → IsTextCell setup zones wheel column → ShowsColumn draft wheel column

-- No column is overlooked: on each wheel on which the panel shows no amount, a text of the line of a card shows the lowest column at second
-- reading that leads there, if one does.
abbrev pub ShowsColumns : Wiring → Draft → Type 0
ShowsColumns setup draft =
    (wheel column : ℕ) → 1 ≤ wheel → wheel ≤ 120 → ¬ IsAmountWheel setup wheel → IsColumnOn setup wheel column
    → ShowsColumn draft wheel column
