-- The totals of an amount: the cards enter the lowest, and each goes up into the next, of a higher level.
use Rattle.std.specs.Prelude.{◌≡◌, ◌++◌, ◌∷◌, [], ℕ, ◌-◌, ◌<◌, List, Option, Some, None, if◌then◌else◌, length, nat_lt}
use Rattle.chart_lines.specs.ChartsWords.Levels.{level_number}
use Rattle.chart_lines.specs.declared.charts.statement.BodyLine.TheVariants as line
use Rattle.hubs.specs.declared.hub.Group.{Group}
use Rattle.hubs.specs.declared.hub.Hub.{Hub}
use Rattle.hubs.specs.declared.hub.Hub.TheVariants as hub
use Rattle.readback_panels.specs.declared.totals.Counter.{Counter}
use Rattle.readback_panels.specs.declared.totals.Total.{Total}
use Rattle.readback_panels.specs.declared.draft.Draft.{Draft}
use Rattle.readback_panels.specs.declared.draft.DraftField.{DraftField}
use Rattle.readback_panels.specs.declared.draft.Item.{Item}
use Rattle.readback_panels.specs.declared.draft.PrintedLine.TheVariants.{Body}
use Rattle.readback_panels.specs.declared.draft.Said.TheVariants.{Amount}
use Rattle.hubs.specs.SetupsWords.Wiring.{HasWire, Wiring}

-- the group of a counter in which a position is, and its number there
abbrev pub place_in : Group → Option Group → ℕ → Group × ℕ
place_in lower None position = (lower, position)
place_in lower (Some upper) position = if nat_lt 8 position then (upper, position - 8) else (lower, position)

-- the exit and the entry of a position
abbrev pub exit_of : Counter → ℕ → Hub
exit_of counter position = hub.GX (place_in counter.lower counter.upper position).0 (place_in counter.lower counter.upper position).1

abbrev pub entry_of : Counter → ℕ → Hub
entry_of counter position = hub.GE (place_in counter.lower counter.upper position).0 (place_in counter.lower counter.upper position).1

-- the third program cycle of its level reads a total out
abbrev pub IsReadOut : Wiring → Total → Type 0
IsReadOut setup total = HasWire setup (hub.PX (level_number total.level) 3) (hub.RO total.counter.lower)

-- a total goes up into one of a higher level: from its units to the units of that one
pub record GoesUp (setup : Wiring) (from next : Total) : Type 0 where
  pub higher : level_number from.level < level_number next.level
  pub wired : HasWire setup (exit_of from.counter 1) (entry_of next.counter 1)

-- the item of a total of a field: it stands on the total line of its level
pub record IsTotalItem (field : ℕ) (total : Total) (item : Item) : Type 0 where
  pub on : item.line ≡ Body (line.Total total.level)
  pub says : item.said ≡ Amount field total.digits total.zone.mark

-- the item of some total that is read out
pub record IsReadTotal (setup : Wiring) (item : Item) : Type 0 where
  pub field : ℕ
  pub total : Total
  pub is : IsTotalItem field total item
  pub out : IsReadOut setup total

-- the items of a chain of totals of a field that are read out, from the lowest up to a last one
pub data IsChain (setup : Wiring) (field : ℕ) (lowest : Total) : Total → List Item → Type 0 where
  alone : (item : Item) → IsReadOut setup lowest → IsTotalItem field lowest item → IsChain setup field lowest lowest (item ∷ [])
  next :
      (last higher : Total) (items : List Item) (item : Item) → IsChain setup field lowest last items → GoesUp setup last higher
      → IsReadOut setup higher → IsTotalItem field higher item → IsChain setup field lowest higher (items ++ item ∷ [])

-- a draft gains an item of a total
pub record GainsTotal (field : ℕ) (total : Total) (old new : Draft) : Type 0 where
  pub item : Item
  pub is : IsTotalItem field total item
  pub gained : new.items.items ≡ old.items.items ++ item ∷ []
  pub fields : new.fields.items ≡ old.fields.items

-- it gains the items of a chain
pub record GainsChain (setup : Wiring) (field : ℕ) (lowest last : Total) (old new : Draft) : Type 0 where
  pub items : List Item
  pub chain : IsChain setup field lowest last items
  pub gained : new.items.items ≡ old.items.items ++ items
  pub fields : new.fields.items ≡ old.fields.items

-- it gains a field
pub record GainsField (field : DraftField) (old new : Draft) : Type 0 where
  pub gained : new.fields.items ≡ old.fields.items ++ field ∷ []
  pub items : new.items.items ≡ old.items.items

-- It gains chains, one after another. Each is of a field of its own, which the draft gained for it.
pub data GainsChains (setup : Wiring) (old : Draft) : Draft → Type 0 where
  none : GainsChains setup old old
  one_more :
      (between grown new : Draft) (field : DraftField) (lowest last : Total) → GainsChains setup old between
      → GainsField field between grown → GainsChain setup (length between.fields.items) lowest last grown new
      → GainsChains setup old new
