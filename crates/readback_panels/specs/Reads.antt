-- What each item of a draft is, by the wires and the jacks of the panel.
use Rattle.std.specs.Prelude.{All}
use Rattle.readback_panels.specs.Chains.{IsReadTotal}
use Rattle.readback_panels.specs.Items.{IsCardAmount, IsLiteral, IsTotalText}
use Rattle.readback_panels.specs.Zones.{IsTextOutside}
use Rattle.readback_panels.specs.declared.draft.Draft.{Draft}
use Rattle.readback_panels.specs.declared.draft.Item.{Item}
use Rattle.hubs.specs.SetupsWords.Wiring.{Wiring}

-- An item is a total that the third program cycle of its line's level reads out, an amount on the line of a card, a text on that line where
-- no amount stands, a text on a total line, or a literal.
pub data IsReadItem (setup : Wiring) (item : Item) : Type 0 where
  total : IsReadTotal setup item → IsReadItem setup item
  amount : IsCardAmount item → IsReadItem setup item
  text : IsTextOutside setup item → IsReadItem setup item
  total_text : IsTotalText item → IsReadItem setup item
  literal : IsLiteral item → IsReadItem setup item

-- so is each item of a draft
abbrev pub AreRead : Wiring → Draft → Type 0
AreRead setup draft = All (IsReadItem setup) draft.items.items
