-- The elements of wires, and those of hubs behind them.
use Rattle.std.proofs.Common.{◌≡◌, refl, ℕ, ◌==◌, false, List, [], ◌∷◌, ◌++◌, length}
use Rattle.hubs.specs.declared.hub.Group.{Group}
use Rattle.show_drawings.specs.MarkupWords.Pieces.{numbered_words}
use Rattle.show_drawings.proofs.MarkupWords.Pieces.{and_more}
use Rattle.show_drawings.specs.DrawingsWords.PanelDrawing.Helper.{GainsHubs}
use Rattle.show_drawings.specs.declared.drawings.panel_drawing.drawing.PanelWire.{PanelWire}
use Rattle.show_links.specs.declared.sum_places.places.SumPlace.{SumPlace}
use Rattle.explain_words.specs.declared.explanation_text.text.ToldWheel.{ToldWheel}
use Rattle.show_sections.specs.WireSections.Held.{held_by, held_some}
use Rattle.show_sections.specs.WireSections.Helper.{GainsWireSections}
use Rattle.show_sections.specs.WireSections.Sections.{characters_text, hub_section, said_or_none, some_text, wire_sections_text}

pub sections_gained : (wires : List PanelWire) (told : List ToldWheel) (sums : List SumPlace) (old mid new : List ℕ)
    → mid ≡ old ++ wire_sections_text wires told sums → GainsHubs (hub_section wires told sums) 1936 mid new
    → GainsWireSections wires told sums old new
sections_gained wires told sums old mid new first next = record {
  text = wire_sections_text wires told sums ++ numbered_words (hub_section wires told sums) 1 next.hubs;
  are = record { hubs = next.hubs; all = next.all; spelled = refl };
  gained =
      and_more old mid new (wire_sections_text wires told sums) (numbered_words (hub_section wires told sums) 1 next.hubs) first next.gained;
}

-- what is said where there are links to characters
pub characters_some : (links : List ℕ) → false ≡ (length links == 0) → characters_text links ≡ some_text links
characters_some [] none = cc
characters_some (sign ∷ links) some = refl

-- what is said, where there is something
pub said_some : (said : List ℕ) → false ≡ (length said == 0) → said_or_none said ≡ said
said_some [] none = cc
said_some (sign ∷ said) some = refl

-- what is said where there are links to sums
pub held_most : (group : Group) (links : List ℕ) → false ≡ (length links == 0) → held_by group links ≡ held_some group links
held_most group [] none = cc
held_most group (sign ∷ links) some = refl
