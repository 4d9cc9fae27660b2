-- Which printed characters have an impulse that came through a wire, or through a hub.
use Rattle.std.specs.Prelude.{ℕ, Bool, false, ◌&&◌, ◌||◌, List, [], ◌∷◌, Option, Some, None, Vec}
use Rattle.std.specs.List.{list_any}
use Rattle.std.specs.declared.alloc.Global.{Global}
use Rattle.hubs.specs.declared.hub.Hub.{Hub}
use Rattle.net.specs.HubSets.{is_hub}
use Rattle.show_drawings.specs.DrawingsWords.PanelDrawing.Drawing.{has_number}
use Rattle.show_drawings.specs.declared.drawings.panel_drawing.drawing.PanelWire.{PanelWire}
use Rattle.explain_words.specs.declared.explanation_text.text.ToldWheel.{ToldWheel}
use Rattle.show_sections.specs.declared.wire_sections.passing.Part.{Part}
use Rattle.show_sections.specs.declared.wire_sections.passing.Part.TheVariants as part

-- whether a wire leads from a hub to the first of others
abbrev pub leads_on : PanelWire → Hub → List Hub → Bool
leads_on wire hub [] = false
leads_on wire hub (next ∷ others) = is_hub wire.exit hub && is_hub wire.entry next

-- whether a way, hub by hub, goes along a wire: its exit, and directly behind it its entry
abbrev pub goes_along : PanelWire → List Hub → Bool
goes_along wire [] = false
goes_along wire (hub ∷ others) = leads_on wire hub others || goes_along wire others

-- whether a way goes over the hub with this number
abbrev pub visits : ℕ → List Hub → Bool
visits number way = list_any (has_number number) way

-- whether a way leads through a part of the panel: along the wire, or over the hub with the number
abbrev pub leads_through : Part → List Hub → Bool
leads_through (part.Wire wire) way = goes_along wire way
leads_through (part.Hub number) way = visits number way

-- whether the way at a row leads through a part, where one is told
abbrev pub has_passed : Part → Option (Vec Hub Global) → Bool
has_passed place None = false
has_passed place (Some way) = leads_through place way.items

-- whether a way to a wheel that is told of leads through a part, at any row
abbrev pub came_through : Part → ToldWheel → Bool
came_through place told = list_any (has_passed place) told.why.rows.items
