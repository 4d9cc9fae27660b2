-- The points of a cycle as steps. A step is closed until it is opened: then it shows the panel, and over it the wires that carry an impulse
-- at the point.
use Rattle.std.specs.Prelude.{◌≡◌, ℕ, ◌-◌, ◌==◌, List, [], ◌∷◌, ◌++◌, codes, decimal, if◌then◌else◌, length, nat_le}
use Rattle.std.specs.List.{flat_map, range_with_len}
use Rattle.explain_wheels.specs.declared.explanations.found.FoundLine.{FoundLine}
use Rattle.machine.specs.Kept.{kept_at}
use Rattle.machine.specs.declared.kept.KeptPoint.{KeptPoint}
use Rattle.show_drawings.specs.MarkupWords.Pieces.{EachText}
use Rattle.show_links.specs.Links.{row_name}
use Rattle.show_drawings.specs.DrawingsWords.PanelDrawing.Drawing.{picture_open, way_curve}
use Rattle.show_drawings.specs.declared.drawings.panel_drawing.drawing.PanelWire.{PanelWire}
use Rattle.hubs.specs.SetupsWords.Wiring.{Wiring}
use Rattle.show_page.specs.Counts.{counted}
use Rattle.show_page.specs.CycleSteps.Live.{AreLive}

-- the name of a point by its number, 1 to 14: C, the rows 9 to 0, 11 and 12 of a card in the order in which they pass the brushes, and K
abbrev pub point_name : ℕ → List ℕ
point_name number =
    if number == 1
    then codes "C"
    else if nat_le number 11 then decimal (11 - number) else if number == 14 then codes "K" else decimal (number - 1)

unfoldable pub named_point : ℕ → List ℕ
named_point number = codes "point " ++ point_name number ++ codes ": "

-- the curve of a wire, from the hub that it leaves to the one that it enters
abbrev pub wire_curve : PanelWire → List ℕ
wire_curve wire = way_curve (wire.exit ∷ wire.entry ∷ [])

-- a step: the point, how many wires carry an impulse, and these wires as one path over the panel
unfoldable pub step_open : (number count : ℕ) → List ℕ
step_open number count = codes "<details><summary>" ++ named_point number ++ counted count (codes "wire") ++ codes "</summary>"

unfoldable pub step_picture : List PanelWire → List ℕ
step_picture live = picture_open ++ codes "<path d=\"" ++ flat_map wire_curve live ++ codes "\"/></svg></details>\n"

abbrev pub open_step : (number : ℕ) → List PanelWire → List ℕ
open_step number live = step_open number (length live) ++ step_picture live

-- where none does there is nothing to open
unfoldable pub quiet_step : ℕ → List ℕ
quiet_step number = codes "<p>" ++ named_point number ++ codes "no wire</p>\n"

abbrev pub step_text : (number : ℕ) → List PanelWire → List ℕ
step_text number [] = quiet_step number
step_text number (wire ∷ others) = open_step number (wire ∷ others)

-- the step of a point of a cycle, by its number
pub record IsStep (wiring : Wiring) (points : List KeptPoint) (wires : List PanelWire) (number : ℕ) (text : List ℕ) : Type 0 where
  pub live : List PanelWire
  pub are : AreLive wiring (kept_at points (number - 1)) wires live
  pub spelled : text ≡ step_text number live

-- the front of the element of a line: its name, a link back to the line, and what one sees
abbrev pub section_name : (page line : ℕ) → List ℕ
section_name page line = codes "<section id=\"" ++ row_name page line ++ codes "steps\">"

abbrev pub back_text : (page line : ℕ) → List ℕ
back_text page line = codes "<a href=\"#" ++ row_name page line ++ codes "\">back</a>\n"

unfoldable pub section_head : (page line : ℕ) → List ℕ
section_head page line = codes "<h2>Line " ++ decimal line ++ codes " of page " ++ decimal page ++ codes ", point by point</h2>\n"

unfoldable pub section_open : (page line : ℕ) → List ℕ
section_open page line = section_name page line ++ back_text page line ++ section_head page line

unfoldable pub steps_close : List ℕ
steps_close = codes "</section>\n"

-- The element of a line: the steps of the cycle that printed it, point by point.
pub record IsStepSection (wiring : Wiring) (wires : List PanelWire) (found : FoundLine) (text : List ℕ) : Type 0 where
  pub steps : List ℕ
  pub are_steps : EachText (IsStep wiring found.kept.points wires) (range_with_len 1 14) steps
  pub spelled : text ≡ section_open found.kept.line.page found.kept.line.line ++ steps ++ steps_close

-- the elements of some lines, one behind the other
abbrev pub AreStepSections : Wiring → List PanelWire → List FoundLine → List ℕ → Type 0
AreStepSections wiring wires found text = EachText (IsStepSection wiring wires) found text

-- Links to the elements of some lines; where there is no line, nothing.
unfoldable pub links_open : List ℕ
links_open = codes "<div class=\"begin\"><h2>A cycle, point by point</h2>\n<p>Choose a printed line, and open the points of the cycle that printed it:</p>\n<p>"

unfoldable pub link_words : (page line : ℕ) → List ℕ
link_words page line = codes "steps\">page " ++ decimal page ++ codes " line " ++ decimal line ++ codes "</a>\n"

abbrev pub link_name : (page line : ℕ) → List ℕ
link_name page line = codes "<a href=\"#" ++ row_name page line

unfoldable pub step_link : FoundLine → List ℕ
step_link found = link_name found.kept.line.page found.kept.line.line ++ link_words found.kept.line.page found.kept.line.line

unfoldable pub links_close : List ℕ
links_close = codes "</p></div>\n"

unfoldable pub some_links : List FoundLine → List ℕ
some_links found = links_open ++ flat_map step_link found ++ links_close

abbrev pub links_text : List FoundLine → List ℕ
links_text [] = []
links_text (one ∷ others) = some_links (one ∷ others)
