-- Explanations as markup: for each printed character an element with the words of its explanation and a picture, the panel with the ways
-- of its impulses over it.
use Rattle.std.specs.Prelude.{ℕ, List, [], ◌++◌, Option, Some, None, Vec, codes, if◌then◌else◌}
use Rattle.std.specs.List.{flat_map}
use Rattle.std.specs.String.{string_bytes}
use Rattle.std.specs.declared.alloc.Global.{Global}
use Rattle.explain_wheels.specs.declared.explanations.explanation.Explanation.{Explanation}
use Rattle.hubs.specs.declared.hub.Hub.{Hub}
use Rattle.show_drawings.specs.DrawingsWords.PanelDrawing.Drawing.{picture_open, way_curve}
use Rattle.show_links.specs.Links.{card_link, is_shown}
use Rattle.show_links.specs.declared.shown.Shown.{Shown}
use Rattle.show_links.specs.SumPlaces.Places.{sum_behind, sum_link}
use Rattle.show_links.specs.declared.sum_places.places.SumPlace.{SumPlace}
use Rattle.explain_wheel_ledgers.specs.declared.chart_totals.TitledAccount.{TitledAccount}
use Rattle.show_links.specs.Links.{row_name}
use Rattle.show_sections.specs.ReportSheets.Sheets.{wheel_name}
use Rattle.show_sections.specs.WheelSections.Words.{linked}
use Rattle.explain_words.specs.declared.explanation_text.text.ToldWheel.{ToldWheel}

-- the way at a row as a path; nothing where none is told
unfoldable pub way_text : Option (Vec Hub Global) → List ℕ
way_text None = []
way_text (Some way) = codes "<path d=\"" ++ way_curve way.items ++ codes "\"/>"

-- the front of an element: its name, and links back to the row, and to the card
abbrev pub name_open : (page line wheel : ℕ) → List ℕ
name_open page line wheel = codes "<section id=\"" ++ wheel_name page line wheel ++ codes "\">"

abbrev pub back_text : (page line : ℕ) → List ℕ
back_text page line = codes "<a href=\"#" ++ row_name page line ++ codes "\">back</a>"

-- a link to the card to which the cycle of the line belongs, if it has an element
abbrev pub card_text : Shown → ℕ → List ℕ
card_text shown card = if is_shown shown card then codes " " ++ card_link card else []

unfoldable pub section_open : Shown → (page line wheel card : ℕ) → List ℕ
section_open shown page line wheel card = name_open page line wheel ++ back_text page line ++ card_text shown card

-- the words of an element
unfoldable pub words_text : List ℕ → List ℕ
words_text words = codes "<pre>" ++ linked words ++ codes "</pre>"

-- the end of a picture and of its element
unfoldable pub section_close : List ℕ
section_close = codes "</svg></section>\n"

-- what stands in an element behind its front: its words, and its ways over the panel
unfoldable pub rest_text : List ℕ → List (Option (Vec Hub Global)) → List ℕ
rest_text words rows = words_text words ++ picture_open ++ flat_map way_text rows ++ section_close

-- the front of the element of a wheel, with a link to the sum behind it
unfoldable pub told_open : Shown → List SumPlace → List TitledAccount → Explanation → List ℕ
told_open shown sums totals why =
    section_open shown why.line.page why.line.line why.wheel why.cards ++ sum_link sums (sum_behind totals why)

-- the element of a wheel that is told of, and those of some
abbrev pub told_section : Shown → List SumPlace → List TitledAccount → ToldWheel → List ℕ
told_section shown sums totals told =
    told_open shown sums totals told.why ++ rest_text (string_bytes told.words) told.why.rows.items

abbrev pub told_sections : Shown → List SumPlace → List TitledAccount → List ToldWheel → List ℕ
told_sections shown sums totals told = flat_map (told_section shown sums totals) told
