-- The elements of sums: what each is called, its counter, its rows, into which sums it went, and why it was printed then.
use Rattle.std.specs.Prelude.{ℕ, List, [], ◌∷◌, ◌++◌, codes}
use Rattle.std.specs.List.{flat_map}
use Rattle.explain_ledgers.specs.LedgersWords.LedgerText.Names.{cycle_text}
use Rattle.show_drawings.specs.MarkupWords.Escapes.{escaped}
use Rattle.show_links.specs.declared.shown.Shown.{Shown}
use Rattle.show_links.specs.Links.{row_name}
use Rattle.show_links.specs.SumPlaces.Places.{sum_name, sum_open}
use Rattle.show_sums.specs.SumSections.Between.{cards_between}
use Rattle.show_sums.specs.SumSections.Into.{higher_sums}
use Rattle.show_sums.specs.SumSections.Labels.{label_text}
use Rattle.show_sums.specs.SumSections.Rows.{table_text}
use Rattle.show_sums.specs.declared.sum_sections.sums.PageSum.{PageSum}

-- the front of an element, with its name
unfoldable pub open_text : PageSum → List ℕ
open_text sum = codes "<section id=\"" ++ sum_name sum.at ++ codes "\">"

-- the link to the row of the figure
unfoldable pub back_text : PageSum → List ℕ
back_text sum = codes "<a href=\"#" ++ row_name sum.at.page sum.at.line ++ codes "\">back</a>\n<h2>"

-- what it is called
unfoldable pub head_text : PageSum → List ℕ
head_text sum = open_text sum ++ back_text sum ++ label_text sum

-- which counter it is, and before which cycle
unfoldable pub before_text : PageSum → List ℕ
before_text sum =
    codes "</h2>\n<p>Counter " ++ escaped sum.groups.items ++ codes " before " ++ escaped (cycle_text sum.found.cycle sum.found.card)
    ++ codes ":</p>\n"

unfoldable pub front_text : PageSum → List ℕ
front_text sum = head_text sum ++ before_text sum

-- why the cycle ran that printed the figure, if it is told, with the cards between which it ran
unfoldable pub why_words : List ℕ → List ℕ
why_words why = codes "<p>Why it was printed then:</p>\n<pre>" ++ escaped why ++ codes "</pre>\n"

unfoldable pub why_some : Shown → (card : ℕ) → List ℕ → List ℕ
why_some shown card why = why_words why ++ cards_between shown card

abbrev pub why_text : Shown → (card : ℕ) → List ℕ → List ℕ
why_text shown card [] = []
why_text shown card (first ∷ others) = why_some shown card (first ∷ others)

-- what stands behind the rows
unfoldable pub behind_text : Shown → List PageSum → PageSum → List ℕ
behind_text shown sums sum = higher_sums sums sum ++ why_text shown sum.found.card sum.why.items ++ codes "</section>\n"

-- the element of a sum, among those of the page
unfoldable pub section_text : Shown → List PageSum → PageSum → List ℕ
section_text shown sums sum = front_text sum ++ table_text shown sums sum ++ behind_text shown sums sum

abbrev pub sum_sections_text : Shown → List PageSum → List ℕ
sum_sections_text shown sums = flat_map (section_text shown sums) sums

-- an entry of a list that links to the first sum, if there is one
unfoldable pub sum_words : List ℕ
sum_words = codes "A sum</a>: how it came about, and what the counter held on the way</li>\n"

unfoldable pub sum_entry : PageSum → List ℕ
sum_entry sum = codes "<li>" ++ sum_open sum.at ++ sum_words

abbrev pub first_sum : List PageSum → List ℕ
first_sum [] = []
first_sum (sum ∷ others) = sum_entry sum
