-- The rules that the style sheet has for the pages on which lines stand: while the explanation of a character of a page is shown, the page's
-- sheet has the tens and units of the character's line (lt, lu) and wheel (wt, wu). The other rules are the same whatever is printed: they read
-- these numbers off the name of the explanation, and mark the character that has them. (A browser asks what is shown some fifty times, where
-- it would ask for each line and each wheel.)
use Rattle.std.specs.Prelude.{ℕ, ◌==◌, List, [], ◌∷◌, ◌++◌, codes, decimal, if◌then◌else◌}
use Rattle.page_text.specs.declared.placed_lines.placed_line.PlacedLine.{PlacedLine}

-- the rule of a page
unfoldable pub page_rule : (page : ℕ) → List ℕ
page_rule page =
    codes "body:has(>aside>:target[id^=p" ++ decimal page ++ codes "l][id*=w]) #page" ++ decimal page
    ++ codes "{--lt:inherit;--lu:inherit;--wt:inherit;--wu:inherit}\n"

-- behind a line of a page a line of the same page has no rule of its own
abbrev pub rule_behind : (before page : ℕ) → List ℕ
rule_behind before page = if page == before then [] else page_rule page

abbrev pub rules_behind : (before : ℕ) → List PlacedLine → List ℕ
rules_behind before [] = []
rules_behind before (placed ∷ others) = rule_behind before placed.page ++ rules_behind placed.page others

-- The rules of the pages of some lines, which come page by page: so each page has one. Pages are counted from 1.
abbrev pub page_rules : List PlacedLine → List ℕ
page_rules lines = rules_behind 0 lines
