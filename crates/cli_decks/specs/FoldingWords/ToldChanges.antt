-- What is told of the changes that were made in a text: a line for each kind that was made.
use Rattle.std.specs.Prelude.{ℕ, List, [], ◌++◌, Option, Some, None, codes, decimal}
use Rattle.cli_decks.specs.declared.folding.changes.Change.{Change}
use Rattle.cli_decks.specs.declared.folding.changes.Change.TheVariants as change
use Rattle.cli_decks.specs.declared.folding.changes.TextPlace.{TextPlace}
use Rattle.cli_decks.specs.declared.folding.folding.Changes.{Changes}

-- the words for a kind of change
abbrev pub words_of : Change → List ℕ
words_of change.Capital = codes "small letters made capitals: "
words_of change.Blanks = codes "tabs made blanks: "
words_of change.Replaced = codes "other bytes replaced: "

-- the line of a kind of change that was made so often, and there first; none if it was not made
abbrev pub tally_line : Change → (count : ℕ) → Option TextPlace → List ℕ
tally_line kind count None = []
tally_line kind count (Some place) =
    words_of kind ++ decimal count ++ codes ", first in line " ++ decimal place.line ++ codes " column " ++ decimal place.column ++ codes "\n"

-- the lines of all changes
abbrev pub changes_text : Changes → List ℕ
changes_text changes =
    tally_line change.Capital changes.capitals.count changes.capitals.first
    ++ tally_line change.Blanks changes.tabs.count changes.tabs.first
    ++ tally_line change.Replaced changes.others.count changes.others.first
