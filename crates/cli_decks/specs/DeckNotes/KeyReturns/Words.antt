-- What is written of the keys of a deck that come back: how often keys do, and a line for each time.
use Rattle.std.specs.Prelude.{ℕ, ◌-◌, List, [], ◌++◌, Option, Some, None, codes, decimal, length, nat_le, slice_get, if◌then◌else◌}
use Rattle.std.specs.List.{flat_map}
use Rattle.chart_lines.specs.ChartsWords.Name.{name_text}
use Rattle.chart_lines.specs.declared.charts.chart.Line.{Line}
use Rattle.chart_lines.specs.declared.charts.statement.Field.{Field}
use Rattle.chart_rules.specs.Controls.{controls_of}
use Rattle.cli_decks.specs.DeckNotes.KeyReturns.Returns.{returns}
use Rattle.cli_decks.specs.declared.deck_notes.key_returns.returns.Return.{Return}
use Rattle.report_definition.specs.BodyLines.{text_on}

-- the name of a field, and its text on a card
abbrev pub field_words : (card : List ℕ) → Field → List ℕ
field_words card field = codes " " ++ name_text field.name ++ codes " [" ++ text_on card field ++ codes "]"

-- the control fields of a level
abbrev pub level_words : List Line → (level : ℕ) → (card : List ℕ) → List ℕ
level_words lines level card = flat_map (field_words card) (controls_of lines level)

-- the control fields of a level and of the levels above it, the highest level first
abbrev pub key_words : List Line → (level : ℕ) → (card : List ℕ) → List ℕ
key_words lines level card =
    level_words lines 3 card
    ++ (if nat_le level 2 then level_words lines 2 card else [])
    ++ (if nat_le level 1 then level_words lines 1 card else [])

-- those on a card, if it is there
abbrev pub key_on_card : List Line → (level : ℕ) → Option (List ℕ) → List ℕ
key_on_card lines level (Some card) = key_words lines level card
key_on_card lines level None = []

-- those on the card with which a key comes back
abbrev pub key_at : List Line → (cards : List (List ℕ)) → Return → List ℕ
key_at lines cards each = key_on_card lines each.level (slice_get cards (each.again - 1))

-- a key that comes back
abbrev pub return_words : List Line → (cards : List (List ℕ)) → Return → List ℕ
return_words lines cards each =
    codes "level " ++ decimal each.level ++ codes " card " ++ decimal each.again ++ codes " has the key of card " ++ decimal each.first
    ++ codes ":" ++ key_at lines cards each ++ codes "\n"

-- how often keys come back; one that does so twice counts twice
unfoldable pub count_words : ℕ → List ℕ
count_words count = codes "times a key comes back: " ++ decimal count ++ codes "\n"

-- some keys that come back
abbrev pub returns_words : List Line → (cards : List (List ℕ)) → List Return → List ℕ
returns_words lines cards list =
    count_words (length list) ++ flat_map (return_words lines cards) list

-- all of a deck
abbrev pub returns_told : List Line → (cards : List (List ℕ)) → List ℕ
returns_told lines cards = returns_words lines cards (returns lines cards)
