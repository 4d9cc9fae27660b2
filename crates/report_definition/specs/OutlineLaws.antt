-- Laws of groups and of the outline: where groups end, in which order their totals stand, and which cards show an indicated field.
use Rattle.std.specs.Prelude.{◌≡◌, ℕ, true, false, List, [], ◌∷◌, Option, None, map}
use Rattle.std.specs.List.{All, flat_map}
use Rattle.chart_lines.specs.ChartsWords.Levels.{control_number}
use Rattle.chart_lines.specs.declared.charts.chart.Line.{Line}
use Rattle.chart_lines.specs.declared.charts.level.ControlLevel.{ControlLevel}
use Rattle.chart_lines.specs.declared.charts.statement.DetailOption.TheVariants as shown
use Rattle.chart_lines.specs.declared.charts.statement.Statement.{Statement}
use Rattle.chart_lines.specs.declared.charts.statement.Statement.TheVariants as says
use Rattle.report_definition.specs.BodyLines.{Piece, a_card_of, card_piece}
use Rattle.report_definition.specs.Breaks.{flat_outline}
use Rattle.report_definition.specs.Groups.{groups_of, groups_within, is_same_at}
use Rattle.report_definition.specs.Outline.{OutlineLine, Detail, Total, outline_of}

-- each card is equal to the one before it on the control fields of a level
abbrev pub AreAlike : List Line → ℕ → List (List ℕ) → Type 0
AreAlike lines level [] = Unit {0}
AreAlike lines level (card ∷ []) = Unit {0}
AreAlike lines level (card ∷ next ∷ cards) = (is_same_at lines level card next ≡ true) × AreAlike lines level (next ∷ cards)

-- the last card of a group
abbrev pub last_card_of : List (List ℕ) → List ℕ
last_card_of [] = []
last_card_of (card ∷ []) = card
last_card_of (card ∷ next ∷ cards) = last_card_of (next ∷ cards)

-- the first card of each group differs from the last one of the group before it on a control field of a level
abbrev pub AreCutAt : List Line → ℕ → List (List (List ℕ)) → Type 0
AreCutAt lines level [] = Unit {0}
AreCutAt lines level (group ∷ []) = Unit {0}
AreCutAt lines level (group ∷ next ∷ groups) =
    (is_same_at lines level (last_card_of group) (a_card_of next) ≡ false) × AreCutAt lines level (next ∷ groups)

-- The cards of a group are alike on the level's control fields, and neighbouring groups differ on one of them.
abbrev pub GroupsAreLongestRuns : Type 0
GroupsAreLongestRuns =
    (lines : List Line) (level : ℕ) (whole : List (List ℕ))
    → All (AreAlike lines level) (groups_within lines level whole) × AreCutAt lines level (groups_within lines level whole)

-- The outline of a deck, told by groups within groups, is the one told by the breaks between its cards: a change of a level ends the
-- groups of the lower ones, the totals after a card stand from the lowest to the highest level that ends there, and each total's group
-- is all cards since the last total of its level or a higher one.
abbrev pub OutlineIsByCards : Type 0
OutlineIsByCards = (lines : List Line) (cards : List (List ℕ)) → outline_of lines cards ≡ flat_outline lines cards

-- what a line of the chart puts on the detail lines of an outline, one after another
abbrev pub pieces_on : List Line → Statement → List OutlineLine → List (Option Piece)
pieces_on lines item [] = []
pieces_on lines item (Detail opens card ∷ others) = card_piece lines opens card item ∷ pieces_on lines item others
pieces_on lines item (Total level group ∷ others) = pieces_on lines item others

-- the cards of a group one after another: something for the first one, nothing for the others
abbrev pub on_first_card : (List ℕ → Option Piece) → List (List ℕ) → List (Option Piece)
on_first_card piece [] = []
on_first_card piece (card ∷ cards) = piece card ∷ map (λ other. None) cards

-- The detail lines of a deck show an indicated field of a level on the first card of each group of that level, as a plain field is
-- shown, and on no other card.
abbrev pub IndicatedOnFirstCards : Type 0
IndicatedOnFirstCards =
    (lines : List Line) (wheel : ℕ) (name : List ℕ) (level : ControlLevel) (cards : List (List ℕ))
    → pieces_on lines (says.DetailField wheel name (shown.Indicated level)) (outline_of lines cards)
    ≡ flat_map (on_first_card (λ card. card_piece lines 0 card (says.DetailField wheel name shown.Plain)))
    (groups_of lines (control_number level) cards)
