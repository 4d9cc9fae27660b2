-- Helper words of the code: the columns of texts, as they are tested all at once.
use Rattle.std.specs.Prelude.{◌≡◌, ℕ, ◌-◌, ◌<◌, ◌≤◌, true, false, List, Some, slice_get, slice_index}
use Rattle.card_code.specs.CardCode.{deck_character}
use Rattle.chart_lines.specs.ChartsWords.Field.{is_amount}
use Rattle.chart_lines.specs.declared.charts.statement.Field.{Field}
use Rattle.chart_rules.specs.ValidCard.{EachColumn, IsValidField, is_printed}

-- the columns of a text are marked: all bits of their masks are set, and none of them stands past the end
pub record IsMarked (masks : List ℕ) (end : ℕ) (field : Field) : Type 0 where
  pub columns : EachColumn field.first field.last (λ column. slice_index masks (column - 1) ≡ 65535)
  pub within : field.last ≤ end

-- the texts among the first fields of a list are marked
abbrev pub AreMarked : List Field → ℕ → (masks : List ℕ) → (end : ℕ) → Type 0
AreMarked fields count masks end =
    (place : ℕ) (field : Field) → place < count → slice_get fields place ≡ Some field → is_amount field.kind ≡ false
    → IsMarked masks end field

-- the marked ones among the first columns of a card have print characters or are blank
abbrev pub ArePrinted : List ℕ → ℕ → List ℕ → Type 0
ArePrinted masks count card =
    (k : ℕ) → k < count → slice_index masks k ≡ 65535 → is_printed (deck_character (slice_index card k)) ≡ true

-- the amounts among the first fields of a list are valid on a card
abbrev pub AreAmountsValid : List Field → ℕ → List ℕ → Type 0
AreAmountsValid fields count card =
    (place : ℕ) (field : Field) → place < count → slice_get fields place ≡ Some field → is_amount field.kind ≡ true
    → IsValidField field card
