-- Helper words of the code: what is kept of the cards so far.
use Rattle.std.specs.Prelude.{◌≡◌, ℕ, ◌+◌, ◌==◌, nat_eq, List, ◌++◌, Option, Some, None, drop, if◌then◌else◌}
use Rattle.std.specs.Cmp.Lexicographic.{pointwise}
use Rattle.std.specs.Map.{lookup}
use Rattle.chart_lines.specs.declared.charts.chart.Line.{Line}
use Rattle.chart_rules.specs.Controls.{controls_of}
use Rattle.cli_decks.specs.DeckNotes.KeyReturns.Keys.{AreSetsOf, key_on}
use Rattle.cli_decks.specs.DeckNotes.KeyReturns.Returns.{Earlier, Numbered, broken_before, earlier_with, returns, returns_from, stood, stood_among, told_of}
use Rattle.cli_decks.specs.declared.deck_notes.key_returns.earlier.EarlierKeys.{EarlierKeys}
use Rattle.cli_decks.specs.declared.deck_notes.key_returns.earlier.FirstCards.{FirstCards}
use Rattle.cli_decks.specs.declared.deck_notes.key_returns.returns.Walk.{Walk}

-- the number that is kept of the key of any card is that of the first card with this key
abbrev pub AreFirst : List Line → (level : ℕ) → Numbered → FirstCards → Type 0
AreFirst lines level cards first =
    (card sets : List ℕ) → AreSetsOf (key_on (controls_of lines level) card) sets
    → lookup (λ key. pointwise nat_eq sets key.items) first.numbers.entries ≡ stood_among lines level card cards

-- the same at each level
pub record AreEarlier (lines : List Line) (earlier : Earlier) (kept : EarlierKeys) : Type 0 where
  pub minor : AreFirst lines 1 (earlier 1) kept.minor
  pub intermediate : AreFirst lines 2 (earlier 2) kept.intermediate
  pub major : AreFirst lines 3 (earlier 3) kept.major

-- that of a level of three
abbrev pub at_level : (level : ℕ) → (minor intermediate major : Option ℕ) → Option ℕ
at_level level minor intermediate major =
    if level == 1 then minor else if level == 2 then intermediate else if level == 3 then major else None

-- The card with a number was taken.
pub record Goes (lines : List Line) (card : List ℕ) (number : ℕ) (old new : Walk) : Type 0 where
  pub kept : (earlier : Earlier) → AreEarlier lines earlier old.earlier
      → AreEarlier lines (earlier_with earlier (broken_before lines old.last card) card number) new.earlier
  pub listed : (earlier : Earlier) → AreEarlier lines earlier old.earlier
      → new.list.items
      ≡ old.list.items
      ++ told_of (broken_before lines old.last card) number (stood lines earlier (broken_before lines old.last card) card)
  pub last : new.last ≡ Some card

-- How it stands before the card at a place: what comes back with the others is what is left of all that comes back.
pub record Walks (lines : List Line) (cards : List (List ℕ)) (place : ℕ) (walk : Walk) : Type 0 where
  pub earlier : Earlier
  pub kept : AreEarlier lines earlier walk.earlier
  pub goes_on : walk.list.items ++ returns_from lines earlier walk.last (place + 1) (drop place cards) ≡ returns lines cards
