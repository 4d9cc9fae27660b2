-- Which cards have a deck character in each column.
use Rattle.std.proofs.Common.{◌≡◌, ◌⊎◌, ◌<◌, ◌≤◌, inl, inr, refl, ap, ℕ, List, length, slice_index, IsSome, Some}
use Rattle.std.specs.Prelude.{is_some}
use Rattle.std.proofs.lemmas.Bool.{cases_lt}
use Rattle.card_code.proofs.OneToOne.{Contains-rows, character_in-pair, code-once}
use Rattle.card_code.specs.CardCode.{code, deck_character, rows_of}
use Rattle.card_code.specs.Deck.{HasCharacters, IsCardOf}

-- a column without a row is blank
blank-character : IsSome (deck_character 0)
unfolding deck_character code
blank-character = refl

-- a set that some character has is that of a character
character-of : (character set : ℕ) → rows_of character ≡ Some set → IsSome (deck_character set)
unfolding rows_of deck_character
character-of character set is =
    ap is_some (character_in-pair code character set code-once (Contains-rows code character set is))

-- a card that is punched from a line has characters
pub characters-punched : (line card : List ℕ) → IsCardOf line card → HasCharacters card
characters-punched line card is k = by (cases_lt k (length line))
  where
    by : (k < length line) ⊎ (length line ≤ k) → IsSome (deck_character (slice_index card k))
    by (inl within) = character-of (slice_index line k) (slice_index card k) (is.punched k within)
    by (inr past) = rw (is.blank k past) blank-character
