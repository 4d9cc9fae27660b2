-- What is told of a deck with which nothing is wrong: `ok`, how many cards there are, the first and the last one.
use Rattle.std.specs.Prelude.{ℕ, List, [], ◌∷◌, ◌++◌, Option, Some, None, codes, decimal, length, map, slice_get}
use Rattle.card_code.specs.CardCode.{print_character}
use Rattle.report_definition.specs.FollowedDecks.Stands.{last_of}
use Rattle.page_text.specs.Pages.{without_trailing_blanks}

-- a card between brackets, as its columns print, cut behind the last one that is no blank
abbrev pub card_words : List ℕ → List ℕ
card_words card = codes "[" ++ without_trailing_blanks (map print_character card) ++ codes "]\n"

abbrev pub cards_words : (count : ℕ) → (first last : List ℕ) → List ℕ
cards_words count first last =
    codes "cards: " ++ decimal count ++ codes "\nfirst: " ++ card_words first ++ codes "last: " ++ card_words last

-- `ok`, and what there is, if there is any card
abbrev pub fine_words : (count : ℕ) → (first last : Option (List ℕ)) → List ℕ
fine_words count (Some first) (Some last) = codes "ok\n" ++ cards_words count first last
fine_words count first last = codes "ok\ncards: 0\n"

-- the last of some cards
abbrev pub last_in : List (List ℕ) → Option (List ℕ)
last_in [] = None
last_in (card ∷ cards) = Some (last_of card cards)

-- of all the cards of a deck
abbrev pub fine_told : List (List ℕ) → List ℕ
fine_told cards = fine_words (length cards) (slice_get cards 0) (last_in cards)
