-- Which numbers, pages and characters words name.
use Rattle.std.specs.Prelude.{◌≡◌, ◌≢◌, ◌==◌, ℕ, List, [], ◌∷◌, IsSome}
use Rattle.std.specs.List.{after_first, before_first}
use Rattle.std.specs.Str.Parse.{IsNumeral, digits_value, without_leading_plus}
use Rattle.card_code.specs.CardCode.{rows_of}
use Rattle.cli_tasks.specs.declared.pages.Pages.{Pages}

-- The word is a number: decimal digits, before which a plus sign may stand.
abbrev pub TellsNumber : List ℕ → ℕ → Type 0
TellsNumber word number =
    IsNumeral 10 (without_leading_plus word) × (number ≡ digits_value 10 (without_leading_plus word))

-- The word names the first and the last of pages: by one number for both, or by two with a hyphen between them.
pub data NamesPages (word : List ℕ) (pages : Pages) : Type 0 where
  one : TellsNumber word pages.first → pages.last ≡ pages.first → NamesPages word pages
  from_to : TellsNumber (before_first (λ byte. byte == 45) word) pages.first
      → TellsNumber (after_first (λ byte. byte == 45) word) pages.last → NamesPages word pages

-- the word is no single character, or one that no card has
abbrev pub IsNoFill : List ℕ → Type 0
IsNoFill word = (character : ℕ) → IsSome (rows_of character) → word ≢ character ∷ []
