-- What is told of printed characters: for each an explanation of its wheel, and the words of it.
use Rattle.std.specs.Prelude.{◌≡◌, ℕ, ◌==◌, List, [], ◌∷◌, All, String, if◌then◌else◌, map}
use Rattle.std.specs.List.{flat_map, range_with_len}
use Rattle.std.specs.String.{string_bytes}
use Rattle.std.specs.declared.alloc.Global.{Global}
use Rattle.explain_words.specs.ExplanationText.ExplanationTexts.{IsTextOf}
use Rattle.explain_wheels.specs.ExplanationsWords.Explanations.{character_on}
use Rattle.page_text.specs.declared.placed_lines.placed_line.PlacedLine.{PlacedLine}
use Rattle.hubs.specs.SetupsWords.Wiring.{Wiring}
use Rattle.explain_words.specs.declared.explanation_text.text.ToldWheel.{ToldWheel}

-- where a character is printed: the page, the line of the page, and the wheel
pub record WheelPlace : Type 0 where
  pub page : ℕ
  pub line : ℕ
  pub wheel : ℕ

-- the place of a wheel that is told of
abbrev pub place_of : ToldWheel → WheelPlace
place_of told = record { page = told.why.line.page; line = told.why.line.line; wheel = told.why.wheel }

-- the place at which a wheel of a line printed a character; none where it printed a blank
abbrev pub printed_by : PlacedLine → ℕ → List WheelPlace
printed_by placed wheel =
    if character_on placed wheel == 32 then []
    else record { page = placed.page; line = placed.line; wheel = wheel } ∷ []

-- the places at which a line has a character, wheel 1 first, and those of some lines
abbrev pub printed_on : PlacedLine → List WheelPlace
printed_on placed = flat_map (printed_by placed) (range_with_len 1 120)

abbrev pub printed_places : List PlacedLine → List WheelPlace
printed_places lines = flat_map printed_on lines

-- What is told of a wheel is an explanation of it, and the words of that explanation, where it is known who asks for wires.
abbrev pub IsTold : Wiring → List (String Global × Wiring) → List (List ℕ) → ToldWheel → Type 0
IsTold wiring asked deck told =
    IsTextOf wiring asked deck told.why.line.page told.why.line.line told.why.wheel told.why (string_bytes told.words)

-- the wheels at these places are told of, each once, in this order
pub record AreTold (wiring : Wiring) (asked : List (String Global × Wiring)) (deck : List (List ℕ)) (places : List WheelPlace)
    (told : List ToldWheel) : Type 0 where
  pub places_are : map place_of told ≡ places
  pub each : All (IsTold wiring asked deck) told
