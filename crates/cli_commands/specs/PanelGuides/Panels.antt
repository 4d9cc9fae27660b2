-- The run that a text and a deck ask for: on a panel that is wired as a wiring chart says, or for a planning chart.
use Rattle.std.specs.Prelude.{◌≡◌, ℕ, Bool, true, false, List, take, drop, codes}
use Rattle.std.specs.List.{prefix_len}
use Rattle.std.specs.Str.{bytes_eq}
use Rattle.card_code.specs.Deck.{Deck}
use Rattle.cli_commands.specs.CommandsWords.Answers.{Compiles, CompilesAs}
use Rattle.compile407.specs.Compilation.{Compilation}
use Rattle.compile407.specs.Runnable.{IsRunnable}
use Rattle.hubs.specs.SetupsWords.Wiring.{Wiring}
use Rattle.chart_lines.specs.TokensWords.Dividing.{is_space}
use Rattle.wiring_text.specs.WiringText.{ReadsAs}

-- A text is taken for a wiring chart where its first line begins with the word WIRING407; spaces may stand before it. Any other text is
-- taken for a planning chart.
abbrev pub is_wiring_text : List ℕ → Bool
is_wiring_text text = bytes_eq (take 9 (drop (prefix_len is_space text) text)) (codes "WIRING407")

-- the text has a panel: it is a wiring chart that reads, or a planning chart that compiles
pub data HasPanel (text : List ℕ) : Type 0 where
  wired : is_wiring_text text ≡ true → (wiring : Wiring) → ReadsAs text wiring → HasPanel text
  planned : is_wiring_text text ≡ false → Compiles text → HasPanel text

-- The run of a text and a deck, on this panel and over these cards: a wiring chart is replayed, whatever is on the cards; the cards of a
-- planning chart are those that it can be run with.
pub data IsRunOf (text deck : List ℕ) (cards : List (List ℕ)) : Wiring → Type 0 where
  replayed : is_wiring_text text ≡ true → (wiring : Wiring) → ReadsAs text wiring → Deck deck cards → IsRunOf text deck cards wiring
  reported : is_wiring_text text ≡ false → (compiled : Compilation) → CompilesAs text compiled → Deck deck cards
      → IsRunnable compiled.chart cards → IsRunOf text deck cards compiled.setup
