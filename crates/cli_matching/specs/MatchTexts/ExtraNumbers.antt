-- Which lines of a wiring chart are extra, by their numbers alone.
use Rattle.std.specs.Prelude.{◌≡◌, ℕ, ◌+◌, List, [], ◌∷◌, ◌++◌}
use Rattle.card_code.specs.Lines.{lines_of}
use Rattle.match_panels.specs.DifferencesWords.PanelProgress.ExtraLines.{AreToldLines}
use Rattle.match_panels.specs.DifferencesWords.PanelProgress.Forms.{form_beside}
use Rattle.hubs.specs.SetupsWords.Tapes.{CarriageTape}
use Rattle.hubs.specs.SetupsWords.Wiring.{Wiring}
use Rattle.wire_chart.specs.Below.wiring_text.declared.statement.Version.{Version}

-- a number, if anything is told
abbrev pub number_if : (number : ℕ) → (told : List ℕ) → List ℕ
number_if number [] = []
number_if number (byte ∷ bytes) = number ∷ []

-- The numbers of those of some lines that say something extra: of which something is told by themselves. The first line has a number.
pub data AreExtraNumbers (version : Version) (extra : Wiring) : (number : ℕ) → (lines : List (List ℕ)) → (numbers : List ℕ) → Type 0 where
  none : (number : ℕ) → AreExtraNumbers version extra number [] []
  next : (number : ℕ) (line : List ℕ) (lines : List (List ℕ)) (told numbers : List ℕ)
      → AreToldLines version extra 1 (lines_of line) told → AreExtraNumbers version extra (number + 1) lines numbers
      → AreExtraNumbers version extra number (line ∷ lines) (number_if number told ++ numbers)

-- So of a wiring chart: line 2, the form, where another is asked for, and then those lines.
pub record NumbersExtra (version : Version) (wanted : CarriageTape) (extra : Wiring) (wiring numbers : List ℕ) : Type 0 where
  pub others : List ℕ
  pub are : AreExtraNumbers version extra 1 (lines_of wiring) others
  pub listed : numbers ≡ number_if 2 (form_beside extra.tape wanted) ++ others
