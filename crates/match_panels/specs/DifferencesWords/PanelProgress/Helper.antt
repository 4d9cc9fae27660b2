-- Helpers of the code: what a line alone reads as, and a text that gains what is told of lines.
use Rattle.std.specs.Prelude.{◌≡◌, ℕ, ◌+◌, List, ◌++◌, Option, Some, None}
use Rattle.match_panels.specs.DifferencesWords.PanelProgress.ExtraLines.{AreToldLines, IsToldLine, alone}
use Rattle.hubs.specs.SetupsWords.Wiring.{Wiring}
use Rattle.wiring_text.specs.WiringText.{ReadsAs}
use Rattle.wiring_text.specs.declared.statement.Version.{Version}

-- what a line alone reads as; nothing where it says nothing
abbrev pub SaysAlone : Version → List ℕ → Option Wiring → Type 0
SaysAlone version line None = (one : Wiring) → ¬ ReadsAs (alone version line) one
SaysAlone version line (Some one) = ReadsAs (alone version line) one

-- a text gains what is told of a line
pub record GainsTold (version : Version) (extra : Wiring) (number : ℕ) (line old new : List ℕ) : Type 0 where
  pub told : List ℕ
  pub is_told : IsToldLine version extra number line told
  pub gained : new ≡ old ++ told

-- what was written of the lines up to a number, and what is told of the others, is what is told of all
abbrev pub GoesOn : Version → Wiring → (number : ℕ) → (rest all : List (List ℕ)) → (written : List ℕ) → Type 0
GoesOn version extra number rest all written =
    (others : List ℕ) → AreToldLines version extra (number + 1) rest others → AreToldLines version extra 1 all (written ++ others)
