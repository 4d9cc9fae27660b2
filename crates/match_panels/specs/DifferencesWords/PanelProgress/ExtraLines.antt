-- Which lines of a wiring chart say something that is extra.
use Rattle.std.specs.Prelude.{◌≡◌, ℕ, ◌+◌, ◌&&◌, Bool, true, false, List, [], ◌∷◌, ◌++◌, codes, decimal, nat_eq, nat_lt}
use Rattle.match_panels.specs.DifferencesWords.Differences.{HasSize, IsDifference}
use Rattle.hubs.specs.SetupsWords.Wiring.{Wiring}
use Rattle.wire_chart.specs.WrittenText.{ArePartsOf, ended, title_line}
use Rattle.wiring_text.specs.WiringText.{ReadsAs}
use Rattle.wiring_text.specs.declared.statement.Version.{Version}

-- The wiring chart that has a line alone, on a form that can have every stop.
abbrev pub alone : Version → List ℕ → List ℕ
alone version line = ended (title_line version) ++ codes "FORM 144 1 144\n" ++ line ++ codes "\nEND\n"

-- something is there, and none of it is asked for
abbrev pub is_all_extra : (size asked_for : ℕ) → Bool
is_all_extra size asked_for = nat_lt 0 size && nat_eq asked_for 0

-- Whether a setup has something, and all of that is extra.
pub record IsExtra (one extra : Wiring) (is : Bool) : Type 0 where
  pub size : ℕ
  pub has_size : HasSize one size
  pub left : Wiring
  pub is_left : IsDifference one extra left
  pub asked_for : ℕ
  pub left_size : HasSize left asked_for
  pub so : is ≡ is_all_extra size asked_for

-- What is told of the line with a number: if what it says alone is extra, its number and what it says, as a wiring chart spells it. Nothing
-- of a line that says nothing, as an empty one, or that the chart asks for.
pub data IsToldLine (version : Version) (extra : Wiring) (number : ℕ) (line : List ℕ) : (told : List ℕ) → Type 0 where
  says_nothing : ((one : Wiring) → ¬ ReadsAs (alone version line) one) → IsToldLine version extra number line []
  is_asked_for : (one : Wiring) → ReadsAs (alone version line) one → IsExtra one extra false → IsToldLine version extra number line []
  is_extra : (one : Wiring) → ReadsAs (alone version line) one → IsExtra one extra true → (parts : List ℕ) → ArePartsOf version one parts
      → IsToldLine version extra number line (codes "line " ++ decimal number ++ codes ": " ++ parts)

-- what is told of some lines, the first of which has a number
pub data AreToldLines (version : Version) (extra : Wiring) : (number : ℕ) → (lines : List (List ℕ)) → (told : List ℕ) → Type 0 where
  none : (number : ℕ) → AreToldLines version extra number [] []
  next : (number : ℕ) (line : List ℕ) (lines : List (List ℕ)) (told others : List ℕ)
      → IsToldLine version extra number line told → AreToldLines version extra (number + 1) lines others
      → AreToldLines version extra number (line ∷ lines) (told ++ others)
