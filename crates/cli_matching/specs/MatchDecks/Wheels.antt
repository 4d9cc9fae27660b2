-- The first wheel on which two panels print a line differently.
use Rattle.std.specs.Prelude.{◌≡◌, ◌≢◌, ℕ, ◌+◌, ◌-◌, ◌<◌, ◌≤◌, ◌==◌, ◌&&◌, Bool, List, [], ◌∷◌, Option, IfNone, IfSome, replicate, slice_index, if◌then◌else◌}
use Rattle.machine.specs.Runs.{MachineLines}
use Rattle.cli_matching.specs.MatchDecks.Differing.{IsFirstDifference}
use Rattle.cli_matching.specs.declared.match_decks.lines.LinePlace.{LinePlace}
use Rattle.cli_matching.specs.declared.match_decks.wheels.Difference.{Difference}
use Rattle.page_text.specs.declared.placed_lines.placed_line.PlacedLine.{PlacedLine}
use Rattle.hubs.specs.SetupsWords.Wiring.{Wiring}

-- whether a line stands at a place
abbrev pub is_at : LinePlace → PlacedLine → Bool
is_at place placed = (placed.page == place.page) && (placed.line == place.line)

-- the characters at a place of a report: those of its first line there, and blanks where no line is printed
abbrev pub text_at : List PlacedLine → LinePlace → List ℕ
text_at [] place = replicate 120 32
text_at (placed ∷ lines) place = if is_at place placed then placed.text else text_at lines place

-- a wheel is the first on which two lines differ
pub record IsFirstApart (one other : List ℕ) (wheel : ℕ) : Type 0 where
  pub from : 1 ≤ wheel
  pub to : wheel ≤ 120
  pub left : (k : ℕ) → k + 1 < wheel → slice_index one k ≡ slice_index other k
  pub apart : slice_index one (wheel - 1) ≢ slice_index other (wheel - 1)

-- no wheel differs of two lines
abbrev pub AreAlike : List ℕ → List ℕ → Type 0
AreAlike one other = (k : ℕ) → k < 120 → slice_index one k ≡ slice_index other k

-- the wheel that is told of two lines: the first on which they differ, or the first of all where they are alike
pub data IsToldWheel (one other : List ℕ) (wheel : ℕ) : Type 0 where
  apart : IsFirstApart one other wheel → IsToldWheel one other wheel
  alike : AreAlike one other → wheel ≡ 1 → IsToldWheel one other wheel

-- two lists of printed lines differ first at a place, and on a wheel there
pub record IsDifferenceOf (one other : List PlacedLine) (difference : Difference) : Type 0 where
  pub first : IsFirstDifference one other difference.place
  pub wheel : IsToldWheel (text_at one difference.place) (text_at other difference.place) difference.wheel

-- the machine prints a deck differently, wired as two setups, first at a place and a wheel; or it prints the same lines
pub record DifferOnDeck (one other : Wiring) (cards : List (List ℕ)) (difference : Option Difference) : Type 0 where
  pub lines : List PlacedLine
  pub others : List PlacedLine
  pub run : MachineLines one cards lines
  pub other_run : MachineLines other cards others
  pub same : IfNone difference (lines ≡ others)
  pub first : IfSome difference (IsDifferenceOf lines others)
