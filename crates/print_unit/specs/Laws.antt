-- Zero control, as a relation from each wheel to the wheel on its left.
use Rattle.std.specs.Prelude.{◌≡◌, ℕ, ◌+◌, ◌<◌, ◌&&◌, ◌||◌, Bool, true, false, List, [], map, length, slice_index_or}
use Rattle.print_unit.specs.ZeroControl.{Wheel, is_figure, shown, character_of, printed_line}

-- no wheel
abbrev pub no_wheel : Wheel
no_wheel = record { received = []; link = false; suppress = false; symbol = false }

-- the wheel at a place, counted from 0
abbrev pub wheel_at_place : List Wheel → ℕ → Wheel
wheel_at_place wheels place = slice_index_or wheels place no_wheel

-- A line under zero control: the first wheel has no significance, each other one has it where its LINK is plugged and the
-- wheel on its left has significance or received a figure, and each shows what it received by its significance.
pub record IsZeroControlled (wheels : List Wheel) (line : List ℕ) : Type 0 where
  pub has : ℕ → Bool
  pub first : has 0 ≡ false
  pub next :
      (place : ℕ) → place + 1 < length wheels
      → has (place + 1) ≡ ((wheel_at_place wheels (place + 1)).link && (has place || is_figure (wheel_at_place wheels place).received))
  pub long : length line ≡ length wheels
  pub shows :
      (place : ℕ) → place < length wheels
      → slice_index_or line place 0 ≡ shown (has place) (wheel_at_place wheels place)

-- with zero control the printed line is a line under it
abbrev pub PrintsUnderZeroControl : Type 0
PrintsUnderZeroControl = (wheels : List Wheel) → IsZeroControlled wheels (printed_line true wheels)

-- without it each wheel prints the character of what it received
abbrev pub PrintsFreely : Type 0
PrintsFreely = (wheels : List Wheel) → printed_line false wheels ≡ map (λ wheel. character_of wheel.received) wheels
