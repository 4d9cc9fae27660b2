-- From what is given from the left, wheel by wheel, to the relation of each wheel to its left neighbour.
use Rattle.std.proofs.Common.{◌≡◌, refl, ap, ℕ, zero, suc, ◌+◌, ◌<◌, ◌&&◌, ◌||◌, Bool, true, false, List, [], ◌∷◌, map, length, slice_index_or, arith}
use Rattle.std.proofs.lemmas.Bool.Decides.{nat_tests}
use Rattle.print_unit.specs.Laws.{wheel_at_place, IsZeroControlled}
use Rattle.print_unit.specs.ZeroControl.{Wheel, is_figure, shown, character_of, printed_line, printed_from, has_significance, gives}

-- the significance of the wheel at a place, where the first one is given it or not
significance_at : Bool → List Wheel → ℕ → Bool
significance_at given [] place = false
significance_at given (wheel ∷ others) zero = wheel.link && given
significance_at given (wheel ∷ others) (suc place) =
    significance_at (gives (has_significance true given wheel) wheel) others place

-- each wheel but the first is given it by its left neighbour
significance-next : (given : Bool) (wheels : List Wheel) (place : ℕ) → suc place < length wheels
    → significance_at given wheels (suc place)
    ≡ ((wheel_at_place wheels (suc place)).link && (significance_at given wheels place || is_figure (wheel_at_place wheels place).received))
unfolding significance_at
significance-next given [] place below = absurd (omega (arith, below))
significance-next given (wheel ∷ []) place below = absurd (omega (arith, below))
significance-next given (wheel ∷ (other ∷ others)) zero below = refl
significance-next given (wheel ∷ (other ∷ others)) (suc place) below =
    significance-next (gives (has_significance true given wheel) wheel) (other ∷ others) place (omega (arith, below))

-- each wheel shows what it received by its significance
printed_from-shows : (given : Bool) (wheels : List Wheel) (place : ℕ) → place < length wheels
    → slice_index_or (printed_from true given wheels) place 0 ≡ shown (significance_at given wheels place) (wheel_at_place wheels place)
unfolding significance_at
printed_from-shows given [] place below = absurd (omega (arith, below))
printed_from-shows given (wheel ∷ others) zero below = refl
printed_from-shows given (wheel ∷ others) (suc place) below =
    printed_from-shows (gives (has_significance true given wheel) wheel) others place (omega (arith, below))

-- a line has a character for each wheel
printed_from-long : (control given : Bool) (wheels : List Wheel) → length (printed_from control given wheels) ≡ length wheels
printed_from-long control given [] = refl
printed_from-long control given (wheel ∷ others) =
    ap suc (printed_from-long control (gives (has_significance control given wheel) wheel) others)

-- nothing is given to the first wheel
significance-first : (wheels : List Wheel) → significance_at false wheels 0 ≡ false
unfolding significance_at
significance-first [] = refl
significance-first (wheel ∷ others) = grind (arith, nat_tests)

-- the line under zero control
pub printed_from-controlled : (wheels : List Wheel) → IsZeroControlled wheels (printed_line true wheels)
printed_from-controlled wheels = record {
  has = significance_at false wheels;
  first = significance-first wheels;
  next = λ place below.
      let more : place + 1 ≡ suc place = omega arith in
      rw more (significance-next false wheels place (omega (arith, below)));
  long = printed_from-long true false wheels;
  shows = λ place below. printed_from-shows false wheels place below;
}

-- the line without it
pub printed_from-freely : (given : Bool) (wheels : List Wheel)
    → printed_from false given wheels ≡ map (λ wheel. character_of wheel.received) wheels
printed_from-freely given [] = refl
printed_from-freely given (wheel ∷ others) = rw (printed_from-freely true others) refl
