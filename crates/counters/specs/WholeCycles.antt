-- A counter group through a cycle: it senses the picture of each point in turn, and then ends the cycle. At each position the
-- earliest of the rows 9 to 1 counts at which its entry is impulsed, and the digits of these rows make the number that is entered. A
-- carry comes in where the carry entry is impulsed at the closing point.
use Rattle.std.specs.Prelude.{◌≡◌, ℕ, zero, suc, ◌+◌, ◌^◌, ◌||◌, Bool, List, [], ◌∷◌, replicate, if◌then◌else◌}
use Rattle.card_code.specs.Rows.{row_number}
use Rattle.card_code.specs.declared.row.Row.{Row as CardRow}
use Rattle.card_code.specs.declared.row.Row.TheVariants.{Nine, Eight, Seven, Six, Five, Four, Three, Two, One}
use Rattle.hubs.specs.declared.hub.Group.{Group}
use Rattle.hubs.specs.declared.hub.Hub.{Hub}
use Rattle.hubs.specs.declared.hub.Hub.TheVariants.{CI, GE}
use Rattle.net.specs.Cycles.{points}
use Rattle.net.specs.WholeCycles as units
use Rattle.net.specs.WholeCycles.{after_points}
use Rattle.net.specs.declared.cycle.Cycle.{Cycle}
use Rattle.net.specs.declared.cycle.Point.{Point}
use Rattle.net.specs.declared.cycle.Point.TheVariants.{C, K, Row}
use Rattle.counters.specs.Counters.{Counter, controls_of, counter_ended, counter_sensed, wheels_in}
use Rattle.counters.specs.Laws.{IsCounter}
use Rattle.counters.specs.Numbers.{added_number, left_number, number, start_number}
use Rattle.counters.specs.Wheels.{carries_in}
use Rattle.counters.specs.declared.controls.Controls.{Controls}

-- what a group becomes by a whole cycle
abbrev pub after_cycle : Cycle → (Point → Hub → Bool) → Counter → Counter
after_cycle cycle pictures counter = units.after_cycle counter_sensed counter_ended cycle pictures counter

-- the rows whose digits are entered, the earliest first
abbrev pub digit_rows : List CardRow
digit_rows = Nine ∷ Eight ∷ Seven ∷ Six ∷ Five ∷ Four ∷ Three ∷ Two ∷ One ∷ []

-- the digit of the first of some rows at which an entry is impulsed, and 0 where it is impulsed at none of them
abbrev pub first_digit : (CardRow → Bool) → List CardRow → ℕ
first_digit impulsed [] = 0
first_digit impulsed (row ∷ others) = if impulsed row then row_number row else first_digit impulsed others

-- the digit that the pictures of a cycle give to a position of a group: that of the earliest row at which its entry is impulsed
abbrev pub digit_given : Group → (Point → Hub → Bool) → ℕ → ℕ
digit_given name pictures position = first_digit (λ row. pictures (Row row) (GE name position)) digit_rows

-- digits by position, of which 1 is the units, as a list from the top down
abbrev pub listed : (ℕ → ℕ) → ℕ → List ℕ
listed digit zero = []
listed digit (suc position) = digit (position + 1) ∷ listed digit position

-- the digits that the pictures of a cycle give to the positions of a group, from the top down
abbrev pub digits_given : Group → (Point → Hub → Bool) → List ℕ
digits_given name pictures = listed (digit_given name pictures) name.width

-- a group after the points of a cycle
abbrev pub after_its_points : Cycle → (Point → Hub → Bool) → Counter → Counter
after_its_points cycle pictures counter = after_points counter_sensed cycle pictures points counter

-- The carry entry of a group is impulsed as in a ring, or without one: where it is a ring, as a carry leaves the top; else never.
abbrev pub ComesRound : Bool → Counter → Cycle → (Point → Hub → Bool) → Type 0
ComesRound is_ring counter cycle pictures =
    pictures K (CI counter.name) ≡ carries_in is_ring (wheels_in (after_its_points cycle pictures counter))

-- A group goes through a cycle by its pictures with these controls and these digits: after the points it has the controls, and under
-- plus or minus it has entered the digits; a carry came in where its carry entry was impulsed; and where that was as in a ring, or
-- without one, its number becomes what is left of the sum of where it starts and what is added.
pub record GoesThrough (counter : Counter) (cycle : Cycle) (pictures : Point → Hub → Bool) (controls : Controls) (digits : List ℕ)
    : Type 0 where
  pub controlled : (after_its_points cycle pictures counter).controls ≡ controls
  pub entered :
      (after_its_points cycle pictures counter).entered
      ≡ (if controls.plus || controls.minus then digits else counter.entered)
  pub carry : (after_its_points cycle pictures counter).carry ≡ pictures K (CI counter.name)
  pub number :
      (is_ring : Bool) → ComesRound is_ring counter cycle pictures
      → number (after_cycle cycle pictures counter).digits
      ≡ left_number is_ring (10 ^ counter.name.width)
      (start_number controls (number counter.digits) + added_number controls (10 ^ counter.name.width) (number digits))

-- A group in which nothing is entered, as at the start and after each cycle, goes through every cycle with the controls that are
-- impulsed at the control point and the digits of the earliest rows.
abbrev pub EarliestRowsAreEntered : Type 0
EarliestRowsAreEntered =
    (counter : Counter) (cycle : Cycle) (pictures : Point → Hub → Bool)
    → IsCounter counter → counter.entered ≡ replicate counter.name.width 0
    → GoesThrough counter cycle pictures (controls_of counter.name (pictures C)) (digits_given counter.name pictures)
