-- The words of the wheels: bit k of a word stands for wheel k + 1, and each wheel has the set of the rows that it received. There is a
-- word for each kind of jack. What is said here is for proofs: the wheels' rules stand in Wheels and ZeroControl.
use Rattle.std.specs.Prelude.{◌≡◌, ℕ, zero, suc, ◌+◌, ◌<◌, ◌&&◌, ◌||◌, not, nat_le, Bool, false, List, length, map, slice_index_or, if◌then◌else◌}
use Rattle.std.specs.List.{range_with_len}
use Rattle.hubs.specs.SetupsWords.Wiring.{Wiring, is_plugged}
use Rattle.hubs.specs.declared.jack.Jack.{Jack}
use Rattle.hubs.specs.declared.jack.Jack.TheVariants as jack
use Rattle.net.specs.HubSets.{is_bit}
use Rattle.print_unit.specs.RowSets.{rows_in}
use Rattle.print_unit.specs.Wheels.{WheelsState}
use Rattle.print_unit.specs.ZeroControl.{Wheel, is_zero, is_figure, character_of}
use Rattle.print_unit.specs.declared.wheel_words.WheelJack.{WheelJack}
use Rattle.print_unit.specs.declared.wheel_words.WheelJack.TheVariants.{Link, Suppress, Symbol}
use Rattle.print_unit.specs.declared.wheels.Wheels.TheInside as inside

-- the rows that the wheel of a bit received, by the sets of the wheels
abbrev pub received_at : List ℕ → ℕ → List Bool
received_at sets k = rows_in (slice_index_or sets k 0)

-- the line has the characters of the first wheels
pub record HasPrinted (sets : List ℕ) (count : ℕ) (line : List ℕ) : Type 0 where
  pub characters : (k : ℕ) → k < count → slice_index_or line k 0 ≡ character_of (received_at sets k)
  pub wheels : length line ≡ 120

-- the wheel of a bit
abbrev pub wheel_at : inside.Inside → ℕ → Wheel
wheel_at words k = record {
  received = received_at words.sets k;
  link = is_bit words.link k;
  suppress = is_bit words.suppress k;
  symbol = is_bit words.symbol k;
}

-- the wheels, and the line that they printed
abbrev pub state_of : inside.Inside → WheelsState
state_of words = record { wheels = map (wheel_at words) (range_with_len 0 120); line = words.line }

-- a jack of a wheel
abbrev pub jack_of : WheelJack → ℕ → Jack
jack_of Link v = jack.Link v
jack_of Suppress v = jack.Suppress v
jack_of Symbol v = jack.Symbol v

-- the word has the wheels whose jack is plugged
abbrev pub ArePlugged : Wiring → WheelJack → ℕ → Type 0
ArePlugged wiring kind word = (k : ℕ) → k < 120 → is_bit word k ≡ is_plugged wiring (jack_of kind (k + 1))

-- whether the wheel of a bit is given significance by its left neighbour, by the word of LINK and what the wheels received
abbrev pub given_by : (ℕ → List Bool) → ℕ → ℕ → Bool
given_by received link zero = false
given_by received link (suc k) = is_bit link k && given_by received link k || is_figure (received k)

-- whether zero control makes the wheel of a bit blank
abbrev pub hides : (ℕ → List Bool) → ℕ → ℕ → ℕ → ℕ → Bool
hides received link suppress symbol k =
    not (is_bit link k && given_by received link k) && (is_bit symbol k || is_bit suppress k && is_zero (received k))

-- The word has the wheels that are given significance: nothing is given to the first, and a wheel gives it to the next
-- where it has it, or received a figure.
pub record IsGiven (link figures given : ℕ) : Type 0 where
  pub first : is_bit given 0 ≡ false
  pub next : (k : ℕ) → k < 119 → is_bit given (k + 1) ≡ (is_bit link k && is_bit given k || is_bit figures k)

-- what the wheel of a bit prints
abbrev pub printed_at : List ℕ → ℕ → ℕ → ℕ
printed_at sets hidden k = if is_bit hidden k then 32 else character_of (received_at sets k)

-- whether a character is one of those from the first one on that come before another
abbrev pub is_between : ℕ → ℕ → ℕ → Bool
is_between first last character = nat_le first character && not (nat_le last character)
