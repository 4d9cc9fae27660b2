-- What can be said of a counter group and what is asked of it in a cycle, in numbers.
use Rattle.std.specs.Prelude.{◌≡◌, ◌≢◌, ℕ, ◌-◌, ◌*◌, ◌^◌, ◌≤◌, ◌<◌, ◌==◌, nat_le, Bool, false, List, All, length, replicate, slice_index}
use Rattle.hubs.specs.declared.hub.Group.{Group}
use Rattle.hubs.specs.declared.hub.Hub.{Hub}
use Rattle.hubs.specs.declared.hub.Hub.TheVariants.{GX}
use Rattle.net.specs.declared.cycle.Cycle.{Cycle}
use Rattle.net.specs.declared.cycle.Point.{Point}
use Rattle.counters.specs.Counters.{Counter, counter_at_start, no_controls, shows, top_is_nine}
use Rattle.counters.specs.Laws.{IsCounter, IsDigit}
use Rattle.counters.specs.Numbers.{number}
use Rattle.counters.specs.WholeCycles.{ComesRound, after_cycle}
use Rattle.proof_cycles.specs.TotalsWords.CounterCycles.Acts.{Act, Asks, IsWithinGroup, digit_of, held_after, held_by}
use Rattle.proof_cycles.specs.TotalsWords.CounterCycles.Digits.{spelt}

-- A group between two cycles is a group of the panel, with nothing entered.
pub record IsBetweenCycles (counter : Counter) : Type 0 where
  pub is_counter : IsCounter counter
  pub entered : counter.entered ≡ replicate counter.name.width 0

-- A group after a cycle holds what the act leaves of what it held, and is the same group, ready for the next cycle.
pub record HasDone (is_ring : Bool) (act : Act) (counter after : Counter) : Type 0 where
  pub held : held_by after ≡ held_after is_ring counter.name.width act (held_by counter)
  pub ready : IsBetweenCycles after
  pub name : after.name ≡ counter.name
  pub controls : after.controls ≡ no_controls

-- A group does what is asked of it in a cycle, as a ring or without one.
abbrev pub GroupsDoWhatIsAsked : Type 0
GroupsDoWhatIsAsked =
    (is_ring : Bool) (act : Act) (counter : Counter) (cycle : Cycle) (pictures : Point → Hub → Bool)
    → IsBetweenCycles counter → IsWithinGroup counter.name.width act
    → Asks act (number counter.digits) counter.name pictures
    → ComesRound is_ring counter cycle pictures
    → HasDone is_ring act counter (after_cycle cycle pictures counter)

-- Everything can be asked of every group: there are pictures that ask it.
abbrev pub EverythingCanBeAsked : Type 0
EverythingCanBeAsked =
    (act : Act) (held : ℕ) (name : Group) → (pictures : Point → Hub → Bool) × Asks act held name pictures

-- At the start a group is ready, holds 0, and has its latch reset.
abbrev pub GroupsBeginEmpty : Type 0
GroupsBeginEmpty =
    (unit : ℕ) → 3 ≤ unit → unit ≤ 34
    → IsBetweenCycles (counter_at_start unit)
    × (held_by (counter_at_start unit) ≡ record { number = 0; latch = false })

-- The digits of a group are those of its number, and so are the rows at which its exits show them. No other hub shows any.
pub record ShowsItsNumber (counter : Counter) : Type 0 where
  pub small : number counter.digits < 10 ^ counter.name.width
  pub digits :
      (position : ℕ) → 1 ≤ position → position ≤ counter.name.width
      → slice_index counter.digits (counter.name.width - position) ≡ digit_of (number counter.digits) position
  pub shown :
      (given position : ℕ) → 1 ≤ position → position ≤ counter.name.width
      → shows counter.name given counter.digits (GX counter.name position)
      ≡ (digit_of (number counter.digits) position == given)
  pub others :
      (given : ℕ) (hub : Hub)
      → ((position : ℕ) → 1 ≤ position → position ≤ counter.name.width → GX counter.name position ≢ hub)
      → shows counter.name given counter.digits hub ≡ false

-- Groups show the digits of their numbers.
abbrev pub GroupsShowTheirDigits : Type 0
GroupsShowTheirDigits = (counter : Counter) → IsCounter counter → ShowsItsNumber counter

-- Digits and numbers, both ways: the digits of a number spell it, and what digits spell has them. Lists give them from the
-- top down.
pub record DigitsAndNumbers : Type 0 where
  pub same :
      (one other : Counter) → IsCounter one → IsCounter other → one.name.width ≡ other.name.width
      → number one.digits ≡ number other.digits → one.digits ≡ other.digits
  pub of_list :
      (digits : List ℕ) (position : ℕ) → All IsDigit digits → 1 ≤ position → position ≤ length digits
      → slice_index digits (length digits - position) ≡ digit_of (number digits) position
  pub above : (number count position : ℕ) → number < 10 ^ count → count < position → digit_of number position ≡ 0
  pub of_spelt :
      (digit : ℕ → ℕ) (count position : ℕ) → ((other : ℕ) → 1 ≤ other → other ≤ count → digit other ≤ 9)
      → 1 ≤ position → position ≤ count → digit_of (spelt digit count) position ≡ digit position
  pub of_number : (number count : ℕ) → number < 10 ^ count → spelt (digit_of number) count ≡ number
  pub small :
      (digit : ℕ → ℕ) (count : ℕ) → ((other : ℕ) → 1 ≤ other → other ≤ count → digit other ≤ 9)
      → spelt digit count < 10 ^ count

-- The top wheel of a group stands at 9 exactly where its number is nine tenths of the power of its width, or more.
abbrev pub TopWheelsAtNine : Type 0
TopWheelsAtNine =
    (counter : Counter)
    → IsCounter counter
    → top_is_nine counter.digits ≡ nat_le (9 * 10 ^ counter.name.width) (10 * number counter.digits)
