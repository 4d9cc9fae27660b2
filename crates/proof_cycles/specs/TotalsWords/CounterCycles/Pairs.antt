-- Two counter groups through which one carry goes, told alike, as one counter: what they are asked in a cycle, and what they then
-- hold. Their positions are counted from the units of the lower group on; above its top come those of the upper one.
use Rattle.std.specs.Prelude.{◌≡◌, ℕ, ◌+◌, ◌==◌, ◌≤◌, Bool}
use Rattle.counters.specs.Counters.{Counter, shows, wheels_in}
use Rattle.counters.specs.Laws.{IsCounter, number_of_both}
use Rattle.counters.specs.Rings.{CarryThrough}
use Rattle.counters.specs.WholeCycles.{after_cycle, after_its_points}
use Rattle.hubs.specs.declared.hub.Group.{Group}
use Rattle.hubs.specs.declared.hub.Hub.{Hub}
use Rattle.hubs.specs.declared.hub.Hub.TheVariants.{GX, MI, PL, RO}
use Rattle.net.specs.declared.cycle.Cycle.{Cycle}
use Rattle.net.specs.declared.cycle.Point.{Point}
use Rattle.net.specs.declared.cycle.Point.TheVariants as point
use Rattle.proof_cycles.specs.TotalsWords.CounterCycles.Acts.{Act, Held, IsControlled, IsWithinGroup, Spells, act_controls, digit_of, held_after}
use Rattle.proof_cycles.specs.TotalsWords.CounterCycles.Acts.Act.{Minus, Plus, Turn}
use Rattle.proof_cycles.specs.TotalsWords.CounterCycles.Laws.{IsBetweenCycles}

-- what two groups hold as one: the number of both, and the latch of the upper one
abbrev pub held_by_both : Counter → Counter → Held
held_by_both upper lower = record { number = number_of_both upper.digits lower.digits; latch = upper.latch }

-- the entries of both groups spell digits, by their positions in both
pub record SpellInBoth (upper lower : Group) (digit : ℕ → ℕ) (pictures : Point → Hub → Bool) : Type 0 where
  pub below : Spells lower digit pictures
  pub above : Spells upper (λ position. digit (lower.width + position)) pictures

-- what is to be entered for what is asked of two groups that hold a number; without plus and minus it may be anything
abbrev pub EnteredInBoth : Act → ℕ → Group → Group → (Point → Hub → Bool) → Type 0
EnteredInBoth Turn held upper lower pictures = SpellInBoth upper lower (digit_of held) pictures
EnteredInBoth (Plus number) held upper lower pictures = SpellInBoth upper lower (digit_of number) pictures
EnteredInBoth (Minus number) held upper lower pictures = SpellInBoth upper lower (digit_of number) pictures
EnteredInBoth other held upper lower pictures = Unit {0}

-- By the pictures of a cycle's points this is asked of two groups that hold a number. They are told alike, but that the lower one
-- may be told to test its balance or not.
pub record AsksBoth (act : Act) (held : ℕ) (upper lower : Group) (pictures : Point → Hub → Bool) : Type 0 where
  pub controls : IsControlled upper (act_controls act) pictures
  pub plus : pictures point.C (PL lower) ≡ (act_controls act).plus
  pub minus : pictures point.C (MI lower) ≡ (act_controls act).minus
  pub read_out : pictures point.C (RO lower) ≡ (act_controls act).read_out
  pub entered : EnteredInBoth act held upper lower pictures

-- Two groups after a cycle hold what the act leaves of what one group of as many positions as both would hold, and are ready.
pub record HaveDone (is_ring : Bool) (act : Act) (upper lower above below : Counter) : Type 0 where
  pub held : held_by_both above below ≡ held_after is_ring (upper.name.width + lower.name.width) act (held_by_both upper lower)
  pub upper_ready : IsBetweenCycles above
  pub lower_ready : IsBetweenCycles below
  pub upper_name : above.name ≡ upper.name
  pub lower_name : below.name ≡ lower.name

-- Two groups through which one carry goes do what is asked of both, on the line or as a ring.
abbrev pub PairsDoWhatIsAsked : Type 0
PairsDoWhatIsAsked =
    (is_ring : Bool) (act : Act) (upper lower : Counter) (cycle : Cycle) (pictures : Point → Hub → Bool)
    → IsBetweenCycles upper
    → IsBetweenCycles lower
    → IsWithinGroup (upper.name.width + lower.name.width) act
    → AsksBoth act (number_of_both upper.digits lower.digits) upper.name lower.name pictures
    → CarryThrough is_ring (pictures point.K) upper.name lower.name (wheels_in (after_its_points cycle pictures upper))
    (wheels_in (after_its_points cycle pictures lower))
    → HaveDone is_ring act upper lower (after_cycle cycle pictures upper) (after_cycle cycle pictures lower)

-- The exits of both groups show the digits of their number.
pub record ShowTheirNumber (upper lower : Counter) : Type 0 where
  pub below :
      (given position : ℕ) → 1 ≤ position → position ≤ lower.name.width
      → shows lower.name given lower.digits (GX lower.name position)
      ≡ (digit_of (number_of_both upper.digits lower.digits) position == given)
  pub above :
      (given position : ℕ) → 1 ≤ position → position ≤ upper.name.width
      → shows upper.name given upper.digits (GX upper.name position)
      ≡ (digit_of (number_of_both upper.digits lower.digits) (lower.name.width + position) == given)

abbrev pub PairsShowTheirDigits : Type 0
PairsShowTheirDigits = (upper lower : Counter) → IsCounter upper → IsCounter lower → ShowTheirNumber upper lower
