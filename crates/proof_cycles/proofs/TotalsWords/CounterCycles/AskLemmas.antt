-- Pictures that ask something, and groups at the start.
use Rattle.std.proofs.Common.{◌≡◌, refl, ap, ℕ, zero, suc, ◌==◌, Bool, false, replicate, arith}
use Rattle.card_code.specs.Rows.{row_number}
use Rattle.hubs.specs.declared.hub.Group.{Group}
use Rattle.hubs.specs.declared.hub.Hub.{Hub}
use Rattle.hubs.specs.declared.hub.Hub.TheVariants.{BT, GE, MI, PL, RO}
use Rattle.net.specs.declared.cycle.Point.{Point}
use Rattle.net.specs.declared.cycle.Point.TheVariants.{C, Row}
use Rattle.counters.specs.Counters.{width_of}
use Rattle.counters.specs.Numbers.{number}
use Rattle.counters.proofs.Staying.{counters-stay}
use Rattle.proof_cycles.specs.TotalsWords.CounterCycles.Acts.{Act, Entered, act_controls, digit_of}
use Rattle.proof_cycles.specs.TotalsWords.CounterCycles.Acts.Act.{Minus, Plus, Show, Still, Test, Turn}
use Rattle.proof_cycles.specs.TotalsWords.CounterCycles.Laws.{EverythingCanBeAsked, GroupsBeginEmpty}

-- the number that is spelt for what is asked of a group that holds a number
abbrev spelt_for : Act → ℕ → ℕ
spelt_for (Plus n) held = n
spelt_for (Minus n) held = n
spelt_for other held = held

-- pictures that ask something of all groups
abbrev asking : Act → ℕ → Point → Hub → Bool
asking act held C (PL name) = (act_controls act).plus
asking act held C (MI name) = (act_controls act).minus
asking act held C (RO name) = (act_controls act).read_out
asking act held C (BT name) = (act_controls act).test
asking act held (Row row) (GE name position) = digit_of (spelt_for act held) position == row_number row
asking act held point hub = false

asking-entered : (act : Act) (held : ℕ) (name : Group) → Entered act held name (asking act held)
asking-entered Still held name = tt
asking-entered Test held name = tt
asking-entered Turn held name = λ row from to position least most. refl
asking-entered Show held name = tt
asking-entered (Plus n) held name = λ row from to position least most. refl
asking-entered (Minus n) held name = λ row from to position least most. refl

pub all-asked : EverythingCanBeAsked
all-asked act held name = (
  asking act held,
  record {
    controls = record { plus = refl; minus = refl; read_out = refl; test = refl };
    entered = asking-entered act held name;
  },
)

-- zeros spell 0
pub number-zeros : (count : ℕ) → number (replicate count 0) ≡ 0
number-zeros zero = refl
number-zeros (suc count) = omega (arith, number-zeros count)

pub groups-begin : GroupsBeginEmpty
groups-begin unit from to = (
  record { is_counter = counters-stay.start unit from to; entered = refl },
  ap (λ n. record { number = n; latch = false }) (number-zeros (width_of unit)),
)
