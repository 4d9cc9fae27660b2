-- The selectors through a cycle, and their sides.
use Rattle.std.proofs.Common.{◌≡◌, ◌-◌, ◌∙◌, refl, sym, arith, ℕ, Bool, true, false, not, ◌&&◌, ◌||◌, List, [], ◌∷◌, slice_index_or}
use Rattle.std.specs.Prelude.{is_some}
use Rattle.std.proofs.lemmas.Bool.Decides.{nat_tests}
use Rattle.std.proofs.lemmas.List.FromFn.{get_or-map-range_with_len}
use Rattle.card_code.specs.declared.row.Row.TheVariants.{Eleven}
use Rattle.hubs.specs.HubTable.Ranges.{is_within}
use Rattle.hubs.specs.declared.hub.Group.{Group}
use Rattle.hubs.specs.declared.hub.Hub.{Hub}
use Rattle.hubs.specs.declared.hub.Hub.TheVariants.{CO, BAN, BAT, PIN, PIT, PIX, IX, CSD, CSZ}
use Rattle.net.specs.Panel.{contact_of}
use Rattle.net.specs.WholeCycles.{after_points}
use Rattle.net.specs.declared.cycle.Cycle.{Cycle}
use Rattle.net.specs.declared.cycle.Cycle.TheVariants.{RunIn, Card}
use Rattle.net.specs.declared.cycle.Point.{Point}
use Rattle.net.specs.declared.cycle.Point.TheVariants.{C, Row, K}
use Rattle.selectors.specs.Contacts.{balance_closes, carry_closes, has_balance, is_balance_set, closed_contacts}
use Rattle.selectors.specs.Indicate.{Latches, indicate_closes}
use Rattle.selectors.specs.Numbered.{tests_to}
use Rattle.selectors.specs.Pilots.{PilotStates, is_transferred, moves_pilots, no_pilots, pilots_closes, pilots_sensed, pickups}
use Rattle.selectors.specs.Splits.{split_closes, is_digit_row}
use Rattle.selectors.specs.WholeCycles.{after_cycle}

-- the pickup of a pilot among those that are impulsed
pickup_at : (picture : Hub → Bool) (pilot : ℕ)
    → (is_within pilot 16 && slice_index_or (pickups picture) (pilot - 1) false) ≡ (is_within pilot 16 && picture (PIX pilot))
unfolding tests_to
pickup_at picture pilot = by (is_within pilot 16) refl
  where
    by : (within : Bool) → is_within pilot 16 ≡ within
        → (within && slice_index_or (pickups picture) (pilot - 1) false) ≡ (within && picture (PIX pilot))
    by true is = get_or-map-range_with_len (λ p. picture (PIX p)) 1 16 (pilot - 1) pilot false (grind (arith, nat_tests, is)) (grind (arith, nat_tests, is))
    by false is = refl

pub pilots_moved : (pilots : PilotStates) (cycle : Cycle) (pictures : Point → Hub → Bool) (pilot : ℕ) → moves_pilots cycle ≡ true
    → is_transferred (after_cycle cycle pictures pilots) pilot ≡ (is_within pilot 16 && pictures (Row Eleven) (PIX pilot))
pilots_moved pilots RunIn pictures pilot moves = pickup_at (pictures (Row Eleven)) pilot
pilots_moved pilots Card pictures pilot moves = pickup_at (pictures (Row Eleven)) pilot
pilots_moved pilots cycle pictures pilot moves = cc

pub pilots_forgotten : (pilots : PilotStates) (cycle : Cycle) (pictures : Point → Hub → Bool) → moves_pilots cycle ≡ true
    → (after_cycle cycle pictures pilots).picked_up ≡ no_pilots
pilots_forgotten pilots RunIn pictures moves = refl
pilots_forgotten pilots Card pictures moves = refl
pilots_forgotten pilots cycle pictures moves = cc

pub pilots_left : (pilots : PilotStates) (cycle : Cycle) (pictures : Point → Hub → Bool) (pilot : ℕ) → moves_pilots cycle ≡ false
    → is_transferred (after_cycle cycle pictures pilots) pilot ≡ is_transferred pilots pilot
pilots_left pilots RunIn pictures pilot moves = cc
pilots_left pilots Card pictures pilot moves = cc
pilots_left pilots cycle pictures pilot moves = refl

pub pilots_stand : (pilots : PilotStates) (cycle : Cycle) (pictures : Point → Hub → Bool) (before : List Point) (point : Point) (hub : Hub)
    → pilots_closes (after_points pilots_sensed cycle pictures before pilots) cycle point hub ≡ pilots_closes pilots cycle point hub
pilots_stand pilots cycle pictures [] point hub = refl
pilots_stand pilots cycle pictures (first ∷ others) point hub =
    pilots_stand (pilots_sensed pilots cycle first (pictures first)) cycle pictures others point hub

other_side : (there set : Bool) → there ≡ true → (there && set) ≡ not (there && not set)
other_side true true is = refl
other_side true false is = refl
other_side false set is = cc

pub one_side_of_balance : (latches : List Bool) (group : Group) (position : ℕ) → has_balance group position ≡ true
    → balance_closes latches (BAT group position) ≡ not (balance_closes latches (BAN group position))
one_side_of_balance latches group position there = other_side (has_balance group position) (is_balance_set latches group) there

pub one_side_of_pilot : (pilots : PilotStates) (cycle : Cycle) (point : Point) (pilot position : ℕ) → is_within pilot 16 ≡ true
    → is_within position 3 ≡ true
    → pilots_closes pilots cycle point (PIT pilot position) ≡ not (pilots_closes pilots cycle point (PIN pilot position))
one_side_of_pilot pilots cycle point pilot position is_pilot is_position =
    by (is_within pilot 16) (is_within position 3) (slice_index_or pilots.transferred (pilot - 1) false) is_pilot is_position
  where
    by : (a b set : Bool) → a ≡ true → b ≡ true → ((a && set) && b) ≡ not ((a && not set) && b)
    by a b set is is_too = grind (arith, is, is_too)

pub one_side_of_split : (point : Point) (split : ℕ) → (split_closes point (CSD split) && split_closes point (CSZ split)) ≡ false
one_side_of_split (Row row) split = by (is_digit_row row) (is_within split 16)
  where
    by : (digit within : Bool) → ((digit && within) && (not digit && within)) ≡ false
    by digit within = grind arith
one_side_of_split C split = refl
one_side_of_split K split = refl

pub no_split_at_control : (hub : Hub) → split_closes C hub ≡ false
no_split_at_control hub = refl

pub no_split_at_closing : (hub : Hub) → split_closes K hub ≡ false
no_split_at_closing hub = refl

-- no owner closes what is no contact
balance_other : (latches : List Bool) (hub : Hub) → is_some (contact_of hub) ≡ false → balance_closes latches hub ≡ false
balance_other latches (BAN group position) none = cc
balance_other latches (BAT group position) none = cc
balance_other latches hub none = refl

pilots_other : (pilots : PilotStates) (cycle : Cycle) (point : Point) (hub : Hub) → is_some (contact_of hub) ≡ false
    → pilots_closes pilots cycle point hub ≡ false
pilots_other pilots cycle point (PIN pilot position) none = cc
pilots_other pilots cycle point (PIT pilot position) none = cc
pilots_other pilots cycle point hub none = refl

indicate_other : (latches : Latches) (cycle : Cycle) (point : Point) (hub : Hub) → is_some (contact_of hub) ≡ false
    → indicate_closes latches cycle point hub ≡ false
indicate_other latches Card point (IX level position) none = cc
indicate_other latches cycle point hub none = refl

split_other : (point : Point) (hub : Hub) → is_some (contact_of hub) ≡ false → split_closes point hub ≡ false
split_other (Row row) (CSD split) none = cc
split_other (Row row) (CSZ split) none = cc
split_other point hub none = refl

carry_other : (point : Point) (nines : List Bool) (hub : Hub) → is_some (contact_of hub) ≡ false → carry_closes point nines hub ≡ false
carry_other point nines (CO group) none = cc
carry_other point nines hub none = refl

pub are_contacts : (cycle : Cycle) (point : Point) (pilots : PilotStates) (indicate : Latches) (latches nines : List Bool) (hub : Hub)
    → closed_contacts cycle point pilots indicate latches nines hub ≡ true → is_some (contact_of hub) ≡ true
are_contacts cycle point pilots indicate latches nines hub closed = by (is_some (contact_of hub)) refl
  where
    by : (is : Bool) → is_some (contact_of hub) ≡ is → is ≡ true
    by true none = refl
    by false none = sym (all_false _ _ _ _ _ (carry_other point nines hub none) (balance_other latches hub none) (pilots_other pilots cycle point hub none)
        (indicate_other indicate cycle point hub none) (split_other point hub none)) ∙ closed
      where
        all_false : (o a b c d : Bool) → o ≡ false → a ≡ false → b ≡ false → c ≡ false → d ≡ false
            → (o || (a || (b || (c || d)))) ≡ false
        all_false o a b c d n e f g h = grind (arith, n, e, f, g, h)
