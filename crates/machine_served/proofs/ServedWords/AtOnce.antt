-- Units in any states can act at once: each point has its picture, and sensing that gives the states before the next point.
use Rattle.std.proofs.Common.{◌≡◌, ◌∙◌, ap, refl, ℕ, zero, suc, ◌+◌, Bool}
use Rattle.std.proofs.Math.Numerals.{add-one}
use Rattle.hubs.specs.declared.hub.Hub.{Hub}
use Rattle.hubs.specs.SetupsWords.Wiring.{Wiring}
use Rattle.net.proofs.EachPicture.{each_picture}
use Rattle.net.specs.Cycles.{point_at}
use Rattle.net.specs.Impulsed.{IsPicture}
use Rattle.net.specs.declared.cycle.Cycle.{Cycle}
use Rattle.machine_served.specs.ServedWords.Laws.{UnitsCanActAtOnce}
use Rattle.net.specs.Units.{Kind}
use Rattle.machine_served.specs.ServedWords.Units.{all_close, all_emit}

module _ {State : Type 0} (kind : Kind State) (wiring : Wiring) (cycle : Cycle) (count : ℕ) (units : ℕ → State) where
  picture_by : (ℕ → State) → ℕ → Hub → Bool
  picture_by states place =
      (each_picture wiring (all_emit kind count states cycle (point_at place)) (all_close kind count states cycle (point_at place))).0

  is_picture_by : (states : ℕ → State) (place : ℕ)
      → IsPicture wiring (all_emit kind count states cycle (point_at place)) (all_close kind count states cycle (point_at place))
      (picture_by states place)
  unfolding picture_by
  is_picture_by states place =
      (each_picture wiring (all_emit kind count states cycle (point_at place)) (all_close kind count states cycle (point_at place))).1

  states_from : ℕ → ℕ → State
  states_from zero unit = units unit
  states_from (suc place) unit =
      kind.sensed (states_from place unit) cycle (point_at place) (picture_by (states_from place) place)

  sensed_from : (place unit : ℕ)
      → states_from (place + 1) unit
      ≡ kind.sensed (states_from place unit) cycle (point_at place) (picture_by (states_from place) place)
  unfolding states_from
  sensed_from place unit = ap (λ (p : ℕ). states_from p unit) (add-one place)

  from_start : (unit : ℕ) → states_from 0 unit ≡ units unit
  unfolding states_from
  from_start unit = refl

pub units_act : (State : Type 0) → UnitsCanActAtOnce State
units_act State kind wiring cycle count units numbered = record {
  states = states_from kind wiring cycle count units;
  from = from_start kind wiring cycle count units;
  at_once = record {
    numbered = λ unit is. ap kind.number (from_start kind wiring cycle count units unit) ∙ numbered unit is;
    pictures = λ place. picture_by kind wiring cycle count units (states_from kind wiring cycle count units place) place;
    are_pictures =
        λ place low. is_picture_by kind wiring cycle count units (states_from kind wiring cycle count units place) place;
    sensed = λ place unit low is. sensed_from kind wiring cycle count units place unit;
  };
}
