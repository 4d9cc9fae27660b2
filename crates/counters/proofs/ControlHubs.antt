-- The control hubs of the groups follow one another, by their units.
use Rattle.std.proofs.Common.{◌≡◌, ◌∙◌, refl, sym, ap, ℕ, ◌+◌, ◌-◌, ◌%◌, ◌<◌, ◌≤◌, Bool, Some, arith}
use Rattle.std.specs.Prelude.{option_map}
use Rattle.std.proofs.lemmas.Bool.Decides.{nat_tests}
use Rattle.hubs.specs.Hubs.{number_of}
use Rattle.hubs.specs.HubTable.Places.{group_place}
use Rattle.hubs.specs.declared.hub.Hub.{Hub}
use Rattle.hubs.specs.declared.hub.Hub.TheVariants.{PL, MI, RO, BT}
use Rattle.net.specs.HubSets.{is_bit}
use Rattle.net.specs.Orders.{IsRowOf}
use Rattle.net.proofs.Rows.{row_read}
use Rattle.net.specs.Panel.{unit_after, unit_of}
use Rattle.counters.specs.Counters.{controls_of, group_of_unit, width_of}
use Rattle.counters.specs.declared.controls.Controls.{Controls}

-- controls by their tests
abbrev pub controls_made : Bool → Bool → Bool → Bool → Controls
controls_made plus minus read_out test = record { plus = plus; minus = minus; read_out = read_out; test = test }

-- the place of a group among all groups
pub group_place-unit : (unit : ℕ) → 3 ≤ unit → unit ≤ 34 → group_place (width_of unit) ((unit - 3) % 8 + 1) ≡ Some (unit - 2)
group_place-unit unit from to = grind (arith, nat_tests)

-- the unit of the group that is a unit
pub unit_of-group_of_unit : (unit : ℕ) → 3 ≤ unit → unit ≤ 34 → unit_of (group_of_unit unit) ≡ unit
unit_of-group_of_unit unit from to =
    let e : 2 + (unit - 2) ≡ unit = omega arith in
    ap (unit_after 2) (group_place-unit unit from to) ∙ e

placed : (before first unit k : ℕ) → 3 ≤ unit → unit ≤ 34 → first + k ≡ before + (unit - 2)
    → option_map (λ place. before + place) (group_place (width_of unit) ((unit - 3) % 8 + 1)) ≡ Some (first + k)
placed before first unit k from to is =
    ap (option_map (λ place. before + place)) (group_place-unit unit from to) ∙ ap Some (sym is)

pub number_of-PL : (unit : ℕ) → 3 ≤ unit → unit ≤ 34 → number_of (PL (group_of_unit unit)) ≡ Some (1269 + (unit - 3))
number_of-PL unit from to = placed 1268 1269 unit (unit - 3) from to (omega arith)

pub number_of-MI : (unit : ℕ) → 3 ≤ unit → unit ≤ 34 → number_of (MI (group_of_unit unit)) ≡ Some (1269 + (unit - 3 + 32))
number_of-MI unit from to = placed 1300 1269 unit (unit - 3 + 32) from to (omega arith)

pub number_of-RO : (unit : ℕ) → 3 ≤ unit → unit ≤ 34 → number_of (RO (group_of_unit unit)) ≡ Some (1269 + (unit - 3 + 64))
number_of-RO unit from to = placed 1332 1269 unit (unit - 3 + 64) from to (omega arith)

pub number_of-BT : (unit : ℕ) → 3 ≤ unit → unit ≤ 34 → number_of (BT (group_of_unit unit)) ≡ Some (1269 + (unit - 3 + 96))
number_of-BT unit from to = placed 1364 1269 unit (unit - 3 + 96) from to (omega arith)

-- a bit of the row of control hubs
control_bit : (hub : Hub) (k bits : ℕ) (picture : Hub → Bool) (test : Bool) → number_of hub ≡ Some (1269 + k) → k < 128
    → IsRowOf (PL (record { width = 3; number = 1 })) picture bits → test ≡ is_bit bits k → test ≡ picture hub
control_bit hub k bits picture test numbered near row is =
    is ∙ row_read (PL (record { width = 3; number = 1 })) hub 1269 k bits picture refl numbered near row

-- the controls of a group from the row
pub controls_of-row :
    (unit bits : ℕ) (picture : Hub → Bool) (plus minus read_out test : Bool) → 3 ≤ unit → unit ≤ 34 → IsRowOf (PL (record { width = 3; number = 1 })) picture bits
    → plus ≡ is_bit bits (unit - 3) → minus ≡ is_bit bits (unit - 3 + 32) → read_out ≡ is_bit bits (unit - 3 + 64)
    → test ≡ is_bit bits (unit - 3 + 96)
    → controls_made plus minus read_out test ≡ controls_of (group_of_unit unit) picture
controls_of-row unit bits picture plus minus read_out test from to row p m r t =
    let name = group_of_unit unit in
    let e = control_bit (PL name) (unit - 3) bits picture plus (number_of-PL unit from to) (omega arith) row p in
    let f = control_bit (MI name) (unit - 3 + 32) bits picture minus (number_of-MI unit from to) (omega arith) row m in
    let g = control_bit (RO name) (unit - 3 + 64) bits picture read_out (number_of-RO unit from to) (omega arith) row r in
    let h = control_bit (BT name) (unit - 3 + 96) bits picture test (number_of-BT unit from to) (omega arith) row t in
    ap (λ b. controls_made b minus read_out test) e
    ∙ ap (λ b. controls_made (picture (PL name)) b read_out test) f
    ∙ ap (λ b. controls_made (picture (PL name)) (picture (MI name)) b test) g
    ∙ ap (λ b. controls_made (picture (PL name)) (picture (MI name)) (picture (RO name)) b) h
