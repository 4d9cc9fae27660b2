-- The groups of a counter and the places of its positions, as the code has them and as the table has them.
use Rattle.std.proofs.Common.{◌≡◌, ◌∙◌, ℕ, ◌-◌, ◌<◌, ◌≤◌, nat_le, Bool, true, false, List, Some, option_map, refl, sym, ap, subst, inl, inr, if◌then◌else◌, arith}
use Rattle.std.proofs.lemmas.Bool.Decides.{nat_tests}
use Rattle.std.proofs.lemmas.Option.{same_Some}
use Rattle.chart_plans.specs.Below.capacity.declared.group.CounterGroup.{CounterGroup}
use Rattle.chart_lines.specs.declared.charts.chart.Line.{Line}
use Rattle.hubs.specs.declared.hub.Group.{Group}
use Rattle.hubs.specs.declared.hub.Hub.{Hub}
use Rattle.hubs.specs.declared.hub.Hub.TheVariants.{CI, CO}
use Rattle.wiring_lines.specs.LineWires.HelperAdds.{One, one, first, second}
use Rattle.wiring_lines.specs.LineWires.HelperRows.{Wires}
use Rattle.chart_plans.specs.PlansWords.Plans.{Lists}
use Rattle.chart_plans.specs.declared.plans.counter.TotalCounter.{TotalCounter}
use Rattle.chart_plans.specs.declared.plans.counter.TotalCounter.TheVariants as of
use Rattle.wiring_totals.specs.HelperCounters.{ControlWires, EachGroup, IsCounterOnPanel, RingWires, entry_of, exit_of, place_of, positions_of}
use Rattle.wire_gen.proofs.JoinLines.{by-one}
use Rattle.wiring_lines.proofs.Below.wiring_table.Groups.{is-single}
use Rattle.wiring_lines.specs.Below.wiring_table.Parts.{HasPanelGroup, IsPlaceOf, ServesPosition, ServesTotal, StandsAt, counter_for, group_for, panel_group, top_for, top_group}

-- a wire of each group of a counter is one of some group of it
pub each-there : (P : Wires) (wires : Group → Wires) (counter : TotalCounter) (exit to : Hub) → EachGroup counter wires exit to
    → ((group : Group) → HasPanelGroup counter group → wires group exit to → P exit to) → P exit to
each-there P wires (of.Single own) exit to w each = each (panel_group own) refl w
each-there P wires (of.Coupled lower upper) exit to (first w) each = each (panel_group lower) (inl refl) w
each-there P wires (of.Coupled lower upper) exit to (second w) each = each (panel_group upper) (inr refl) w

-- and a wire of some group of it is one of them
pub each-back : (wires : Group → Wires) (counter : TotalCounter) (group : Group) {exit to : Hub} → HasPanelGroup counter group
    → wires group exit to → EachGroup counter wires exit to
each-back wires (of.Single own) group {exit} {to} has w = subst (λ g. wires g exit to) (sym has) w
each-back wires (of.Coupled lower upper) group {exit} {to} (inl has) w = first (subst (λ g. wires g exit to) (sym has) w)
each-back wires (of.Coupled lower upper) group {exit} {to} (inr has) w = second (subst (λ g. wires g exit to) (sym has) w)

-- an exit to a control of a counter
pub controls-there : (P : Wires) (from : Hub) (control : Group → Hub) (counter : TotalCounter) (exit to : Hub)
    → ControlWires from control counter exit to
    → ((group : Group) → HasPanelGroup counter group → P from (control group)) → P exit to
controls-there P from control counter exit to w each =
    each-there P (λ group. One from (control group)) counter exit to w (λ group has its. by-one P its (each group has))

-- the place of a position is one of a group of its counter
pub place-there : (counter : TotalCounter) (position : ℕ) → IsCounterOnPanel counter → 1 ≤ position → position ≤ positions_of counter
    → IsPlaceOf counter position (place_of counter position).0 (place_of counter position).1
place-there (of.Single own) position on_panel from to = record { from = from; to = to; at = (refl, refl) }
place-there (of.Coupled lower upper) position on_panel from to = by (nat_le position lower.width) refl
  where
    by : (low : Bool) → nat_le position lower.width ≡ low
        → IsPlaceOf (of.Coupled lower upper) position
        (if◌then◌else◌ {A = Group × ℕ} low (panel_group lower, position) (panel_group upper, position - lower.width)).0
        (if◌then◌else◌ {A = Group × ℕ} low (panel_group lower, position) (panel_group upper, position - lower.width)).1
    by true is = record { from = from; to = grind (arith, nat_tests, is); at = inl (refl, refl) }
    by false is =
        let above : lower.width < position = grind (arith, nat_tests, is) in
        record { from = omega (arith, above); to = omega (arith, above, to); at = inr (refl, omega (arith, above)) }

-- and a position stands at no other place
pub place-back : (counter : TotalCounter) (position : ℕ) (group : Group) (place : ℕ) → IsPlaceOf counter position group place
    → place_of counter position ≡ (group, place)
place-back counter position group place is = by counter is.at
  where
    by : (its : TotalCounter) → StandsAt its position group place
        → place_of its position ≡ (group, place)
    by (of.Single own) stands = cc (stands.0, stands.1)
    by (of.Coupled lower upper) (inl stands) =
        let wide : lower.width ≡ group.width = ap (λ (g : Group). g.width) stands.0 in
        let last = is.to in
        let at = stands.1 in
        let low : nat_le position lower.width ≡ true = grind (arith, nat_tests, wide, last, at) in
        ap (λ b. if b then (panel_group lower, position) else (panel_group upper, position - lower.width)) low
        ∙ cc (stands.0, stands.1)
    by (of.Coupled lower upper) (inr stands) =
        let from = is.from in
        let at = stands.1 in
        let high : nat_le position lower.width ≡ false = grind (arith, nat_tests, from, at) in
        let same : position - lower.width ≡ place = omega (arith, at) in
        ap (λ b. if b then (panel_group lower, position) else (panel_group upper, position - lower.width)) high
        ∙ cc (stands.0, same)

-- hubs of a place by another that is the same
pub to-place : {from : Hub} {at other : Group × ℕ} → at ≡ other → One from (entry_of at) from (entry_of other)
to-place {from} {at} {other} e = subst (λ p. One from (entry_of at) from (entry_of p)) e one

pub from-place : {to : Hub} {at other : Group × ℕ} → at ≡ other → One (exit_of at) to (exit_of other) to
from-place {to} {at} {other} e = subst (λ p. One (exit_of at) to (exit_of p) to) e one

pub between-places : {at other to next : Group × ℕ} → at ≡ other → to ≡ next
    → One (exit_of at) (entry_of to) (exit_of other) (entry_of next)
between-places {at} {other} {to} {next} e f =
    subst (λ p. One (exit_of at) (entry_of to) (exit_of other) (entry_of p)) f
    (subst (λ p. One (exit_of at) (entry_of to) (exit_of p) (entry_of to)) e one)

module _ (lines : List Line) (plan : Lists) (number : ℕ) (counter : TotalCounter)
    (served : counter_for lines plan number ≡ Some counter) where
  -- the groups of a counter serve its total, and its top group has the balance
  pub serves-there : (group : Group) → HasPanelGroup counter group → ServesTotal lines plan number group
  serves-there group has = record { counter = counter; there = served; has = has }

  pub top-there : top_for lines plan number ≡ Some (top_group counter)
  top-there = ap (option_map top_group) served

  pub position-there : (position : ℕ) → IsCounterOnPanel counter → 1 ≤ position → position ≤ positions_of counter
      → ServesPosition lines plan number position (place_of counter position).0 (place_of counter position).1
  position-there position on_panel from to =
      record { counter = counter; there = served; at = place-there counter position on_panel from to }

  -- no other counter serves it
  same-counter : (other : TotalCounter) → counter_for lines plan number ≡ Some other → other ≡ counter
  same-counter other there = same_Some other counter (sym there ∙ served)

  pub serves-back : (group : Group) → ServesTotal lines plan number group → HasPanelGroup counter group
  serves-back group serves = subst (λ c. HasPanelGroup c group) (same-counter serves.counter serves.there) serves.has

  pub top-back : (top : Group) → top_for lines plan number ≡ Some top → top_group counter ≡ top
  top-back top is = same_Some (top_group counter) top (sym top-there ∙ is)

  pub position-back : (position : ℕ) (group : Group) (place : ℕ) → ServesPosition lines plan number position group place
      → place_of counter position ≡ (group, place)
  position-back position group place serves =
      place-back counter position group place
      (subst (λ c. IsPlaceOf c position group place) (same-counter serves.counter serves.there) serves.at)

  -- the carry wires of a pair, and the ring of one group
  pub pair-back : (wires : TotalCounter → Wires) (lower upper : CounterGroup) {exit to : Hub}
      → counter_for lines plan number ≡ Some (of.Coupled lower upper) → wires (of.Coupled lower upper) exit to → wires counter exit to
  pair-back wires lower upper {exit} {to} there w =
      subst (λ c. wires c exit to) (same-counter (of.Coupled lower upper) there) w

  pub ring-back : (group : Group) → group_for lines plan number ≡ Some group → RingWires counter (CO group) (CI group)
  ring-back group is =
      let single = is-single lines plan number group is in
      subst (λ c. RingWires c (CO group) (CI group)) (same-counter (of.Single single.own) single.there)
      (subst (λ g. One (CO (panel_group single.own)) (CI (panel_group single.own)) (CO g) (CI g)) single.is_group one)
