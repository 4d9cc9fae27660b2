-- The controls of a group, by the picture of the control point.
use Rattle.std.proofs.Common.{◌≡◌, ◌∙◌, sym, ap, subst, refl, ℕ, zero, suc, ◌+◌, ◌<◌, ◌↔◌, Bool, true, false, List, Option, length, get_or, arith}
use Rattle.std.proofs.lemmas.Bool.Decides.{nat_tests}
use Rattle.std.proofs.lemmas.List.{get_or-map}
use Rattle.std.specs.Prelude.{IsSome, Vec}
use Rattle.std.specs.declared.alloc.Global.{Global}
use Rattle.counters.specs.Counters.{Counter, controls_of, counter_at_start, counter_sensed, group_of_unit}
use Rattle.counters.specs.Laws.{IsCounter}
use Rattle.counters.specs.declared.controls.Controls.{Controls}
use Rattle.hubs.specs.declared.hub.Group.{Group}
use Rattle.hubs.specs.declared.hub.Hub.{Hub}
use Rattle.hubs.specs.declared.hub.Hub.TheVariants.{MI, PL, RO}
use Rattle.explain_ledgers.proofs.LedgersWords.Points.{StandsAt, reached-stands}
use Rattle.explain_ledgers.proofs.LedgersWords.Whole.{holds, ready-groups}
use Rattle.explain_ledgers.specs.LedgersWords.Ledgers.{group_at, ready}
use Rattle.explain_ledgers.specs.LedgersWords.Running.{HasCycle}
use Rattle.machine.specs.Cycles.{PointStep, Reached, point_at}
use Rattle.machine.specs.Machine.{MachineState, closes, emits, sensed}
use Rattle.net.specs.Impulsed.{IsImpulsed, IsPicture}
use Rattle.net.specs.declared.cycle.Cycle.{Cycle}
use Rattle.net.specs.declared.cycle.Point.{Point}
use Rattle.net.specs.declared.cycle.Point.TheVariants.{C, Row, K}
use Rattle.hubs.specs.SetupsWords.Wiring.{Wiring}
use Rattle.explain_ledgers.proofs.CycleWays.Named.{named}
use Rattle.explain_ledgers.specs.CycleWays.Points.{TellsOf}
use Rattle.explain_wheels.specs.ExplanationsWords.Explanations.{TellsPoint}
use Rattle.explain_ledgers.specs.CycleWays.ToldImpulses.{ControlsAreTold, IsToldBy}

-- whether a point comes behind the control point
abbrev is_later : Point → Bool
is_later C = false
is_later (Row row) = true
is_later K = true

later : (n : ℕ) → is_later (point_at (suc n)) ≡ true
later zero = refl
later (suc zero) = refl
later (suc (suc zero)) = refl
later (suc (suc (suc zero))) = refl
later (suc (suc (suc (suc zero)))) = refl
later (suc (suc (suc (suc (suc zero))))) = refl
later (suc (suc (suc (suc (suc (suc zero)))))) = refl
later (suc (suc (suc (suc (suc (suc (suc zero))))))) = refl
later (suc (suc (suc (suc (suc (suc (suc (suc zero)))))))) = refl
later (suc (suc (suc (suc (suc (suc (suc (suc (suc zero))))))))) = refl
later (suc (suc (suc (suc (suc (suc (suc (suc (suc (suc zero)))))))))) = refl
later (suc (suc (suc (suc (suc (suc (suc (suc (suc (suc (suc zero))))))))))) = refl
later (suc (suc (suc (suc (suc (suc (suc (suc (suc (suc (suc (suc zero)))))))))))) = refl
later (suc (suc (suc (suc (suc (suc (suc (suc (suc (suc (suc (suc (suc n))))))))))))) = refl

controls-same : (group : Counter) (cycle : Cycle) (point : Point) (picture : Hub → Bool) → is_later point ≡ true
    → (counter_sensed group cycle point picture).controls ≡ group.controls
controls-same group cycle C picture is = absurd (grind (arith, nat_tests, is))
controls-same group cycle (Row row) picture is = refl
controls-same group cycle K picture is = refl

-- the picture of the control point, and the controls that it set
record Controlled (wiring : Wiring) (cycle : Cycle) (place : ℕ) (old now : MachineState) : Type 0 where
  picture : Hub → Bool
  is_picture : IsPicture wiring (emits old cycle C) (closes old cycle C) picture
  controls : (group_at now place).controls ≡ controls_of (group_at old place).name picture

pub group-sensed : (cycle : Cycle) (point : Point) (picture : Hub → Bool) (place : ℕ) (mid now : MachineState) → place < length mid.groups
    → now ≡ sensed mid cycle point picture → group_at now place ≡ counter_sensed (group_at mid place) cycle point picture
group-sensed cycle point picture place mid now low is =
    ap (λ (m : MachineState). group_at m place) is
    ∙ get_or-map (λ (g : Counter). counter_sensed g cycle point picture) mid.groups place (counter_at_start 3) (counter_at_start 3) low

controlled : (wiring : Wiring) (cycle : Cycle) (points place : ℕ) (old now : MachineState) → place < length old.groups
    → IsCounter (group_at old place) → Reached wiring cycle (suc points) old now → Controlled wiring cycle place old now
unfolding Reached
controlled wiring cycle zero place old now low lawful (mid, same, step) =
    let first : PointStep wiring cycle C old now = subst (λ (m : MachineState). PointStep wiring cycle C m now) same step in
    record {
      picture = first.picture;
      is_picture = first.is_picture;
      controls =
          ap (λ (g : Counter). g.controls) (group-sensed cycle C first.picture place old now low first.is_new);
    }
controlled wiring cycle (suc points) place old now low lawful (mid, reached, step) =
    let before = controlled wiring cycle points place old mid low lawful reached in
    let at : StandsAt place old mid = reached-stands wiring cycle (suc points) place old mid low lawful reached in
    record {
      picture = before.picture;
      is_picture = before.is_picture;
      controls =
          ap (λ (g : Counter). g.controls)
          (group-sensed cycle (point_at (suc points)) step.picture place mid now (subst (λ (n : ℕ). place < n) (sym at.many) low) step.is_new)
          ∙ controls-same (group_at mid place) cycle (point_at (suc points)) step.picture (later points)
          ∙ before.controls;
    }

-- what is told of a hub at the control point is told of the picture there
told-first : (wiring : Wiring) (cycle : Cycle) (old : MachineState) (hub : Hub) (found : Option (Vec Hub Global)) (picture : Hub → Bool)
    → IsPicture wiring (emits old cycle C) (closes old cycle C) picture → TellsPoint wiring cycle old 0 hub found
    → IsToldBy found (picture hub)
unfolding Reached
told-first wiring cycle old hub found picture is tells =
    let exactly =
    subst (λ (m : MachineState). IsSome found ↔ IsImpulsed wiring (emits m cycle C) (closes m cycle C) hub) tells.reached tells.exactly in
    (λ some. (is hub).1 (exactly.0 some), λ on. exactly.1 ((is hub).0 on))

-- a group as a cycle finds it
pub record Stood (place : ℕ) (old behind : MachineState) : Type 0 where
  pub within : place < length old.groups
  pub lawful : IsCounter (group_at old place)
  pub at : StandsAt place old behind

pub stood : (wiring : Wiring) (deck : List (List ℕ)) (passed : ℕ) (has : HasCycle wiring deck passed) (place : ℕ) → place < 32
    → Stood place (ready has.cycle has.along) has.behind
stood wiring deck passed has place low =
    let old = ready has.cycle has.along in
    let all = holds wiring deck place low has.comes in
    let groups = ready-groups has.cycle has.along in
    let within : place < length old.groups = subst (λ (n : ℕ). place < n) (sym (ap length groups ∙ all.many)) low in
    let lawful : IsCounter (group_at old place) =
    subst (λ (gs : List Counter). IsCounter (get_or gs place (counter_at_start 3))) (sym groups) all.lawful in
    record {
      within = within;
      lawful = lawful;
      at = reached-stands wiring has.cycle 14 place old has.behind within lawful has.goes.reached;
    }

module _ (wiring : Wiring) (deck : List (List ℕ)) (passed : ℕ) (has : HasCycle wiring deck passed) (place : ℕ)
    (found : Option (Vec Hub Global)) (low : place < 32)
  where
    abbrev old : MachineState
    old = ready has.cycle has.along

    abbrev name : Group
    name = group_of_unit (3 + place)

    control : Controlled wiring has.cycle place old has.behind
    control =
        let here = stood wiring deck passed has place low in
        controlled wiring has.cycle 13 place old has.behind here.within here.lawful has.goes.reached

    controls : (group_at has.behind place).controls ≡ controls_of name control.picture
    controls =
        let here = stood wiring deck passed has place low in
        control.controls
        ∙ ap (λ (n : Group). controls_of n control.picture) (sym here.at.stands.name ∙ named wiring deck passed has place low)

    told-at : (hub : Hub) → TellsOf has 0 hub found → IsToldBy found (control.picture hub)
    told-at hub tells = told-first wiring has.cycle old hub found control.picture control.is_picture tells

    plus-told : TellsOf has 0 (PL name) found → IsToldBy found (group_at has.behind place).controls.plus
    plus-told tells = subst (λ (c : Controls). IsToldBy found c.plus) (sym controls) (told-at (PL name) tells)

    minus-told : TellsOf has 0 (MI name) found → IsToldBy found (group_at has.behind place).controls.minus
    minus-told tells = subst (λ (c : Controls). IsToldBy found c.minus) (sym controls) (told-at (MI name) tells)

    read-out-told : TellsOf has 0 (RO name) found → IsToldBy found (group_at has.behind place).controls.read_out
    read-out-told tells = subst (λ (c : Controls). IsToldBy found c.read_out) (sym controls) (told-at (RO name) tells)

pub controls-told : ControlsAreTold
controls-told = record {
  plus = λ wiring deck passed has place found low. plus-told wiring deck passed has place found low;
  minus = λ wiring deck passed has place found low. minus-told wiring deck passed has place found low;
  read_out = λ wiring deck passed has place found low. read-out-told wiring deck passed has place found low;
}
