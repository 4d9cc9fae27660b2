use Rattle.std.proofs.Common.{◌≡◌, ◌∙◌, ap, sym, arith, ℕ, zero, suc, ◌+◌, ◌-◌, ◌≤◌, ◌||◌, Bool, true, false, refl}
use Rattle.hubs.specs.declared.hub.Hub.{Hub}
use Rattle.net.specs.Cycles.{point_at}
use Rattle.net.specs.HubSets.{has_hub}
use Rattle.net.specs.declared.cycle.Cycle.{Cycle}
use Rattle.machine_served.specs.ServedWords.Units.{all_close, some_unit}
use Rattle.machine_served.specs.ServedUnits.AnyUnit.{AnyUnit, any_kind, unit_at}
use Rattle.machine_served.proofs.served_runs.course.close_all.Goals as goal

or_none : (b : Bool) → b ≡ (b || false)
or_none true = refl
or_none false = refl

none_first : (test : ℕ → Bool) (here : Bool) → here ≡ (here || some_unit test 0)
unfolding some_unit
none_first test here = or_none here

one_more : (test : ℕ → Bool) (unit : ℕ) (old now new : Bool) → 1 ≤ unit → now ≡ (old || some_unit test (unit - 1)) → new ≡ (now || test unit)
    → new ≡ (old || some_unit test (unit + 1 - 1))
unfolding some_unit
one_more test zero old now new from so one = absurd (omega (arith, from))
one_more test (suc unit) old now new from so one =
    let before : suc unit - 1 ≡ unit = omega arith in
    let after : suc unit + 1 - 1 ≡ suc unit = omega arith in
    one ∙ ap (λ b. b || test (suc unit)) so
    ∙ joined old (some_unit test (suc unit - 1)) (test (suc unit))
    ∙ ap (λ n. old || (some_unit test n || test (suc unit))) before
    ∙ ap (λ n. old || some_unit test n) (sym after)
  where
    joined : (a b c : Bool) → ((a || b) || c) ≡ (a || (b || c))
    joined true b c = refl
    joined false b c = refl

-- whether a unit closes the contact with an exit at the control point
closes : (ℕ → AnyUnit) → Cycle → Hub → ℕ → Bool
closes units cycle hub unit = any_kind.closes (units unit) cycle (point_at 0) hub

pub loop-unit-init : goal.loop-unit-init
unfolding closes
loop-unit-init c hub = none_first (closes (unit_at c.args.units.now) c.args.cycle hub) (has_hub c.args.contacts.now hub)

pub loop-unit-preserved : goal.loop-unit-preserved
unfolding closes
loop-unit-preserved c hub =
    one_more (closes (unit_at c.args.units.now) c.args.cycle hub) c.loop-unit.unit (has_hub c.args.contacts.now hub) _ _ c.loop-unit.auto.unit
    (c.loop-unit.invariant hub) (c.close_unit.ensures hub)

pub returns : goal.returns
returns c hub =
    let last : c.loop-unit.unit - 1 ≡ 45 = omega arith in
    c.loop-unit.invariant hub
    ∙ ap (λ n. has_hub c.args.contacts.now hub || all_close any_kind n (unit_at c.args.units.now) c.args.cycle (point_at 0) hub) last
