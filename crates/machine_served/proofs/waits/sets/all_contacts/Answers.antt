use Rattle.std.proofs.Common.{◌≡◌, ◌∙◌, ◌||◌, ◌&&◌, ap, arith, sym, refl, Bool, true, false}
use Rattle.net.proofs.NetWires.{no_hub}
use Rattle.net.specs.HubSets.{is_hub}
use Rattle.machine_served.proofs.WaitsWords.Below.{all_below, none_below, one_more}
use Rattle.machine_served.proofs.waits.sets.all_contacts.Goals as goal
use Rattle.machine_served.proofs.waits.sets.all_contacts.Goals.{in-Some, in_default}

pub loop-number-init : goal.loop-number-init
loop-number-init c hub = c.new-contacts.ensures hub ∙ sym (ap (λ b. b && true) (none_below hub))

pub loop-number-preserved : goal.loop-number-preserved
loop-number-preserved c =
    elim c.match-of_number.branch [
      | in-Some w ↦ λ hub.
          rw w.contacts-is
          (w.insert.ensures hub ∙ ap (λ b. b || is_hub w.in-Some.hub hub) (c.loop-number.invariant hub)
          ∙ one_more (λ hub. true) c.loop-number.number w.in-Some.hub hub w.in-Some.ensures.numbered)
      | in_default w ↦ absurd (no_hub c.loop-number.number (omega arith) (omega arith) w.in_default.ensures.found)
    ]

both : (b : Bool) → (b && true) ≡ b
both true = refl
both false = refl

pub returns : goal.returns
returns c hub = c.loop-number.invariant hub ∙ both _ ∙ all_below c.loop-number.number hub (omega arith)
