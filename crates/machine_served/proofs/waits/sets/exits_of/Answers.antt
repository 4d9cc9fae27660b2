use Rattle.std.proofs.Common.{◌∙◌, ◌||◌, ◌&&◌, ap, arith, sym}
use Rattle.std.specs.Prelude.{◌==◌}
use Rattle.net.proofs.NetWires.{no_hub}
use Rattle.net.specs.HubSets.{is_hub}
use Rattle.net.specs.Panel.{owner_of}
use Rattle.machine_served.proofs.WaitsWords.Below.{all_below, none_below, one_more}
use Rattle.machine_served.proofs.waits.sets.exits_of.Goals as goal
use Rattle.machine_served.proofs.waits.sets.exits_of.Goals.{in-Some, in_default}

pub loop-number-init : goal.loop-number-init
loop-number-init c hub = c.new-exits.ensures hub ∙ sym (ap (λ b. b && (owner_of hub == c.args.unit)) (none_below hub))

pub loop-number-preserved : goal.loop-number-preserved
loop-number-preserved c =
    elim c.match-of_number.branch [
      | in-Some w ↦ λ hub.
          rw w.exits-is
          (w.insert_where.ensures hub
          ∙ ap (λ b. b || ((w.owner_of.result == c.args.unit) && is_hub w.in-Some.hub hub)) (c.loop-number.invariant hub)
          ∙ ap (λ owner. _ || ((owner == c.args.unit) && is_hub w.in-Some.hub hub)) w.owner_of.ensures
          ∙ one_more (λ hub. owner_of hub == c.args.unit) c.loop-number.number w.in-Some.hub hub w.in-Some.ensures.numbered)
      | in_default w ↦ absurd (no_hub c.loop-number.number (omega arith) (omega arith) w.in_default.ensures.found)
    ]

pub returns : goal.returns
returns c hub =
    c.loop-number.invariant hub ∙ ap (λ b. b && (owner_of hub == c.args.unit)) (all_below c.loop-number.number hub (omega arith))
