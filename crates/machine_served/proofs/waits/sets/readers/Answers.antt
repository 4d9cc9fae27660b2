use Rattle.std.proofs.Common.{◌≡◌, ◌≢◌, ◌∙◌, ◌+◌, arith, sym, subst, true}
use Rattle.std.proofs.lemmas.Bool.{false≢true}
use Rattle.machine_sets.proofs.BitSets.BitLemmas.{is_bit-zero}
use Rattle.net.proofs.NetWires.{no_hub}
use Rattle.hubs.specs.declared.hub.Hub.{Hub}
use Rattle.net.specs.HubSets.{has_hub, is_bit}
use Rattle.machine_served.specs.ServedWords.Orders.{unit_count}
use Rattle.machine_served.specs.ServedWords.Units.{IsUnit}
use Rattle.machine_served.proofs.WaitsWords.Below.{all_below, is_below}
use Rattle.machine_served.proofs.WaitsWords.Readers.{all_read, has_hub-in_range, none_comes, none_first, reader_comes}
use Rattle.machine_served.proofs.waits.sets.readers.Goals as goal
use Rattle.machine_served.proofs.waits.sets.readers.Goals.{in-Some+then-is_other+then-has, in-Some+else-is_other, else-is_other-via-then-is_other+else-has, else-is_other-via-else-is_other, in_default}

pub loop-number-init : goal.loop-number-init
loop-number-init c place = (
  λ at. absurd (false≢true (sym (is_bit-zero place) ∙ at)),
  λ senses. absurd (none_first (has_hub c.args.picture.now) (place + 1) c.args.but senses),
)

pub loop-number-preserved : goal.loop-number-preserved
loop-number-preserved c =
    elim c.match-of_number.branch [
      | in-Some+then-is_other+then-has w ↦
          let unit : IsUnit unit_count w.reader_of-unit.result × (c.args.but ≢ w.reader_of-unit.result) =
          w.is_other.ensures.0 w.if-is_other.true in
          let come = reader_comes (has_hub c.args.picture.now) c.args.but c.loop-number.number w.in-Some.hub w.in-Some.ensures.numbered
          (is_bit c.loop-number.units) w.reader_of-unit.result unit.0 unit.1 (sym w.reader_of-unit.ensures)
          (sym w.has.ensures ∙ w.if-has.true) c.loop-number.invariant in
          rw w.units-is (λ place. (
            λ at. (come place).0 (sym (w.with_bit-units.ensures place) ∙ at),
            λ senses. w.with_bit-units.ensures place ∙ (come place).1 senses,
          ))
      | in-Some+else-is_other w ↦
          rw w.units-is
          (none_comes (has_hub c.args.picture.now) c.args.but c.loop-number.number w.in-Some.hub w.in-Some.ensures.numbered
          (is_bit c.loop-number.units)
          (elim w.else-is_other.branch [
            | else-is_other-via-then-is_other+else-has w' ↦ λ unit another on.
                absurd (false≢true (sym w'.if-has.false ∙ w'.has.ensures ∙ on))
            | else-is_other-via-else-is_other w' ↦ λ unit another on.
                absurd (false≢true (sym w'.if-is_other.false
                ∙ w.is_other.ensures.1
                (subst (IsUnit unit_count) (sym w.reader_of-unit.ensures) unit, λ same. another (same ∙ w.reader_of-unit.ensures))))
          ]) c.loop-number.invariant)
      | in_default w ↦ absurd (no_hub c.loop-number.number (omega arith) (omega arith) w.in_default.ensures.found)
    ]

pub returns : goal.returns
returns c place =
    let within : (hub : Hub) → has_hub c.args.picture.now hub ≡ true → is_below c.loop-number.number hub ≡ true = λ hub on. all_below c.loop-number.number hub (omega arith) ∙ has_hub-in_range c.args.picture.now hub on in
    let read = all_read (has_hub c.args.picture.now) (place + 1) c.args.but c.loop-number.number (omega arith) within in
    (λ at. read.0 ((c.loop-number.invariant place).0 at), λ senses. (c.loop-number.invariant place).1 (read.1 senses))
