use Rattle.std.proofs.Common.{take, reverse, ◌≡◌, ◌≤◌, ◌-◌, ◌+◌, ◌*◌, ◌∙◌, sym, ap, arith, length, ℕ, List, true}
use Rattle.std.proofs.lemmas.Bool.Decides.{nat_tests}
use Rattle.std.proofs.lemmas.List.{length-reverse, length-take-le}
use borrow.Rule.Slice.PartMut.{post_of}
use Rattle.card_code.specs.Rows.{row_number}
use Rattle.hubs.specs.HubTable.Places.{positions_before}
use Rattle.hubs.specs.declared.hub.Hub.TheVariants.{GE}
use Rattle.net.proofs.KindRows.{row_bit, GE_numbered}
use Rattle.net.specs.HubSets.{has_hub, is_bit}
use Rattle.net.specs.declared.cycle.Point.TheVariants.{Row}
use Rattle.counters.specs.Counters.{Counter, counter_sensed, entered_after, takes, all_taken}
use Rattle.counters.specs.Fields.{counter_in}
use Rattle.counters.proofs.TakenRows.{entered_after-taking, take-first_part, taken-by_bits}
use Rattle.counters.proofs.group.GroupUnit.sense.Goals as goal

pub returns-then-takes : goal.returns-then-takes
returns-then-takes c =
    let counter : Counter = counter_in c.self.inside in
    let width = c.self.inside.name.width in
    let row = row_number c.in-Row.row in
    let picture = has_hub c.args.picture.now in
    let bits = c.low_half.result in
    let old = take width c.self.inside.entered in
    let new = c.take_row.new.entered in
    let rest = post_of 0 width c.self.inside.entered in
    let impulsed = λ (position : ℕ). is_bit bits (position - 1) in
    let value : c.number-row.result ≡ row = c.number-row.ensures.value in
    let small : width ≤ 8 = grind (arith, nat_tests, c.self.invariant.width) in
    let long : length old ≡ width = length-take-le width c.self.inside.entered (omega arith) in
    let taking : takes counter.controls row ≡ true
    = ap (λ r. takes counter.controls r) (sym value) ∙ sym c.takes.ensures ∙ c.if-takes.true in
    let is : reverse new ≡ all_taken row impulsed (reverse old)
    = taken-by_bits c.number-row.result bits old new c.take_row.ensures.positions c.take_row.ensures.entered
    ∙ ap (λ r. all_taken r impulsed (reverse old)) value in
    let after : reverse new ≡ entered_after counter row picture
    = entered_after-taking counter row picture impulsed width (reverse new) taking (omega (arith, long, length-reverse old))
    (λ position from to.
    c.low_half.ensures (position - 1) (omega (arith, small, to))
    ∙ row_bit (λ n. GE counter.name n) (1100 + positions_before width + (counter.name.number - 1) * width) width
    (GE_numbered counter.name c.self.invariant.width c.self.invariant.named) c.row-impulsed.result position c.args.picture.now
    (grind (arith, nat_tests, from, to)) (omega (arith, small)) c.row-impulsed.ensures.hubs)
    is in
    let made : List ℕ → Counter = λ entered. record counter { entered = entered } in
    ap made (ap (λ (xs : List ℕ). reverse xs) (take-first_part width new rest (c.take_row.ensures.positions ∙ long)) ∙ after)
    ∙ ap (λ (k : Counter). counter_sensed k c.args._cycle (Row c.in-Row.row) picture) c.self.view_is
    ∙ ap (λ p. counter_sensed c.args.self.now c.args._cycle p picture) (sym c.in-Row.is)
