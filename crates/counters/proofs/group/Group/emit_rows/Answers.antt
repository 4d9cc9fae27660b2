use Rattle.std.proofs.Common.{◌∙◌, ◌≤◌, ◌&&◌, ◌||◌, ap, sym, arith, take}
use Rattle.std.proofs.lemmas.Bool.Decides.{nat_tests}
use Rattle.std.proofs.lemmas.List.{length-take-le}
use Rattle.card_code.specs.Rows.{passing_place, row_number}
use Rattle.net.specs.HubRows.{has_row_at}
use Rattle.counters.specs.Counters.{Counter, shows}
use Rattle.counters.specs.Fields.{counter_in}
use Rattle.counters.proofs.ShownRows.{shows-sets}
use Rattle.counters.proofs.group.Group.emit_rows.Goals as goal

pub returns-then-self : goal.returns-then-self
returns-then-self c row hub =
    let counter : Counter = counter_in c.self.inside in
    let width = c.self.inside.name.width in
    let small : width ≤ 8 = grind (arith, nat_tests, c.self.invariant.width) in
    let shown = shows counter.name (row_number row) counter.digits hub in
    let old = has_row_at c.args.sets.now (passing_place row) hub in
    rw (sym c.self.view_is)
    (c.insert_sets_at.ensures (passing_place row) hub
    ∙ ap (λ b. old || b)
    (shows-sets counter.name (row_number row) (passing_place row) (take width c.self.inside.digits) c.rows_shown-shown.result hub c.self.invariant.width
    c.self.invariant.named (length-take-le width c.self.inside.digits (omega (arith, small))) (λ k. c.rows_shown-shown.ensures row k))
    ∙ ap (λ b. old || (b && shown)) (sym c.if-self.true))
