use Rattle.std.proofs.Common.{◌≡◌, ◌∙◌, ◌||◌, ap, arith, true}
use Rattle.std.proofs.lemmas.Bool.Decides.{nat_tests}
use Rattle.card_code.specs.Rows.{passing_place}
use Rattle.hubs.specs.Hubs.{is_within}
use Rattle.net.specs.HubRows.{has_row_at}
use Rattle.print_unit.proofs.EmittedRows.{emitted-sets}
use Rattle.print_unit.proofs.emitters.emit_each.Goals as goal

pub returns : goal.returns
returns c row hub =
    let within : is_within c.args.emitter 8 ≡ true = grind (arith, nat_tests, c.requires.from, c.requires.to) in
    c.insert_sets_at.ensures (passing_place row) hub
    ∙ ap (λ b. has_row_at c.args.sets.now (passing_place row) hub || b) (emitted-sets c.args.emitter row hub within)
