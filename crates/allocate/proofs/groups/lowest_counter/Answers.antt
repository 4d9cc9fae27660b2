use Rattle.std.proofs.Common.{◌<◌, Some, arith}
use Rattle.std.proofs.lemmas.Bool.Decides.{nat_tests}
use Rattle.allocate.proofs.Aside.{few-for_two, takes-one, takes-two}
use Rattle.allocate.proofs.groups.lowest_counter.Goals as goal

pub returns-in_err-upper : goal.returns-in_err-upper
returns-in_err-upper c =
    let two : 8 < c.args.need = grind (arith, nat_tests, c.if-takes_two.ensures) in
    rw c.from_residual-in_err-upper.ensures
    (few-for_two c.args.need c.args.profile.now c.args.taken.now (Some c.in_ok-lower.lower) two c.in_err-upper.ensures)

pub returns-then-takes_two : goal.returns-then-takes_two
returns-then-takes_two c =
    let two : 8 < c.args.need = grind (arith, nat_tests, c.if-takes_two.ensures) in
    takes-two c.args.need c.args.profile.now c.args.taken.now c.in_ok-lower.lower c.in_ok-upper.upper two
    c.in_ok-lower.ensures c.in_ok-upper.ensures

pub returns : goal.returns
returns c = takes-one c.args.need c.args.profile.now c.args.taken.now c.in_ok-group.group c.in_ok-group.ensures
