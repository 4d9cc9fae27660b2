use Rattle.std.proofs.Common.{◌-◌, refl, arith}
use Rattle.std.proofs.lemmas.Bool.Decides.{nat_tests}
use Rattle.explain_wheel_ledgers.proofs.LedgerHoles.Lists.{two-put}
use Rattle.explain_wheel_ledgers.proofs.LedgerHoles.Texts.{digits-more, digits-none}
use Rattle.explain_wheel_ledgers.proofs.ledger_holes.digits.+digit_lines.Goals as goal

pub returns-then-count-eq0 : goal.returns-then-count-eq0
returns-then-count-eq0 t c passed is =
    let none = c.if-count-eq0.true in
    digits-none is.has c.args.cycle c.args.card c.args.account c.args.count c.args.position c.args.number c.new.result.items
    (grind (arith, nat_tests, none)) c.new.ensures.items

pub returns : goal.returns
returns t c passed is =
    let some = c.if-count-eq0.false in
    digits-more is.has c.args.cycle c.args.card c.args.account c.args.count (c.args.count - 1) c.args.position c.args.number
    c.position_in.result c.in_ok-above.above.items c.in_ok-line.line.items c.in_ok-lines.lines.items (grind (arith, nat_tests, some)) refl
    c.position_in.ensures (c.in_ok-above.ensures passed is) (c.in_ok-line.ensures passed is)
    (two-put c.in_ok-lines.lines.items c.as_slice.result.now c.as_slice-2.result.now c.in_ok-above.above.items c.in_ok-line.line.items
    c.in_ok-lines.ensures c.as_slice.ensures.value c.as_slice-2.ensures.value)
