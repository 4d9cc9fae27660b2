use Rattle.std.proofs.Common.{arith}
use Rattle.std.proofs.lemmas.Bool.Decides.{nat_tests}
use Rattle.explain_wheel_ledgers.proofs.LedgerHoles.Texts.{digit-came, digit-none}
use Rattle.explain_wheel_ledgers.proofs.ledger_holes.digits.digit_line.Goals as goal

pub returns-then-digit-eq0 : goal.returns-then-digit-eq0
returns-then-digit-eq0 c passed is =
    let none = c.if-digit-eq0.true in
    digit-none is.has c.args.cycle c.args.card c.args.at_position c.args.digit c.new.result.items (grind (arith, nat_tests, none))
    c.new.ensures.items

pub returns : goal.returns
returns c passed is =
    let some = c.if-digit-eq0.false in
    digit-came is.has c.args.cycle c.args.card c.args.at_position c.args.digit c.in_ok-line.line.items c.hole_for-hole.result
    c.entry_at-entry.result c.row_of.result (grind (arith, nat_tests, some)) c.entry_at-entry.ensures c.row_of.ensures
    c.hole_for-hole.ensures (c.in_ok-line.ensures c.args.cards.now passed is)
