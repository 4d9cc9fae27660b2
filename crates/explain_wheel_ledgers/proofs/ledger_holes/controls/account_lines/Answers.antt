use Rattle.std.proofs.Common.{◌+◌, sym, subst}
use Rattle.std.specs.Prelude.{IfOk}
use Rattle.counters.specs.Counters.{group_of_unit}
use Rattle.hubs.specs.declared.hub.Group.{Group}
use Rattle.explain_ledgers.specs.declared.ledgers.account.Account.{Account}
use Rattle.explain_wheel_ledgers.specs.LedgerHoles.Controls.{AreAccountLines, AreBothLines, AreControlLines}
use Rattle.explain_wheel_ledgers.proofs.ledger_holes.controls.account_lines.Goals as goal

pub returns-in-One : goal.returns-in-One
returns-in-One c deck passed is =
    subst (λ (a : Account). IfOk c.control_lines.result (λ lines. AreAccountLines is.has a lines.items)) (sym c.in-One.is)
    (subst (λ (g : Group). IfOk c.control_lines.result (λ lines. AreControlLines is.has g lines.items)) c.group_at.ensures
    (c.control_lines.ensures deck passed is))

pub returns-in-Coupled : goal.returns-in-Coupled
returns-in-Coupled c deck passed is =
    let one = c.group_at-in-Coupled.ensures in
    let other = c.group_at-in-Coupled-2.ensures in
    subst (λ (a : Account). IfOk c.both_lines.result (λ lines. AreAccountLines is.has a lines.items)) (sym c.in-Coupled.is)
    (subst (λ (g : Group). IfOk c.both_lines.result (λ lines. AreBothLines is.has g (group_of_unit (3 + c.in-Coupled.upper)) lines.items)) one
    (subst (λ (g : Group). IfOk c.both_lines.result (λ lines. AreBothLines is.has c.group_at-in-Coupled.result g lines.items)) other
    (c.both_lines.ensures deck passed is)))
