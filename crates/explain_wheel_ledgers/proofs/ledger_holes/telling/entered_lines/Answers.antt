use Rattle.std.proofs.Common.{subst, ℕ}
use Rattle.std.specs.Prelude.{IfOk}
use Rattle.explain_wheel_ledgers.proofs.LedgerHoles.Texts.{entered-by}
use Rattle.explain_wheel_ledgers.specs.LedgerHoles.Digits.{AreDigitLines}
use Rattle.explain_wheel_ledgers.proofs.ledger_holes.telling.entered_lines.Goals as goal

pub returns-in-Plus : goal.returns-in-Plus
returns-in-Plus c passed is =
    let entry = c.args.entry.now in
    entered-by c.digit_lines.result is.has c.args.account entry entry.change c.in-Plus.is
    (subst
    (λ (n : ℕ). IfOk c.digit_lines.result (λ lines.
    AreDigitLines is.has entry.cycle entry.card c.args.account n 1 entry.entered lines.items))
    c.positions_of.ensures.value (c.digit_lines.ensures passed is))
