use Rattle.std.proofs.Common.{sym, subst, Option}
use Rattle.std.specs.Prelude.{IfOk}
use Rattle.explain_origins.specs.declared.holes.Hole.{Hole}
use Rattle.explain_wheel_ledgers.specs.LedgerHoles.Digits.{IsLineBy}
use Rattle.explain_wheel_ledgers.proofs.ledger_holes.digits.line_by.Goals as goal

pub returns-in-None : goal.returns-in-None
returns-in-None c deck passed is =
    subst
    (λ (o : Option Hole). IfOk c.row_line.result (λ line. IsLineBy is.has c.args.card c.args.at_position c.args.digit o line.items))
    (sym c.in-None.is) (c.row_line.ensures deck passed is)
