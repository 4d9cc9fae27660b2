use Rattle.card_code.specs.Lines.{lines_of}
use Rattle.std.proofs.Common.{arith, sym, ◌-◌}
use Rattle.fault_slips.proofs.LineMarks.Passing.{after-first, line-at, past-last}
use Rattle.fault_slips.proofs.line_marks.numbered.line_numbered.Goals as goal

pub returns-in_default : goal.returns-in_default
returns-in_default c =
    sym (past-last (lines_of c.args.source.now) (lines_of c.loop-passed.rest.now) c.loop-passed.passed (c.args.number - 1)
    c.in_default.ensures.none (omega (arith, c.loop-passed-test.true, c.saturating_sub-passed-end.ensures)) c.loop-passed.invariant)

pub loop-passed-preserved : goal.loop-passed-preserved
loop-passed-preserved c =
    after-first (lines_of c.args.source.now) (lines_of c.loop-passed.rest.now) (lines_of c.in-Some.after.now) c.in-Some.field-0-0.now
    c.loop-passed.passed c.in-Some.ensures.first c.loop-passed.invariant

pub returns-in-Some-next_line : goal.returns-in-Some-next_line
returns-in-Some-next_line c =
    line-at (lines_of c.args.source.now) (lines_of c.loop-passed.rest.now) (lines_of c.in-Some-next_line.field-0-1.now)
    c.in-Some-next_line.line.now c.loop-passed.passed (c.args.number - 1) c.in-Some-next_line.ensures.first
    (omega (arith, c.loop-passed-test.false, c.loop-passed.auto.passed-end, c.saturating_sub-passed-end.ensures)) c.loop-passed.invariant

pub returns-in-None : goal.returns-in-None
returns-in-None c =
    sym (past-last (lines_of c.args.source.now) (lines_of c.loop-passed.rest.now) c.loop-passed.passed (c.args.number - 1)
    c.in-None.ensures.none (omega (arith, c.loop-passed.auto.passed-end, c.saturating_sub-passed-end.ensures)) c.loop-passed.invariant)
