use Rattle.std.proofs.Common.{arith, inr, refl, ◌-◌}
use Rattle.card_code.specs.Lines.{lines_of}
use Rattle.cli_sheets.proofs.SheetsWords.SheetCalls.Going.{line-there, none-passed, none-there, one-passed}
use Rattle.cli_sheets.proofs.sheets.sheet_calls.fields.line_numbered.Goals as goal

pub loop-passed-init : goal.loop-passed-init
loop-passed-init c = none-passed (lines_of c.args.deck.now) 0 refl

pub loop-passed-preserved : goal.loop-passed-preserved
loop-passed-preserved c =
    one-passed (lines_of c.args.deck.now) (lines_of c.loop-passed.rest.now) (lines_of c.in-Some.after.now) c.in-Some.field-0-0.now
    c.loop-passed.passed c.in-Some.ensures.first c.loop-passed.invariant

pub returns-in_default-clause-none : goal.returns-in_default-clause-none
returns-in_default-clause-none c =
    inr (omega (
      arith,
      c.loop-passed-test.true,
      none-there (lines_of c.args.deck.now) (lines_of c.loop-passed.rest.now) c.loop-passed.passed c.in_default.ensures.none
          c.loop-passed.invariant,
    ))

pub returns-in-Some-next_line-clause-found : goal.returns-in-Some-next_line-clause-found
returns-in-Some-next_line-clause-found c = (
  omega arith,
  line-there (lines_of c.args.deck.now) (lines_of c.loop-passed.rest.now) (lines_of c.in-Some-next_line.field-0-1.now)
      c.in-Some-next_line.line.now c.loop-passed.passed (c.args.number - 1) c.in-Some-next_line.ensures.first c.loop-passed.invariant
      (omega (arith, c.loop-passed-test.false, c.loop-passed.auto.passed-end)),
)

pub returns-in-None-clause-none : goal.returns-in-None-clause-none
returns-in-None-clause-none c =
    inr (omega (
      arith,
      c.loop-passed.auto.passed-end,
      c.loop-passed-test.false,
      none-there (lines_of c.args.deck.now) (lines_of c.loop-passed.rest.now) c.loop-passed.passed c.in-None.ensures.none c.loop-passed.invariant,
    ))
