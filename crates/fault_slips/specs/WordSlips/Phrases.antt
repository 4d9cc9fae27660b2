-- What belongs at each stage of a form, in words.
use Rattle.std.specs.Prelude.{ℕ, List}
use Rattle.fault_slips.specs.declared.word_slips.stage.Stage.{Stage}
use Rattle.fault_slips.specs.declared.word_slips.stage.Stage.TheVariants as stage
use Rattle.fault_slips.specs.declared.wording.TheConstants as wording

unfoldable pub phrase : Stage → List ℕ
phrase stage.FieldName = wording.A_NEW_NAME.now
phrase stage.FieldKind = wording.TEXT_OR_AMOUNT.now
phrase stage.TextFirst = wording.THE_FIRST_COLUMN.now
phrase stage.TextLast = wording.THE_LAST_COLUMN.now
phrase stage.AmountFirst = wording.THE_FIRST_COLUMN.now
phrase stage.AmountLast = wording.THE_LAST_COLUMN.now
phrase stage.Decimals = wording.THE_NUMBER_OF_DECIMALS.now
phrase stage.SignWord = wording.X_OR_NX.now
phrase stage.SignColumn = wording.THE_SIGN_COLUMN.now
phrase stage.ControlLevel = wording.A_LEVEL_1_TO_3.now
phrase stage.ControlName = wording.THE_NAME_OF_A_FIELD.now
phrase stage.PrintKind = wording.DETAIL_OR_GROUP.now
phrase stage.HeadLine = wording.A_HEADING_LINE.now
phrase stage.HeadWheel = wording.A_WHEEL.now
phrase stage.HeadLiteral = wording.A_LITERAL.now
phrase stage.DetailWheel = wording.A_WHEEL.now
phrase stage.DetailItem = wording.A_NAME_OR_A_LITERAL.now
phrase stage.DetailOption = wording.INDICATE_OR_MARK.now
phrase stage.IndicatedLevel = wording.A_LEVEL_1_TO_3.now
phrase stage.MarkSign = wording.CREDIT_OR_MINUS.now
phrase stage.TotalLevel = wording.A_LEVEL_1_TO_4.now
phrase stage.TotalWheel = wording.A_WHEEL.now
phrase stage.TotalItem = wording.A_NAME_OR_A_LITERAL.now
phrase stage.TotalDigits = wording.THE_NUMBER_OF_DIGITS.now
phrase stage.TotalOption = wording.MARK_OR_COUPLED.now
phrase stage.TotalMark = wording.MARK_OR_NOTHING.now
phrase stage.SpaceKind = wording.DETAIL_OR_TOTAL.now
phrase stage.SpaceLevel = wording.A_LEVEL_1_TO_4.now
phrase stage.SpaceCount = wording.A_SPACING.now
phrase stage.AfterKind = wording.DETAIL_OR_TOTAL.now
phrase stage.AfterLevel = wording.A_LEVEL_1_TO_4.now
phrase stage.AfterWhat = wording.PAGE_OR_SKIP.now
phrase stage.SkipChannel = wording.A_CHANNEL.now
phrase stage.FormLines = wording.THE_NUMBER_OF_LINES.now
phrase stage.FormFirst = wording.THE_FIRST_LINE.now
phrase stage.FormOverflow = wording.THE_OVERFLOW_LINE.now
phrase stage.TapeChannel = wording.A_CHANNEL.now
phrase stage.FirstStop = wording.A_STOP.now
phrase (stage.Stops left) = wording.A_FURTHER_STOP.now
phrase stage.Nothing = wording.THE_END_OF_THE_LINE.now
