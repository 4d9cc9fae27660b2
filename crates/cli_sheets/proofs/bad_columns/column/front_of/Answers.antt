use Rattle.std.proofs.Common.{sym, arith}
use Rattle.std.proofs.lemmas.List.{take_all}
use Rattle.cli_sheets.proofs.bad_columns.column.front_of.Goals as goal

pub returns-then-line-lt-CARD_COLUMNS-clause-front : goal.returns-then-line-lt-CARD_COLUMNS-clause-front
returns-then-line-lt-CARD_COLUMNS-clause-front c = sym (take_all 80 c.args.line.now (omega (arith, c.if-line-lt-CARD_COLUMNS.true)))
