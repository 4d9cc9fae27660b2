use Rattle.std.proofs.Common.{refl}
use Rattle.card_code.specs.CardCode.{code, rows_of}
use Rattle.card_code.specs.Columns.{column_of}
use Rattle.card_code.specs.declared.code.TheConstants.{LISTED}
use Rattle.card_code.proofs.Tables.{listed-right}
use Rattle.card_code.proofs.code.listed_set.Goals as goal

pub returns : goal.returns
unfolding code rows_of column_of
returns c = listed-right code LISTED c.args.byte refl refl c.ranges.byte.fits
