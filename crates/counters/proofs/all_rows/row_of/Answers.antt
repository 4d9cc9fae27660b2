use Rattle.counters.proofs.SetDigits.{row-of}
use Rattle.counters.proofs.all_rows.row_of.Goals as goal

pub returns : goal.returns
returns c row = row-of c.args.digit row c.requires
