use Rattle.std.proofs.Common.{refl, get_or}
use Rattle.std.specs.Prelude.{◌==◌}
use Rattle.card_code.specs.Rows.{passing_place, row_number}
use Rattle.counters.proofs.SetDigits.{no-sets}
use Rattle.counters.proofs.all_rows.rows_shown.Goals as goal

pub loop-k-init : goal.loop-k-init
loop-k-init c = record {
  shown = λ row k. no-sets k (passing_place row) (get_or c.args.digits.now k 0 == row_number row);
  long = refl;
}
