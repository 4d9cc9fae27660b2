use Rattle.std.proofs.Common.{refl, [], ◌∷◌, arith}
use Rattle.report_misfits.proofs.open_total.OpenTotalDefault.default.Goals as goal

pub from_characters-requires : goal.from_characters-requires
from_characters-requires c = record { token = 65 ∷ []; is_name = record { spelled = refl; short = omega arith; filled = refl } }
