use Rattle.std.proofs.Common.{◌≡◌, ◌==◌, arith, Bool, false, not, refl, true}
use Rattle.chart_rules.proofs.PrintedRows.{printed}
use Rattle.chart_rules.proofs.texts.unprinted_bits.Goals as goal
use mir.Val.{bool_byte}

pub returns : goal.returns
returns c none = printed c.args.set c.requires.small c.requires.character (by (c.args.set == 1536) c.from.ensures)
  where
    by : (same : Bool) → c.from.result ≡ bool_byte (not same) → same ≡ false
    by true is = absurd (omega (arith, is, none))
    by false is = refl
